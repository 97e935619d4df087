use Rattle.std.proofs.Common.{◌≡◌, ◌++◌, string_bytes}
use Rattle.std.specs.List.{flat_map, range_with_len}
use Rattle.armcaps_boot.specs.Causes.{capability_enabled}
use Rattle.armcaps_boot.specs.World.{early_cores}
use Rattle.armcaps_report.specs.Lines.{capability_line}
use Rattle.armcaps_report.proofs.capabilities.push_capabilities.Given as goal

abbrev pub invariant-loop-number : goal.invariant-loop-number
invariant-loop-number l =
    string_bytes l.text ≡ string_bytes l.initial.text ++ flat_map (λ number. capability_line (capability_enabled l.boot.board (early_cores l.boot.board l.boot.states) number) number) (range_with_len 0 l.number)
