use Rattle.std.proofs.Common.{◌≡◌, ◌++◌, string_bytes}
use Rattle.std.specs.List.{flat_map, range_with_len}
use Rattle.armcaps_boot.specs.Causes.{hwcap_advertised}
use Rattle.armcaps_boot.specs.World.{early_cores}
use Rattle.armcaps_report.specs.Lines.{flag_text}
use Rattle.armcaps_report.proofs.hwcaps.push_flags.Given as goal

abbrev pub invariant-loop-index : goal.invariant-loop-index
invariant-loop-index l =
    string_bytes l.text ≡ string_bytes l.initial.text ++ flat_map (λ index. flag_text (hwcap_advertised l.boot.board (early_cores l.boot.board l.boot.states) index) index) (range_with_len 0 l.index)
