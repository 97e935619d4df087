use Rattle.std.proofs.Common.{◌≡◌, ◌++◌, string_bytes}
use Rattle.std.specs.List.{flat_map, range_with_len}
use Rattle.armcaps_boot.specs.World.{state_at}
use Rattle.armcaps_report.specs.Lines.{core_line}
use Rattle.armcaps_report.proofs.cores.push_cores.Given as goal

abbrev pub invariant-loop-number : goal.invariant-loop-number
invariant-loop-number l =
    string_bytes l.text ≡ string_bytes l.initial.text ++ flat_map (λ number. core_line l.boot.board.boot number (state_at l.boot.states number)) (range_with_len 0 l.number)
