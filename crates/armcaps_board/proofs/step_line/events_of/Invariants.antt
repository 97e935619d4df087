use Rattle.std.proofs.Common.{◌≡◌, take}
use Rattle.std.specs.List.{flat_map}
use Rattle.armcaps_board.specs.Steps as steps
use Rattle.armcaps_board.proofs.step_line.events_of.Given as goal

abbrev pub invariant-loop-line : goal.invariant-loop-line
invariant-loop-line l = l.events.items ≡ flat_map steps.events_of (take l.line-index l.lines)
