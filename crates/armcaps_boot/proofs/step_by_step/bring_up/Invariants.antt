use Rattle.armcaps_boot.specs.StepByStep.{IsAt}
use Rattle.armcaps_boot.proofs.step_by_step.bring_up.Given as goal

abbrev pub invariant-loop-index : goal.invariant-loop-index
invariant-loop-index l = IsAt l.index l.events l.fn.boot.board l.boot
