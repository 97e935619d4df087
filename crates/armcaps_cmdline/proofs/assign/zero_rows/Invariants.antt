use Rattle.armcaps_cmdline.specs.Overrides.{Assigns}
use Rattle.armcaps_cmdline.proofs.Assignments.{first_zeros}
use Rattle.armcaps_cmdline.proofs.assign.zero_rows.Given as goal

-- the rows so far have 0, the others what they had
abbrev pub invariant-loop-index : goal.invariant-loop-index
invariant-loop-index l = Assigns (first_zeros l.register l.index) l.initial.overrides l.overrides
