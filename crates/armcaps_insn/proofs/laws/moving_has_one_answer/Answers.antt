use Rattle.armcaps_insn.proofs.Moves.{none_in_range, one_moved}
use Rattle.armcaps_insn.proofs.laws.moving_has_one_answer.Goals as goal

pub returns-clause-one : goal.returns-clause-one
returns-clause-one c = one_moved

pub returns-clause-none : goal.returns-clause-none
returns-clause-none c = λ word from to low high new offset move refused moved. none_in_range word from to low high new offset refused moved
