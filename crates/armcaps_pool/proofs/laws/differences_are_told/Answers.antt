use Rattle.armcaps_pool.proofs.Verdicts.{told_equal, told_first}
use Rattle.armcaps_pool.proofs.laws.differences_are_told.Goals as goal

pub returns-clause-equal : goal.returns-clause-equal
returns-clause-equal c = told_equal

pub returns-clause-first : goal.returns-clause-first
returns-clause-first c = λ one other place long found. told_first one other place found
