use Rattle.armcaps_sanit.proofs.SystemWords.{is_system_insert, is_system_again}
use Rattle.armcaps_sanit.proofs.laws.admission_is_one_merge.Goals as goal

pub returns-clause-stands : goal.returns-clause-stands
returns-clause-stands c = is_system_insert

pub returns-clause-again : goal.returns-clause-again
returns-clause-again c = is_system_again
