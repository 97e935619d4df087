use Rattle.armcaps_boot.proofs.WholeRuns.{begins}
use Rattle.armcaps_boot.proofs.laws.machines_begin_with_no_step.Goals as goal

pub returns : goal.returns
returns c = λ board within. begins board within
