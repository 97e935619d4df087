use Rattle.armcaps_pool.proofs.Marking.{marked}
use Rattle.armcaps_pool.proofs.marks.mark.Goals as goal

pub returns : goal.returns
returns c = λ other. marked c.args.marks.now c.args.number other c.requires
