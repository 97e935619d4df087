use Rattle.armcaps_bits.proofs.Puts.{one_put}
use Rattle.armcaps_bits.proofs.laws.ranges_agree.Goals as goal

pub returns-clause-put : goal.returns-clause-put
returns-clause-put c = one_put
