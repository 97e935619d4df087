use Rattle.armcaps_top.proofs.PooledBaselines.{tells_baseline}
use Rattle.armcaps_top.proofs.pool_laws.pooled_machines_accept_the_baseline.Goals as goal

pub returns : goal.returns
returns c = tells_baseline
