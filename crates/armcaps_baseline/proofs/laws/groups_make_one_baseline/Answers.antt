use Rattle.armcaps_baseline.proofs.Baselines.{groups_make_one}
use Rattle.armcaps_baseline.proofs.laws.groups_make_one_baseline.Goals as goal

pub returns : goal.returns
returns c = groups_make_one
