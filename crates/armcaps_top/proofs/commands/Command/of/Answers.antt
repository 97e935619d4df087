use Rattle.armcaps_top.proofs.CoreCounts.{cores_given}
use Rattle.armcaps_top.proofs.commands.Command.of.Goals as goal

pub returns-in-len3-clause-cores : goal.returns-in-len3-clause-cores
returns-in-len3-clause-cores c = cores_given _
