use Rattle.armcaps_caps.proofs.Classes.{number_holds}
use Rattle.armcaps_caps.proofs.laws.classes_hold.Goals as goal

pub returns : goal.returns
returns c = number_holds
