use Rattle.armcaps_elf.proofs.FirstKind.{none_overlap}
use Rattle.armcaps_elf.proofs.OwnImage.{own_image}
use Rattle.armcaps_elf.proofs.laws.own_image_stays.Goals as goal

pub returns : goal.returns
returns c = λ file accepted. own_image file (none_overlap file accepted)
