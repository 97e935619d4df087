use Rattle.armcaps_elf.proofs.FirstKind.{none_overlap}
use Rattle.armcaps_elf.proofs.OwnImage.{changed_byte}
use Rattle.armcaps_elf.proofs.laws.changed_byte_is_loaded.Goals as goal

pub returns : goal.returns
returns c = λ file flat place accepted within differs. changed_byte file flat place (none_overlap file accepted) within differs
