use Rattle.armcaps_top.proofs.PatchedImages.{sites_replaced}
use Rattle.armcaps_top.proofs.patch_laws.patched_images_replace_sites.Goals as goal

pub returns : goal.returns
returns c = sites_replaced c.readings_are_sound.ensures.sound
