use Rattle.armcaps_top.proofs.AuditedImages.{audited_patched}
use Rattle.armcaps_top.proofs.audit_laws.audited_images_are_patched.Goals as goal

pub returns : goal.returns
returns c = λ input found text read made. audited_patched c.differences_are_told.ensures.equal input found text read made
