use Rattle.std.proofs.Common.{◌≡◌, None, subst, sym}
use Rattle.armcaps_alt.specs.Names.{NameLists}
use Rattle.armcaps_alt.specs.Refusals.{first_refusal}
use Rattle.armcaps_pool.specs.Audits.{features_of}
use Rattle.armcaps_pool.proofs.WorkedImage.{none_refused, worked_image}
use Rattle.armcaps_pool.proofs.tests.worked_verdict.Goals as goal

pub audit-requires-clause-accepted : goal.audit-requires-clause-accepted
audit-requires-clause-accepted g c =
    subst (λ (names : NameLists). first_refusal (features_of names c.empty.result 0x84448004) worked_image
    (record { table = 0; count = 7 }) ≡ None) (sym c.in_ok-names.ensures) (none_refused c.empty.result 0x84448004)
