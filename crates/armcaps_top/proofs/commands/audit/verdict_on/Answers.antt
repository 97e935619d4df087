use Rattle.std.proofs.Common.{ℕ, List, ap, subst, ◌∙◌, ◌≡◌}
use Rattle.std.specs.Prelude.{IfOk}
use Rattle.armcaps_alt.specs.Patched.{patched_image}
use Rattle.armcaps_alt.specs.Refusals.{first_refusal}
use Rattle.armcaps_boot.specs.Safety.{is_enabled}
use Rattle.armcaps_caps.specs.Set.{holds}
use Rattle.armcaps_patch.specs.Features.{features_of}
use Rattle.armcaps_pool.specs.Audits as pool
use Rattle.armcaps_pool.specs.Audits.{first_difference, named_place}
use Rattle.armcaps_top.proofs.commands.audit.verdict_on.Goals as goal

pub audit-requires-clause-accepted : goal.audit-requires-clause-accepted
audit-requires-clause-accepted c =
    let ctr = c.final_ctr.ensures.after c.requires.finalised in
    c.known_capabilities_decide.ensures.refused c.args.names.now (holds c.enabled_on-enabled.result) (is_enabled c.args.boot.now) c.final_ctr.result
    c.args.image.now c.args.layout c.requires.known c.enabled_on-enabled.ensures
    ∙ (ap (λ (word : ℕ). first_refusal (record { names = c.args.names.now; enabled = is_enabled c.args.boot.now; ctr = word }) c.args.image.now c.args.layout) ctr
    ∙ c.requires.accepted)

pub returns : goal.returns
returns c =
    let ctr = c.final_ctr.ensures.after c.requires.finalised in
    let same : patched_image (pool.features_of c.args.names.now c.enabled_on-enabled.result c.final_ctr.result) c.args.image.now c.args.layout
    ≡ patched_image (features_of c.args.boot.now c.args.names.now) c.args.image.now c.args.layout =
    c.known_capabilities_decide.ensures.patched c.args.names.now (holds c.enabled_on-enabled.result) (is_enabled c.args.boot.now) c.final_ctr.result
    c.args.image.now c.args.layout c.requires.known c.enabled_on-enabled.ensures
    ∙ ap (λ (word : ℕ). patched_image (record { names = c.args.names.now; enabled = is_enabled c.args.boot.now; ctr = word }) c.args.image.now c.args.layout) ctr in
    subst (λ (new : List ℕ). IfOk c.audit.result (λ verdict. named_place verdict ≡ first_difference c.args.judged.now new)) same c.audit.ensures
