use Rattle.std.proofs.Common.{◌/◌, ◌∙◌, List, ap, ℕ}
use Rattle.std.specs.List.{sum_by}
use Rattle.armcaps_patch.specs.declared.kept.Kept.{Kept}
use Rattle.armcaps_patch.specs.Kept.{Planned}
use Rattle.armcaps_patch.proofs.Standing.{words_stand}
use Rattle.armcaps_patch.proofs.planning.Plan.count_words.Goals as goal

pub returns : goal.returns
returns c = λ features image layout stands.
    let words : List Kept → ℕ = sum_by (λ (kept : Kept). kept.len / 4) in
    c.words_of_kept.ensures ∙ ap words c.deref.ensures.value ∙ ap (λ (plan : Planned). words plan.kept) c.self.view_is
    ∙ words_stand _ features image layout stands
