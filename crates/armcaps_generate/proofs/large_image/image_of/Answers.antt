use Rattle.std.proofs.Common.{ℕ, List, ◌++◌, ap, ◌∙◌}
use Rattle.armcaps_generate.specs.LargeImage.{entry_bytes, image_of, laid, replacement_bytes, site_bytes, zeros}
use Rattle.armcaps_generate.proofs.large_image.image_of.Goals as goal

pub returns : goal.returns
unfolding image_of
returns c =
    c.in_ok-push_zeros-3.ensures
    ∙ ap (λ (image : List ℕ). image ++ zeros 408_576) (c.in_ok-push_replacements.ensures
    ∙ ap (λ (image : List ℕ). image ++ laid replacement_bytes c.args.alternatives.now) (c.in_ok-push_zeros-2.ensures
    ∙ ap (λ (image : List ℕ). image ++ zeros 146_432) (c.in_ok-push_sites.ensures
    ∙ ap (λ (image : List ℕ). image ++ laid site_bytes c.args.alternatives.now) (c.in_ok-push_zeros.ensures
    ∙ ap (λ (image : List ℕ). image ++ zeros 22_144) (c.in_ok-push_entries.ensures
    ∙ ap (λ (image : List ℕ). image ++ laid entry_bytes c.args.alternatives.now) c.in_ok-image.ensures.items)))))
