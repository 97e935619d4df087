use Rattle.std.proofs.Common.{◌++◌, ap, ◌∙◌}
use Rattle.armcaps_generate.specs.LargeImage.{replacement_bytes}
use Rattle.armcaps_generate.proofs.Laying.{laid-more}
use Rattle.armcaps_generate.proofs.large_image.push_replacements.Goals as goal

pub loop-index-preserved : goal.loop-index-preserved
loop-index-preserved c =
    let more = laid-more replacement_bytes c.args.alternatives.now c.loop-index.index c.index-alternatives-index.result c.args.image.now.items c.loop-index.image.items c.loop-index-test.true c.loop-index.invariant in
    c.in_ok-push_replacement.ensures ∙ ap (λ (alternative : _). c.loop-index.image.items ++ replacement_bytes c.loop-index.index alternative) c.index-alternatives-index.is ∙ more
