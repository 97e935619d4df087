use Rattle.std.proofs.Common.{◌++◌, ap, ◌∙◌}
use Rattle.armcaps_generate.specs.LargeImage.{site_bytes}
use Rattle.armcaps_generate.proofs.Laying.{laid-more}
use Rattle.armcaps_generate.proofs.large_image.push_sites.Goals as goal

pub loop-index-preserved : goal.loop-index-preserved
loop-index-preserved c =
    let more = laid-more site_bytes c.args.alternatives.now c.loop-index.index c.index-alternatives-index.result c.args.image.now.items c.loop-index.image.items c.loop-index-test.true c.loop-index.invariant in
    c.in_ok-push_site.ensures ∙ ap (λ (alternative : _). c.loop-index.image.items ++ site_bytes 0 alternative) c.index-alternatives-index.is ∙ more
