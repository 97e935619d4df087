use Rattle.std.proofs.Common.{◌+◌, ◌*◌, ◌<◌, arith, length}
use Rattle.armcaps_patch.proofs.Stamps.{last_at_more}
use Rattle.armcaps_patch.proofs.slots.mark_sites.Goals as goal

pub loop-site-preserved : goal.loop-site-preserved
loop-site-preserved c = λ k within.
    let here = c.mark.ensures k within in
    let inside : k < length c.loop-site.slots = omega arith in
    let before = c.loop-site.invariant k inside in
    let more = last_at_more (c.args.from + 4 * k) c.args.sites.now c.loop-site.site-index (record { place = 0; words = 0; number = 0 }) c.loop-site-test.true in
    omega (arith, here, before, more)
