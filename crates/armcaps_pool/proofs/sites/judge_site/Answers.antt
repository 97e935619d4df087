use Rattle.armcaps_pool.specs.Judging.{features_by}
use Rattle.armcaps_pool.proofs.Judged.{judged_none, judged_more}
use Rattle.armcaps_pool.proofs.sites.judge_site.Goals as goal

pub loop-index-init : goal.loop-index-init
loop-index-init c =
    judged_none (features_by c.args.names.now c.args.ctr) c.args.image.now c.args.patched.now c.args.marks.now
    c.args.entry.now

pub loop-index-preserved : goal.loop-index-preserved
loop-index-preserved c =
    judged_more (features_by c.args.names.now c.args.ctr) c.args.image.now c.args.patched.now c.args.marks.now
    c.args.entry.now c.loop-index.index c.loop-index.marks c.judge_word.new.marks c.loop-index.first c.judge_word.result
    c.min-first.result c.min-first.ensures c.loop-index.invariant c.judge_word.auto.marks c.judge_word.ensures.marked c.judge_word.ensures.first
