use Rattle.std.proofs.Common.{◌≡◌, ◌∙◌, arith, refl, subst, ℕ}
use Rattle.armcaps_pool.specs.Audits.{features_of}
use Rattle.armcaps_pool.specs.Judging.{AreJudged, last_of}
use Rattle.armcaps_pool.proofs.Covering.{judged_nothing, judged_step}
use Rattle.armcaps_pool.proofs.judging.judge_sites.Goals as goal

pub loop-done-init : goal.loop-done-init
loop-done-init c = (
  refl,
  judged_nothing (features_of c.args.names.now c.args.enabled.now c.args.ctr) c.args.image.now c.args.patched.now
      c.args.marks.now c.requires.none,
)

pub loop-done-preserved : goal.loop-done-preserved
loop-done-preserved c = (
  c.judge_entry.ensures.size ∙ c.loop-done.invariant.0,
  judged_step (features_of c.args.names.now c.args.enabled.now c.args.ctr) c.args.image.now c.args.patched.now
      c.args.layout c.loop-done.done c.entry_at-entry.result c.judge_entry.new.marks c.loop-done.first c.judge_entry.result
      c.min-first.result c.loop-done-test.true c.entry_at-entry.ensures c.min-first.ensures
      (c.judge_entry.ensures.judged
      (last_of (features_of c.args.names.now c.args.enabled.now c.args.ctr) c.args.image.now c.args.layout c.loop-done.done)
      c.loop-done.first c.loop-done.invariant.1),
)

pub returns-clause-judged : goal.returns-clause-judged
returns-clause-judged c =
    let whole : c.loop-done.done ≡ c.args.layout.count = omega (arith, c.loop-done.auto.done-end) in
    subst (λ (n : ℕ). AreJudged (features_of c.args.names.now c.args.enabled.now c.args.ctr) c.args.image.now
    c.args.patched.now
    (last_of (features_of c.args.names.now c.args.enabled.now c.args.ctr) c.args.image.now c.args.layout n)
    c.loop-done.marks c.loop-done.first) whole c.loop-done.invariant.1
