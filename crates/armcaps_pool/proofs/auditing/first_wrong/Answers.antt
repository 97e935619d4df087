use Rattle.std.proofs.Common.{ℕ, length, subst, sym}
use Rattle.armcaps_alt.specs.Patched.{patched_image}
use Rattle.armcaps_alt.proofs.Accepting.{selected_accepted}
use Rattle.armcaps_pool.specs.Audits.{differs_at, features_of}
use Rattle.armcaps_pool.specs.Judging.{IsFirst, last_of}
use Rattle.armcaps_pool.proofs.Covering.{all_judged, tail_unmarked}
use Rattle.armcaps_pool.proofs.auditing.first_wrong.Goals as goal

pub judge_sites-in_sites-requires-clause-accepted : goal.judge_sites-in_sites-requires-clause-accepted
judge_sites-in_sites-requires-clause-accepted c = λ number within selected.
    selected_accepted (features_of c.args.names.now c.args.enabled.now c.args.ctr) c.args.image.now c.args.layout number
    c.requires.accepted within selected

pub first_changed-requires-clause-tail : goal.first_changed-requires-clause-tail
first_changed-requires-clause-tail c =
    tail_unmarked (features_of c.args.names.now c.args.enabled.now c.args.ctr) c.args.image.now c.args.patched.now
    (last_of (features_of c.args.names.now c.args.enabled.now c.args.ctr) c.args.image.now c.args.layout c.args.layout.count)
    c.judge_sites-in_sites.new.marks c.judge_sites-in_sites.result c.judge_sites-in_sites.ensures.judged

pub returns : goal.returns
returns c =
    subst (λ (n : ℕ). IsFirst (differs_at c.args.patched.now
    (patched_image (features_of c.args.names.now c.args.enabled.now c.args.ctr) c.args.image.now c.args.layout))
    (length c.args.image.now) n) (sym c.min.ensures)
    (all_judged (features_of c.args.names.now c.args.enabled.now c.args.ctr) c.args.image.now c.args.patched.now
    c.args.layout c.judge_sites-in_sites.new.marks c.judge_sites-in_sites.result c.first_changed.result
    c.judge_sites-in_sites.ensures.judged c.first_changed.ensures)
