use Rattle.std.proofs.Common.{◌≡◌, length}
use Rattle.armcaps_pool.specs.Audits.{features_of}
use Rattle.armcaps_pool.specs.Judging.{AreJudged, last_of}
use Rattle.armcaps_pool.proofs.judging.judge_sites.Given as goal

-- the last entries are judged
abbrev pub invariant-loop-done : goal.invariant-loop-done
invariant-loop-done l =
    (length l.marks ≡ length l.fn.marks)
    × AreJudged (features_of l.names l.enabled l.ctr) l.image l.patched
    (last_of (features_of l.names l.enabled l.ctr) l.image l.layout l.done) l.marks l.first
