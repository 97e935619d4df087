use Rattle.armcaps_pool.specs.Judging.{IsJudged, features_by}
use Rattle.armcaps_pool.proofs.sites.judge_site.Given as goal

-- the words passed are judged
abbrev pub invariant-loop-index : goal.invariant-loop-index
invariant-loop-index l = IsJudged (features_by l.names l.ctr) l.image l.patched l.fn.marks l.entry l.index l.marks l.first
