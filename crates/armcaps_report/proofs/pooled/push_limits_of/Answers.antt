use Rattle.std.proofs.Common.{arith}
use Rattle.armcaps_tables.specs.Rows.{rows_of}
use Rattle.armcaps_report.specs.Pooled.{field_limit}
use Rattle.armcaps_report.proofs.Ranges.{listed_more}
use Rattle.armcaps_report.proofs.pooled.push_limits_of.Goals as goal

pub loop-index-preserved : goal.loop-index-preserved
loop-index-preserved c =
    listed_more (field_limit c.args.baseline.now c.args.register) (rows_of c.args.register) c.loop-index.index _ _ _
    (omega (arith, c.count-index-end.ensures.count, c.loop-index-test.true)) c.loop-index.invariant
    c.in_ok-push_limit_at.ensures
