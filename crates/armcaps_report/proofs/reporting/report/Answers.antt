use Rattle.std.proofs.Common.{[]}
use Rattle.armcaps_boot.specs.Findings.{findings_of}
use Rattle.armcaps_report.specs.Report.{group_text, groups}
use Rattle.armcaps_report.proofs.Ranges.{item_more}
use Rattle.armcaps_report.proofs.reporting.report.Goals as goal

pub loop-group-preserved : goal.loop-group-preserved
loop-group-preserved c =
    item_more (group_text (findings_of c.args.boot.now)) groups c.loop-group.group-index _ [] _ _ c.loop-group-test.true
    c.loop-group.invariant c.in_ok-push_group.ensures
