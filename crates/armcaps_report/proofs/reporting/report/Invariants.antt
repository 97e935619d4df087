use Rattle.std.proofs.Common.{◌≡◌, take, string_bytes}
use Rattle.std.specs.List.{flat_map}
use Rattle.armcaps_boot.specs.Findings.{findings_of}
use Rattle.armcaps_report.specs.Report.{group_text, groups}
use Rattle.armcaps_report.proofs.reporting.report.Given as goal

abbrev pub invariant-loop-group : goal.invariant-loop-group
invariant-loop-group l = string_bytes l.text ≡ flat_map (group_text (findings_of l.boot)) (take l.group-index groups)
