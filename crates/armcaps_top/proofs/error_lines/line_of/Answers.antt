use Rattle.std.proofs.Common.{ap, arith, length}
use Rattle.armcaps_report.proofs.Extending.{taken_with_room}
use Rattle.armcaps_top.proofs.ErrorLinesFit.{ending_line_short}
use Rattle.armcaps_top.proofs.error_lines.line_of.Goals as goal

pub returns : goal.returns
returns c =
    rw c.new-line.ensures at (taken_with_room c.push_line.result _ _ _ _ c.push_line.ensures
    (omega (arith, ap length c.new-line.ensures, ending_line_short c.args.ending)))
