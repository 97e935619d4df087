use Rattle.armcaps_board.specs.Board.{boot_core}
use Rattle.armcaps_report.specs.Report.{note_line_at}
use Rattle.armcaps_report.proofs.Ranges.{number_more}
use Rattle.armcaps_report.proofs.fields.push_notes_of.Goals as goal

pub loop-index-preserved : goal.loop-index-preserved
loop-index-preserved c =
    number_more (note_line_at c.args.boot.now.board.overrides (boot_core c.args.boot.now.board) c.args.register) c.loop-index.index _ _ _ c.loop-index.invariant
    (c.in_ok-push_note_at.ensures)
