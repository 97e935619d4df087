use Rattle.armcaps_enc.specs.Registers.{tracked}
use Rattle.armcaps_board.specs.Board.{boot_core}
use Rattle.armcaps_report.specs.Report.{note_lines}
use Rattle.armcaps_report.proofs.Ranges.{item_more}
use Rattle.armcaps_report.proofs.fields.push_notes.Goals as goal

pub loop-register-preserved : goal.loop-register-preserved
loop-register-preserved c =
    item_more (note_lines c.args.boot.now.board.overrides (boot_core c.args.boot.now.board)) tracked c.loop-register.register-index _ _ _ _ c.loop-register-test.true
    c.loop-register.invariant (c.in_ok-push_notes_of.ensures)
