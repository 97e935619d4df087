use Rattle.armcaps_enc.specs.Registers.{tracked}
use Rattle.armcaps_board.specs.Board.{boot_core}
use Rattle.armcaps_boot.specs.World.{admitted_cores}
use Rattle.armcaps_report.specs.Lines.{varies_line}
use Rattle.armcaps_report.specs.Report.{varies_among}
use Rattle.armcaps_report.proofs.Ranges.{item_more}
use Rattle.armcaps_report.proofs.registers.push_variations.Goals as goal

pub loop-register-preserved : goal.loop-register-preserved
loop-register-preserved c =
    item_more (λ register. varies_line register (varies_among (boot_core c.args.boot.now.board) (admitted_cores c.args.boot.now.board c.args.boot.now.states) register)) tracked c.loop-register.register-index _ _ _ _ c.loop-register-test.true
    c.loop-register.invariant (rw c.varies_among.ensures at c.in_ok-push_variation.ensures)
