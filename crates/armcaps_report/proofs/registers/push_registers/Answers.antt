use Rattle.armcaps_enc.specs.Registers.{tracked}
use Rattle.armcaps_sanit.specs.System.{system_word}
use Rattle.armcaps_boot.specs.World.{admitted_cores}
use Rattle.armcaps_report.specs.Lines.{register_line}
use Rattle.armcaps_report.proofs.Ranges.{item_more}
use Rattle.armcaps_report.proofs.registers.push_registers.Goals as goal

pub loop-register-preserved : goal.loop-register-preserved
loop-register-preserved c =
    item_more (λ register. register_line register (system_word c.args.boot.now.board.overrides (admitted_cores c.args.boot.now.board c.args.boot.now.states) register)) tracked c.loop-register.register-index _ _ _ _ c.loop-register-test.true
    c.loop-register.invariant (rw c.system_word.ensures at c.in_ok-push_register.ensures)
