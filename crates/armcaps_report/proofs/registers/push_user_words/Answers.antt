use Rattle.armcaps_enc.specs.Registers.{tracked}
use Rattle.armcaps_sanit.specs.Users.{user_word}
use Rattle.armcaps_boot.specs.World.{admitted_cores}
use Rattle.armcaps_report.specs.Lines.{user_line}
use Rattle.armcaps_report.proofs.Ranges.{item_more}
use Rattle.armcaps_report.proofs.registers.push_user_words.Goals as goal

pub loop-register-preserved : goal.loop-register-preserved
loop-register-preserved c =
    item_more (λ register. user_line register (user_word c.args.boot.now.board.overrides (admitted_cores c.args.boot.now.board c.args.boot.now.states) register)) tracked c.loop-register.register-index _ _ _ _ c.loop-register-test.true
    c.loop-register.invariant (rw c.user_word.ensures at c.in_ok-push_user_word.ensures)
