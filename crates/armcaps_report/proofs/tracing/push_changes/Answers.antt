use Rattle.armcaps_enc.specs.Registers.{tracked}
use Rattle.armcaps_sanit.specs.System.{system_word}
use Rattle.armcaps_report.proofs.Ranges.{item_more}
use Rattle.armcaps_report.specs.Trace.{changed_line}
use Rattle.armcaps_report.proofs.tracing.push_changes.Goals as goal

pub loop-register-preserved : goal.loop-register-preserved
loop-register-preserved c = λ overrides old new is_old is_new.
    item_more (λ register. changed_line register (system_word overrides old register) (system_word overrides new register)) tracked c.loop-register.register-index _ _ _ _
    c.loop-register-test.true (c.loop-register.invariant overrides old new is_old is_new)
    (rw (c.word.ensures.stands overrides old is_old, c.word-in-loop-register.ensures.stands overrides new is_new) at c.in_ok-push_change.ensures)
