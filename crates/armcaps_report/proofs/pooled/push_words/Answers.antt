use Rattle.armcaps_enc.specs.Registers.{tracked}
use Rattle.armcaps_baseline.specs.Baselines.{baseline_word}
use Rattle.armcaps_report.specs.Lines.{register_line}
use Rattle.armcaps_report.proofs.Ranges.{item_more}
use Rattle.armcaps_report.proofs.pooled.push_words.Goals as goal

pub loop-register-preserved : goal.loop-register-preserved
loop-register-preserved c =
    item_more (λ register. register_line register (baseline_word c.args.baseline.now register)) tracked
    c.loop-register.register-index _ _ _ _ c.loop-register-test.true c.loop-register.invariant
    (rw c.word.ensures at c.in_ok-push_register.ensures)
