use Rattle.armcaps_enc.specs.Registers.{tracked}
use Rattle.armcaps_report.specs.Pooled.{field_limits}
use Rattle.armcaps_report.proofs.Ranges.{item_more}
use Rattle.armcaps_report.proofs.pooled.push_limits.Goals as goal

pub loop-register-preserved : goal.loop-register-preserved
loop-register-preserved c =
    item_more (field_limits c.args.baseline.now) tracked c.loop-register.register-index _ _ _ _
    c.loop-register-test.true c.loop-register.invariant c.in_ok-push_limits_of.ensures
