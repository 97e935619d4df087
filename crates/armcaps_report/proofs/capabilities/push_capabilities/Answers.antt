use Rattle.std.proofs.Common.{◌≡◌, arith}
use Rattle.armcaps_boot.specs.Causes.{capability_enabled}
use Rattle.armcaps_boot.specs.World.{early_cores}
use Rattle.armcaps_report.specs.Lines.{capability_line}
use Rattle.armcaps_report.specs.Report.{capability_lines}
use Rattle.armcaps_report.proofs.Ranges.{number_more}
use Rattle.armcaps_report.proofs.capabilities.push_capabilities.Goals as goal

pub loop-number-preserved : goal.loop-number-preserved
loop-number-preserved c =
    number_more (λ number. capability_line (capability_enabled c.args.boot.now.board (early_cores c.args.boot.now.board c.args.boot.now.states) number) number) c.loop-number.number _ _ _ c.loop-number.invariant
    (rw (c.enabled.ensures.after c.requires) at c.in_ok-push_where_enabled.ensures)

pub returns : goal.returns
unfolding capability_lines
returns c =
    let all : c.loop-number.number ≡ 53 = omega (arith, c.loop-number-test.false, c.loop-number.auto.number-end) in
    rw all at c.loop-number.invariant
