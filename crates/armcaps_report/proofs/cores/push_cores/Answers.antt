use Rattle.armcaps_boot.specs.World.{state_at}
use Rattle.armcaps_report.specs.Lines.{core_line}
use Rattle.armcaps_report.proofs.Ranges.{number_more}
use Rattle.armcaps_report.proofs.cores.push_cores.Goals as goal

pub loop-number-preserved : goal.loop-number-preserved
loop-number-preserved c =
    number_more (λ number. core_line c.args.boot.now.board.boot number (state_at c.args.boot.now.states number)) c.loop-number.number _ _ _ c.loop-number.invariant
    (c.in_ok-push_core.ensures)
