use Rattle.armcaps_boot.specs.Causes.{hwcap_advertised}
use Rattle.armcaps_boot.specs.World.{early_cores}
use Rattle.armcaps_report.specs.Lines.{flag_text}
use Rattle.armcaps_report.proofs.Ranges.{number_more}
use Rattle.armcaps_report.proofs.hwcaps.push_flags.Goals as goal

pub loop-index-preserved : goal.loop-index-preserved
loop-index-preserved c =
    number_more (λ index. flag_text (hwcap_advertised c.args.boot.now.board (early_cores c.args.boot.now.board c.args.boot.now.states) index) index) c.loop-index.index _ _ _ c.loop-index.invariant
    (rw c.is_advertised.ensures at c.in_ok-push_flag.ensures)
