use Rattle.std.proofs.Common.{◌≡◌, ◌+◌, arith}
use Rattle.armcaps_boot.specs.Causes.{is_system_length}
use Rattle.armcaps_boot.specs.World.{early_cores}
use Rattle.armcaps_report.specs.Lines.{length_line}
use Rattle.armcaps_report.proofs.Ranges.{number_more_from}
use Rattle.armcaps_report.proofs.lengths.push_lengths.Goals as goal

pub loop-bit-preserved : goal.loop-bit-preserved
loop-bit-preserved c =
    let order : c.loop-bit.bit + 1 ≡ 1 + c.loop-bit.bit = omega arith in
    number_more_from
    (λ length. length_line (is_system_length c.args.boot.now.board (early_cores c.args.boot.now.board c.args.boot.now.states) length) length)
    1 c.loop-bit.bit _ _ _ c.loop-bit.invariant (rw (c.is_told.ensures, order) at c.in_ok-push_length.ensures)
