use Rattle.std.proofs.Common.{◌≡◌, ℕ, ◌<◌, ◌&&◌, false}
use Rattle.armcaps_sanit.specs.Varying.{core_varies}
use Rattle.armcaps_board.specs.Board.{boot_core, core_at}
use Rattle.armcaps_boot.specs.States.{is_admitted}
use Rattle.armcaps_boot.specs.World.{state_at}
use Rattle.armcaps_report.proofs.varying.varies_among.Given as goal

abbrev pub invariant-loop-number : goal.invariant-loop-number
invariant-loop-number l = (k : ℕ) → k < l.number →
    (is_admitted (state_at l.boot.states k) && core_varies (boot_core l.boot.board) (core_at l.boot.board.cores k) l.register) ≡ false
