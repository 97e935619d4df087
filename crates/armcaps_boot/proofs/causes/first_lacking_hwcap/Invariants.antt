use Rattle.std.proofs.Common.{◌≡◌, ℕ, ◌<◌, ◌&&◌, false, not}
use Rattle.armcaps_hwcap.specs.Hwcaps.{core_has_hwcap}
use Rattle.armcaps_hwcap.specs.Words.{set_has_row}
use Rattle.armcaps_boot.proofs.causes.first_lacking_hwcap.Given as goal

abbrev pub invariant-loop-index : goal.invariant-loop-index
invariant-loop-index l = (k : ℕ) → k < l.index → (set_has_row l.hwcaps k && not (core_has_hwcap l.board.overrides l.core k)) ≡ false
