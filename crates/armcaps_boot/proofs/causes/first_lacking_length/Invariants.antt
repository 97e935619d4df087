use Rattle.std.proofs.Common.{◌≡◌, ℕ, ◌<◌, ◌≤◌, ◌&&◌, false, not}
use Rattle.armcaps_boot.specs.Causes.{has_length}
use Rattle.armcaps_boot.proofs.causes.first_lacking_length.Given as goal

abbrev pub invariant-loop-length : goal.invariant-loop-length
invariant-loop-length l = (k : ℕ) → 1 ≤ k → k < l.length → (has_length l.lengths k && not (has_length l.core.lengths k)) ≡ false
