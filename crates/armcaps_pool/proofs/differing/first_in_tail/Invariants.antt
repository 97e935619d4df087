use Rattle.std.proofs.Common.{◌≡◌, ◌<◌, ◌*◌, ◌/◌, ◌&&◌, ℕ, false, length, nat_le}
use Rattle.armcaps_pool.specs.Audits.{differs_at}
use Rattle.armcaps_pool.proofs.differing.first_in_tail.Given as goal

-- the places passed don't differ
abbrev pub invariant-loop-place : goal.invariant-loop-place
invariant-loop-place l =
    (k : ℕ) → k < l.place → (nat_le (length l.image / 4 * 4) k && differs_at l.patched l.image k) ≡ false
