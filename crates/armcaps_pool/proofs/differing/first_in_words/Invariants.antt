use Rattle.std.proofs.Common.{◌≡◌, ◌<◌, ◌*◌, ◌&&◌, ℕ, false, nat_le}
use Rattle.armcaps_pool.specs.Judging.{is_changed}
use Rattle.armcaps_pool.proofs.differing.first_in_words.Given as goal

-- no byte of the words passed is changed
abbrev pub invariant-loop-number : goal.invariant-loop-number
invariant-loop-number l =
    (k : ℕ) → k < 4 * l.number → (nat_le (4 * l.begin) k && is_changed l.marks l.patched l.image k) ≡ false
