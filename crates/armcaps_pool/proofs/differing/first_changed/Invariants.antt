use Rattle.std.proofs.Common.{◌≡◌, ◌<◌, ◌*◌, ℕ, false}
use Rattle.armcaps_pool.specs.Judging.{is_changed}
use Rattle.armcaps_pool.proofs.differing.first_changed.Given as goal

-- no byte of the pieces passed is changed
abbrev pub invariant-loop-piece : goal.invariant-loop-piece
invariant-loop-piece l = (k : ℕ) → k < 128 * l.piece → k < 4 * l.words → is_changed l.marks l.patched l.image k ≡ false
