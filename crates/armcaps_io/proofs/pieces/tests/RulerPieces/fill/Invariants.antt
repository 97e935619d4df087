use Rattle.std.proofs.Common.{◌≡◌, ℕ, ◌+◌, ◌<◌, ◌%◌, get_or}
use Rattle.armcaps_io.proofs.pieces.tests.RulerPieces.fill.Given as goal

-- each byte so far tells its place
abbrev pub invariant-loop-index : goal.invariant-loop-index
invariant-loop-index l = (k : ℕ) → k < l.index → get_or l.buffer k 0 ≡ (l.from + k) % 251
