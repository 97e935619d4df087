use Rattle.std.proofs.Common.{◌≡◌, ◌<◌, ℕ, false}
use Rattle.armcaps_pool.specs.Judging.{differ_in}
use Rattle.armcaps_pool.proofs.differing.differing_byte.Given as goal

-- the bytes passed are equal
abbrev pub invariant-loop-index : goal.invariant-loop-index
invariant-loop-index l = (k : ℕ) → k < l.index → differ_in l.one l.other k ≡ false
