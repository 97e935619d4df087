use Rattle.std.proofs.Common.{◌≡◌, ℕ, ◌&&◌, cond, get_or, max, nat_le, nat_lt}
use Rattle.armcaps_patch.proofs.slots.stamp_range.Given as goal

-- the slots below k are stamped, the others are as they were
abbrev pub invariant-loop-k : goal.invariant-loop-k
invariant-loop-k l = (j : ℕ) → get_or l.slots j 0 ≡ max (get_or l.initial.slots j 0) (cond (nat_le l.begin j && nat_lt j l.k) l.stamp 0)
