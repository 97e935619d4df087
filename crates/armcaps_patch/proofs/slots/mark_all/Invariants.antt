use Rattle.std.proofs.Common.{◌≡◌, ℕ, ◌+◌, ◌*◌, ◌<◌, get_or, length, max, take}
use Rattle.armcaps_patch.specs.Buckets.{sites_at}
use Rattle.armcaps_patch.specs.Index.{last_at}
use Rattle.armcaps_patch.proofs.slots.mark_all.Given as goal

-- the sites so far have left their stamps
abbrev pub invariant-loop-part : goal.invariant-loop-part
invariant-loop-part l = (k : ℕ) → k < length l.slots
    → get_or l.slots k 0 ≡ max (get_or l.initial.slots k 0) (last_at (l.from + 4 * k) (sites_at l.kept (take (64 * l.part) l.numbers)))
