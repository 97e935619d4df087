use Rattle.std.proofs.Common.{◌≡◌, ℕ, ◌+◌, ◌*◌, ◌<◌, get_or, length, max, take}
use Rattle.armcaps_patch.specs.Index.{last_at}
use Rattle.armcaps_patch.proofs.slots.mark_sites.Given as goal

-- the sites so far have left their stamps
abbrev pub invariant-loop-site : goal.invariant-loop-site
invariant-loop-site l = (k : ℕ) → k < length l.slots → get_or l.slots k 0 ≡ max (get_or l.initial.slots k 0) (last_at (l.from + 4 * k) (take l.site-index l.sites))
