use Rattle.std.proofs.Common.{◌≡◌, ◌+◌, ◌<◌, ℕ, get_or, length, take}
use Rattle.armcaps_jump.specs.Jumped.{byte_by}
use Rattle.armcaps_jump.proofs.jumped.put_sites.Given as goal

-- the sites so far are put
abbrev pub invariant-loop-site : goal.invariant-loop-site
invariant-loop-site l = (j : ℕ) → j < length l.buffer
    → get_or l.buffer j 0 ≡ byte_by (take l.site-index l.sites) (l.from + j) (get_or l.initial.buffer j 0)
