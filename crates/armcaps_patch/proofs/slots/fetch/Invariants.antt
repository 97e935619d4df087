use Rattle.std.proofs.Common.{◌≡◌, ◌<◌, ℕ, get_or}
use Rattle.armcaps_patch.specs.declared.site.Site.{Site}
use Rattle.armcaps_patch.specs.Buckets.{site_at}
use Rattle.armcaps_patch.proofs.slots.fetch.Given as goal

-- the sites so far are fetched
abbrev pub invariant-loop-k : goal.invariant-loop-k
invariant-loop-k l = (j : ℕ) (d : Site) → j < l.k → get_or l.sites j d ≡ site_at l.kept (get_or l.numbers j 0)
