-- The index of a plan: for each place of a word, the last kept entry whose site covers it.
use Rattle.std.specs.Prelude.{◌≡◌, ◌+◌, ◌*◌, ◌%◌, ◌^◌, ◌<◌, ◌≤◌, ◌&&◌, ℕ, Bool, List, [], ◌∷◌, if◌then◌else◌, MatchOption, Some, suc, max, slice_get, nat_le, nat_lt}
use Rattle.armcaps_image.specs.Last.{last_that}
use Rattle.armcaps_patch.specs.declared.site.Site.{Site}

-- whether a site covers the byte at a place
abbrev pub is_covered : ℕ → Site → Bool
is_covered place site = nat_le site.place place && nat_lt place (site.place + 4 * site.words)

-- a site's stamp on a place: one more than its number where it covers the place, and else 0
abbrev pub stamp_at : Site → ℕ → ℕ
stamp_at site place = if is_covered place site then site.number + 1 else 0

-- the greatest stamp on a place; the order of the sites does not matter
abbrev pub last_at : ℕ → List Site → ℕ
last_at place [] = 0
last_at place (site ∷ sites) = max (stamp_at site place) (last_at place sites)

-- a site's place is a multiple of 4, and what it has fits
pub record IsSite (site : Site) : Type 0 where
  pub aligned : site.place % 4 ≡ 0
  pub below : site.place ≤ 2 ^ 29
  pub few : site.number < 2 ^ 30
  pub words : site.words ≤ 63

-- what a stamp tells of items that are numbered from n on: that none passes, or one more than a number at which the
-- last that passes stands
abbrev pub Tells : {X : Type 0} → (X → Bool) → ℕ → ℕ → List X → Type 0
Tells test stamp n xs =
    MatchOption (last_that test xs) (stamp ≡ 0) (λ x. (k : ℕ) × ((stamp ≡ suc (n + k)) × (slice_get xs k ≡ Some x)))
