-- Whether an image is the patched one, and where it is not.
use Rattle.std.specs.Prelude.{ℕ, ◌≡◌, ◌≢◌, ◌<◌, ◌==◌, Bool, not, List, Option, Some, None, find, length, slice_index}
use Rattle.std.specs.List.{range_with_len}
use Rattle.armcaps_caps.specs.Set.{holds}
use Rattle.armcaps_alt.specs.Entries.{Features}
use Rattle.armcaps_alt.specs.Names.{NameLists}
use Rattle.armcaps_pool.specs.declared.verdict.Verdict.{Verdict}
use Rattle.armcaps_pool.specs.declared.verdict.Verdict.TheVariants.{Yes, No}

-- what a machine has for its alternatives: what the numbers and callbacks of a table mean, which capabilities are
-- enabled, and the word of CTR_EL0
abbrev pub features_of : NameLists → ℕ → ℕ → Features
features_of names enabled ctr = record { names = names; enabled = holds enabled; ctr = ctr }

-- whether two images differ in the byte at a place
abbrev pub differs_at : List ℕ → List ℕ → ℕ → Bool
differs_at one other place = not (slice_index one place == slice_index other place)

-- the first place at which an image differs from another of its length, if there is one
abbrev pub first_difference : List ℕ → List ℕ → Option ℕ
first_difference one other = find (differs_at one other) (range_with_len 0 (length one))

-- the place that a verdict names: none where the image is as it should be
abbrev pub named_place : Verdict → Option ℕ
named_place Yes = None
named_place (No place) = Some place

-- the bytes of two images at a place are not equal, and all before them are
pub record IsFirstDifference (one other : List ℕ) (place : ℕ) : Type 0 where
  pub within : place < length one
  pub here : slice_index one place ≢ slice_index other place
  pub before : (earlier : ℕ) → earlier < place → slice_index one earlier ≡ slice_index other earlier
