-- What comes of a selected entry. Of this file nothing has to be believed: a plan is proved to stand for its image and
-- table.
use Rattle.std.specs.Prelude.{◌≡◌, ℕ, List, None, Some, Result, IfErr, IfOk, false, length, true}
use Rattle.armcaps_alt.specs.declared.patch_kind.PatchKind.{PatchKind}
use Rattle.armcaps_alt.specs.declared.table_entry.Entry.{Entry}
use Rattle.armcaps_alt.specs.Names.{NameLists}
use Rattle.armcaps_alt.specs.Refusals.{first_kind, has_other_length, is_unaligned, tests_of}
use Rattle.armcaps_image.specs.Places.{as_place, is_within}
use Rattle.armcaps_patch.specs.declared.kept.Kept.{Kept}
use Rattle.armcaps_patch.specs.Kept.{IsKept, kept_of}

-- an entry's site is this place of an image of this size, and no kind before ReplacementOutside holds of the entry
pub record IsPlaced (size : ℕ) (entry : Entry) (site : ℕ) : Type 0 where
  pub aligned : is_unaligned entry ≡ false
  pub place : site ≡ as_place entry.site
  pub within : is_within size entry.site entry.orig_len ≡ true
  pub long : has_other_length entry ≡ false

-- what is kept of a selected entry where no kind holds of it, or the least kind that does
pub record KeepsOrRefuses (names : NameLists) (image : List ℕ) (entry : Entry) (found : Result Kept PatchKind)
    : Type 0 where
  pub refused : IfErr found (λ kind. first_kind (tests_of names image entry) ≡ Some kind)
  pub accepted : IfOk found (λ kept. first_kind (tests_of names image entry) ≡ None)
  pub kept : IfOk found (λ kept. kept ≡ kept_of names entry)
  pub each : IfOk found (IsKept (length image))
