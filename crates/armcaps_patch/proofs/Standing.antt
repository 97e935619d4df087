-- What a plan makes of the image that it stands for is the patched image, and what it counts is counted of the selected entries.
use Rattle.std.proofs.Common.{◌≡◌, ◌-◌, ◌/◌, ◌%◌, ◌∷◌, ◌∙◌, ℕ, List, [], ap, arith, length, map, refl, inl, inr}
use Rattle.std.specs.List.{range_with_len, sum_by}
use Rattle.std.proofs.lemmas.Bool.{cases_Bool}
use Rattle.std.proofs.lemmas.List.{length-map}
use Rattle.std.proofs.lemmas.List.Sums.{sum_by-cons}
use Rattle.armcaps_logic.proofs.Lists.{map_agree}
use Rattle.armcaps_logic.proofs.Options.{option_cases}
use Rattle.armcaps_alt.specs.declared.table_entry.Entry.{Entry}
use Rattle.armcaps_alt.specs.declared.table_place.Layout.{Layout}
use Rattle.armcaps_alt.specs.Entries.{Features, selected_of}
use Rattle.armcaps_alt.specs.Names.{callback_named}
use Rattle.armcaps_image.specs.Bytes.{byte_of}
use Rattle.armcaps_image.specs.Last.{last_that}
use Rattle.armcaps_image.specs.Places.{as_place}
use Rattle.armcaps_alt.specs.Patched.{covers, patched_byte, patched_image}
use Rattle.armcaps_alt.specs.Words.{new_word}
use Rattle.armcaps_image.proofs.Last.{last_that-map}
use Rattle.armcaps_patch.specs.declared.kept.Kept.{Kept}
use Rattle.armcaps_patch.specs.Counting.{words_of_sites}
use Rattle.armcaps_patch.specs.Kept.{Planned, StandsFor, kept_covers, kept_of, kept_word, planned_byte, planned_image}

-- what is kept of an entry makes the entry's new words
kept_word_is : (features : Features) (image : List ℕ) (entry : Entry) (index : ℕ) → kept_word features.ctr features.names.conduit image (kept_of features.names entry) index ≡ new_word features image entry index
kept_word_is features image entry index = elim (cases_Bool entry.callback) [
  | inl calls ↦ elim (option_cases (callback_named features.names entry.repl)) [
    | inl none ↦ rw (calls, none) refl
    | inr (kind, named) ↦ rw (calls, named) refl
  ]
  | inr moves ↦ rw moves refl
]

-- the byte at a place
byte_is : (plan : Planned) (features : Features) (image : List ℕ) (entries : List Entry) (place : ℕ) → plan.kept ≡ map (kept_of features.names) entries → plan.ctr ≡ features.ctr → plan.conduit ≡ features.names.conduit → planned_byte plan image place ≡ patched_byte features image entries place
byte_is plan features image entries place kept ctr conduit = rw (kept, ctr, conduit, last_that-map (kept_of features.names) (kept_covers place) entries) (elim (option_cases (last_that (covers place) entries)) [
  | inl none ↦ rw none refl
  | inr (entry, last) ↦ rw last (ap (λ word. byte_of word (place % 4)) (kept_word_is features image entry ((place - as_place entry.site) / 4)))
])

pub image_stands : (plan : Planned) (features : Features) (image : List ℕ) (layout : Layout) → StandsFor plan features image layout → planned_image plan image ≡ patched_image features image layout
image_stands plan features image layout stands =
    map_agree _ _ (λ place. byte_is plan features image (selected_of features image layout) place stands.kept stands.ctr stands.conduit) (range_with_len 0 (length image))

-- as many are kept as are selected
pub entries_stand : (plan : Planned) (features : Features) (image : List ℕ) (layout : Layout) → StandsFor plan features image layout → length plan.kept ≡ length (selected_of features image layout)
entries_stand plan features image layout stands = ap length stands.kept ∙ length-map (selected_of features image layout) (kept_of features.names)

-- a sum over what a function makes of a list
sum_by-map : {X Y : Type 0} (g : Y → ℕ) (f : X → Y) (xs : List X) → sum_by g (map f xs) ≡ sum_by (λ (x : X). g (f x)) xs
sum_by-map g f [] = refl
sum_by-map {X} g f (x ∷ xs) =
    omega (arith, sum_by-map g f xs, sum_by-cons g (f x) (map f xs), sum_by-cons (λ (x : X). g (f x)) x xs)

-- and what is kept has as many words as the selected entries' sites
pub words_stand : (plan : Planned) (features : Features) (image : List ℕ) (layout : Layout) → StandsFor plan features image layout
    → sum_by (λ (kept : Kept). kept.len / 4) plan.kept ≡ words_of_sites (selected_of features image layout)
words_stand plan features image layout stands =
    ap (sum_by (λ (kept : Kept). kept.len / 4)) stands.kept ∙ sum_by-map (λ (kept : Kept). kept.len / 4) (kept_of features.names) (selected_of features image layout)
