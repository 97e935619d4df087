-- A byte that differs in a patched image lies in a selected site.
use Rattle.std.proofs.Common.{◌≡◌, ◌≢◌, ◌∷◌, ℕ, Bool, List, None, Option, Some, [], arith, get_or, inl, inr, length, refl, suc, sym, true, zero-add, ap, ◌∙◌}
use Rattle.std.specs.List.{Contains}
use Rattle.std.specs.Option.{option_map, option_map_or, option_or}
use Rattle.std.specs.Prelude.{Ok}
use Rattle.std.proofs.lemmas.Bool.{cases_Bool, cases_lt}
use Rattle.std.proofs.lemmas.List.{get_or_past}
use Rattle.std.proofs.lemmas.List.FromFn.{get_or-map-range_with_len, length-map-range_with_len}
use Rattle.armcaps_alt.specs.declared.table_entry.Entry.{Entry}
use Rattle.armcaps_alt.specs.declared.table_place.Layout.{Layout}
use Rattle.armcaps_alt.specs.Entries.{Features, selected_of}
use Rattle.armcaps_alt.specs.Patched.{covers, new_byte, patched_byte, patched_image}
use Rattle.armcaps_image.specs.Last.{last_that}
use Rattle.armcaps_image.proofs.Last.{last_that-passes}
use Rattle.armcaps_elf.specs.Refusals.{kind_of}
use Rattle.armcaps_logic.proofs.Options.{option_cases}
use Rattle.armcaps_top.specs.Elf.{elf_reason}
use Rattle.armcaps_top.specs.Patch.{unless}
use Rattle.armcaps_top.specs.declared.reason.Reason.{Reason}
use Rattle.armcaps_top.specs.declared.reason.Reason.TheVariants.{NotElf}

-- an item behind the first one
behind : {X : Type 0} (y : X) (ys : List X) (x : X) → Contains ys x → Contains (y ∷ ys) x
behind y ys x there = (suc there.0, omega (arith, there.1), there.2)

-- the last item that passes is one of them
pub last_that-among : {X : Type 0} (test : X → Bool) (xs : List X) (x : X) → last_that test xs ≡ Some x → Contains xs x
last_that-among test [] x found = absurd (let no : ⊥ = cc in no)
last_that-among {X} test (y ∷ ys) x found = elim (option_cases (last_that test ys)) [
  | inr (z, later) ↦ (let same : Some z ≡ Some x = rw later at found in behind y ys x (last_that-among test ys x (later ∙ same)))
  | inl none ↦ elim (cases_Bool (test y)) [
    | inl here ↦
        let same : Some y ≡ Some x = rw (none, here) at found in
        let is : y ≡ x = cc in
        (0, omega arith, is)
    | inr past ↦ (let same : None ≡ Some x = rw (none, past) at found in absurd (let no : ⊥ = cc in no))
  ]
]

module _ (features : Features) (image : List ℕ) (layout : Layout) where
  abbrev entries : List Entry
  entries = selected_of features image layout

  -- a byte that differs is within the image
  byte_is : (place : ℕ) → get_or (patched_image features image layout) place 0 ≢ get_or image place 0
      → get_or (patched_image features image layout) place 0 ≡ patched_byte features image entries place
  byte_is place differs = elim (cases_lt place (length image)) [
    | inl within ↦ get_or-map-range_with_len (patched_byte features image entries) 0 (length image) place place 0 within (zero-add place)
    | inr past ↦
        let size = length-map-range_with_len (patched_byte features image entries) 0 (length image) in
        absurd (differs (get_or_past (patched_image features image layout) place 0 (omega (arith, size, past))
        ∙ sym (get_or_past image place 0 (omega (arith, past)))))
  ]

  pub in_a_site : (place : ℕ) → get_or (patched_image features image layout) place 0 ≢ get_or image place 0
      → (entry : Entry) × Contains entries entry × (covers place entry ≡ true)
  in_a_site place differs = elim (option_cases (last_that (covers place) entries)) [
    | inr (entry, found) ↦ (entry, last_that-among (covers place) entries entry found, last_that-passes (covers place) entries entry found)
    | inl none ↦
        let same : patched_byte features image entries place ≡ get_or image place 0 =
        ap (λ (last : Option Entry). option_map_or (λ entry. new_byte features image entry place) last (get_or image place 0)) none in
        absurd (differs (byte_is place differs ∙ same))
  ]

-- what is written where there is no reason why it isn't
pub unless_written : (why : Option Reason) (text written : List ℕ) → unless why text ≡ Ok written → (why ≡ None) × (written ≡ text)
unless_written None text written is = (refl, let same : text ≡ written = cc in sym same)
unless_written (Some reason) text written is = absurd (let no : ⊥ = cc in no)

no_first : (kind other : Option ℕ) (later : Option Reason) → option_or (option_map NotElf (option_or kind other)) later ≡ None → kind ≡ None
no_first None other later is = refl
no_first (Some kind) other later is = absurd (let no : ⊥ = cc in no)

-- an ELF file for which there is no reason is accepted
pub file_accepted : (features : Features) (line : Layout) (file : List ℕ) → elf_reason features line file ≡ None → kind_of file ≡ None
unfolding elf_reason
file_accepted features line file none = no_first (kind_of file) _ _ none
