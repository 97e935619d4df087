-- The loaded sections of a file.
use Rattle.std.proofs.Common.{◌≡◌, ◌+◌, ◌<◌, ◌≤◌, ◌||◌, ℕ, Bool, List, Option, Some, [], ◌∷◌, arith, ap, cond, count_by, false, filter, find, length, map, nat_le, nat_lt, refl, suc, subst, sym, true, zero, ◌∙◌}
use Rattle.std.specs.List.{All, list_any}
use Rattle.std.specs.List.Sorted.{IsPermutation}
use Rattle.std.specs.Option.{option_map}
use Rattle.std.proofs.lemmas.Bool.Decides.{nat_tests}
use Rattle.std.proofs.lemmas.List.Sorted.{list_any-IsPermutation, sum_by-IsPermutation}
use Rattle.armcaps_elf.specs.declared.header.Header.{Header}
use Rattle.armcaps_elf.specs.declared.section.Section.{Section}
use Rattle.armcaps_elf.specs.Headers.{headers_of, is_loaded, is_table, loaded_of, names_of, sections_of, table_of}
use Rattle.armcaps_elf.specs.Refusals.{has_section_outside}
use Rattle.armcaps_elf.specs.Sections.{overlap, shares}

abbrev section_of : Header → Section
section_of header = header.section

All-cons : {X : Type 0} (P : X → Type 0) (x : X) (xs : List X) → P x → All P xs → All P (x ∷ xs)
All-cons P x xs here rest zero d short = here
All-cons P x xs here rest (suc k) d short = rest k d (omega arith)

-- a loaded section isn't empty
not_empty : (h : Header) → is_loaded h ≡ true → 0 < h.section.size
not_empty h loaded = grind (arith, nat_tests)

one_more : (b : Bool) (h : Header) (hs : List Header) → (b ≡ true → 0 < h.section.size) → All (λ (s : Section). 0 < s.size) (map section_of hs)
    → All (λ (s : Section). 0 < s.size) (map section_of (cond b (h ∷ hs) hs))
one_more true h hs some rest = All-cons (λ (s : Section). 0 < s.size) h.section (map section_of hs) (some refl) rest
one_more false h hs some rest = rest

filtered : (hs : List Header) → All (λ (s : Section). 0 < s.size) (map section_of (filter is_loaded hs))
filtered [] = λ k d short. omega arith
filtered (h ∷ hs) = one_more (is_loaded h) h (filter is_loaded hs) (not_empty h) (filtered hs)

pub none_empty : (file : List ℕ) → All (λ (s : Section). 0 < s.size) (sections_of file)
unfolding loaded_of
none_empty file = filtered (headers_of file)

-- what holds of all holds of the one that is found
found_more : (P : Section → Type 0) (b : Bool) (h : Header) (rest : Option Header) (s : Section) → P h.section
    → (option_map section_of rest ≡ Some s → P s) → option_map section_of (cond b (Some h) rest) ≡ Some s → P s
found_more P true h rest s here later is = let same : h.section ≡ s = cc in subst P same here
found_more P false h rest s here later is = later is

found : (P : Section → Type 0) (p : Header → Bool) (hs : List Header) (s : Section) → All P (map section_of hs)
    → option_map section_of (find p hs) ≡ Some s → P s
found P p [] s all is = let never : ⊥ = cc in absurd never
found P p (h ∷ hs) s all is =
    found_more P (p h) h (find p hs) s (all 0 h.section (omega arith)) (found P p hs s (λ k d short. all (suc k) d (omega arith))) is

pub table_passes : (P : Section → Type 0) (file : List ℕ) (s : Section) → All P (sections_of file) → table_of file ≡ Some s → P s
table_passes P file s all is = found P (is_table (names_of file)) (loaded_of file) s all is

-- whether sections share doesn't hang on their order
any_same : {X : Type 0} (p q : X → Bool) (xs : List X) → ((x : X) → p x ≡ q x) → list_any p xs ≡ list_any q xs
any_same p q [] same = refl
any_same p q (x ∷ xs) same = rw (same x, any_same p q xs same) refl

pub overlap_moved : (begin : Section → ℕ) (xs ys : List Section) → IsPermutation xs ys → overlap begin ys ≡ overlap begin xs
overlap_moved begin xs ys moved =
    let count : (s : Section) → count_by (shares begin s) ys ≡ count_by (shares begin s) xs =
    λ s. sum_by-IsPermutation (λ t. cond (shares begin s t) 1 0) xs ys moved in
    any_same (λ s. nat_le 2 (count_by (shares begin s) ys)) (λ s. nat_le 2 (count_by (shares begin s) xs)) ys (λ s. ap (nat_le 2) (count s))
    ∙ sym (list_any-IsPermutation (λ s. nat_le 2 (count_by (shares begin s) xs)) xs ys moved)

-- a loaded section's bytes are within the file
within_more : (len : ℕ) (h : Header) (b : Bool) → (nat_lt len (h.section.place + h.section.size) || b) ≡ false
    → (h.section.place + h.section.size ≤ len) × (b ≡ false)
within_more len h b none = (grind (arith, nat_tests), grind (arith, nat_tests))

all_within : (len : ℕ) (hs : List Header) → list_any (λ h. nat_lt len (h.section.place + h.section.size)) hs ≡ false
    → All (λ (s : Section). s.place + s.size ≤ len) (map section_of hs)
all_within len [] none = λ k d short. omega arith
all_within len (h ∷ hs) none =
    let more = within_more len h (list_any (λ h. nat_lt len (h.section.place + h.section.size)) hs) none in
    All-cons (λ (s : Section). s.place + s.size ≤ len) h.section (map section_of hs) more.0 (all_within len hs more.1)

pub sections_inside : (file : List ℕ) → has_section_outside file ≡ false
    → All (λ (s : Section). s.place + s.size ≤ length file) (sections_of file)
sections_inside file none = all_within (length file) (loaded_of file) none
