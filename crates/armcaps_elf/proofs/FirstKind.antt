-- The first kind that holds.
use Rattle.std.proofs.Common.{◌≡◌, ◌||◌, ℕ, Bool, List, None, Option, Some, [], ◌∷◌, false, find, is_none, nat_le, refl, true, ◌∙◌}
use Rattle.std.specs.Option.{option_map}
use Rattle.armcaps_elf.specs.Headers.{sections_of, table_of}
use Rattle.armcaps_elf.specs.Sections.{overlap}
use Rattle.armcaps_elf.specs.Refusals.{HasHeaders, HasTable, Test, has_bad_table, has_long_span, has_open_name, has_other_header, has_overlap, has_section_outside, kind_of, lacks_headers, table_count}

abbrev first : List Test → Option ℕ
first tests = option_map (λ t. t.kind) (find (λ t. t.holds) tests)

abbrev behind : ℕ → Bool → List Test → List Test
behind kind holds tests = record { kind = kind; holds = holds } ∷ tests

-- a kind that holds is the first, and one that doesn't isn't
here : (kind : ℕ) (holds : Bool) (tests : List Test) → holds ≡ true → first (behind kind holds tests) ≡ Some kind
here kind holds tests is = rw is refl

later : (kind : ℕ) (holds : Bool) (tests : List Test) → holds ≡ false → first (behind kind holds tests) ≡ first tests
later kind holds tests is = rw is refl

module _ (file : List ℕ) where
  abbrev from9 : List Test
  from9 = behind 9 (has_bad_table file) []

  abbrev from8 : List Test
  from8 = behind 8 (has_long_span (sections_of file)) from9

  abbrev from7 : List Test
  from7 = behind 7 (has_overlap (sections_of file)) from8

  abbrev from6 : List Test
  from6 = behind 6 (nat_le 2 (table_count file)) from7

  abbrev from5 : List Test
  from5 = behind 5 (is_none (table_of file)) from6

  abbrev from4 : List Test
  from4 = behind 4 (has_open_name file) from5

  abbrev from3 : List Test
  from3 = behind 3 (has_section_outside file) from4

  abbrev from2 : List Test
  from2 = behind 2 (lacks_headers file) from3

  pub kind-1 : has_other_header file ≡ true → kind_of file ≡ Some 1
  unfolding kind_of
  kind-1 holds = here 1 _ from2 holds

  after-1 : has_other_header file ≡ false → kind_of file ≡ first from2
  unfolding kind_of
  after-1 none = later 1 _ from2 none

  pub kind-2 : has_other_header file ≡ false → lacks_headers file ≡ true → kind_of file ≡ Some 2
  kind-2 none holds = after-1 none ∙ here 2 _ from3 holds

  after-2 : has_other_header file ≡ false → lacks_headers file ≡ false → kind_of file ≡ first from3
  after-2 none-1 none-2 = after-1 none-1 ∙ later 2 _ from3 none-2

  pub kind-3 : has_other_header file ≡ false → lacks_headers file ≡ false → has_section_outside file ≡ true → kind_of file ≡ Some 3
  kind-3 none-1 none-2 holds = after-2 none-1 none-2 ∙ here 3 _ from4 holds

  pub kind-4 : has_other_header file ≡ false → lacks_headers file ≡ false → has_section_outside file ≡ false
      → has_open_name file ≡ true → kind_of file ≡ Some 4
  kind-4 none-1 none-2 none-3 holds = after-2 none-1 none-2 ∙ (later 3 _ from4 none-3 ∙ here 4 _ from5 holds)

  after-4 : HasHeaders file → kind_of file ≡ first from5
  after-4 passed =
      after-2 passed.header passed.sections ∙ (later 3 _ from4 passed.inside ∙ later 4 _ from5 passed.names)

  pub kind-5 : HasHeaders file → is_none (table_of file) ≡ true → kind_of file ≡ Some 5
  kind-5 passed holds = after-4 passed ∙ here 5 _ from6 holds

  pub kind-6 : HasHeaders file → is_none (table_of file) ≡ false → nat_le 2 (table_count file) ≡ true → kind_of file ≡ Some 6
  kind-6 passed one holds = after-4 passed ∙ (later 5 _ from6 one ∙ here 6 _ from7 holds)

  after-6 : HasHeaders file → HasTable file → kind_of file ≡ first from7
  after-6 passed table = after-4 passed ∙ (later 5 _ from6 table.one ∙ later 6 _ from7 table.only)

  pub kind-7 : HasHeaders file → HasTable file → has_overlap (sections_of file) ≡ true → kind_of file ≡ Some 7
  kind-7 passed table holds = after-6 passed table ∙ here 7 _ from8 holds

  pub kind-8 : HasHeaders file → HasTable file → has_overlap (sections_of file) ≡ false → has_long_span (sections_of file) ≡ true
      → kind_of file ≡ Some 8
  kind-8 passed table none holds = after-6 passed table ∙ (later 7 _ from8 none ∙ here 8 _ from9 holds)

  pub kind-9 : HasHeaders file → HasTable file → has_overlap (sections_of file) ≡ false → has_long_span (sections_of file) ≡ false
      → has_bad_table file ≡ true → kind_of file ≡ Some 9
  kind-9 passed table none-7 none-8 holds =
      after-6 passed table ∙ (later 7 _ from8 none-7 ∙ (later 8 _ from9 none-8 ∙ here 9 _ [] holds))

  pub kind-none : HasHeaders file → HasTable file → has_overlap (sections_of file) ≡ false → has_long_span (sections_of file) ≡ false
      → has_bad_table file ≡ false → kind_of file ≡ None
  kind-none passed table none-7 none-8 none-9 =
      after-6 passed table ∙ (later 7 _ from8 none-7 ∙ (later 8 _ from9 none-8 ∙ later 9 _ [] none-9))

-- where none holds, none of them does
skipped : (kind : ℕ) (holds : Bool) (tests : List Test) → first (behind kind holds tests) ≡ None → (holds ≡ false) × (first tests ≡ None)
skipped kind true tests none = let never : ⊥ = cc in absurd never
skipped kind false tests none = (refl, none)

neither : (a b : Bool) → (a || b) ≡ false → a ≡ false
neither true b none = none
neither false b none = refl

-- of a file that isn't refused no two sections share an address
pub none_overlap : (file : List ℕ) → kind_of file ≡ None
    → overlap (λ section. section.address) (sections_of file) ≡ false
unfolding kind_of
none_overlap file none =
    let all : first (behind 1 (has_other_header file) (from2 file)) ≡ None = none in
    let two = (skipped 1 (has_other_header file) (from2 file) all).1 in
    let three = (skipped 2 (lacks_headers file) (from3 file) two).1 in
    let four = (skipped 3 (has_section_outside file) (from4 file) three).1 in
    let five = (skipped 4 (has_open_name file) (from5 file) four).1 in
    let six = (skipped 5 (is_none (table_of file)) (from6 file) five).1 in
    let seven = (skipped 6 (nat_le 2 (table_count file)) (from7 file) six).1 in
    let eight = (skipped 7 (has_overlap (sections_of file)) (from8 file) seven).0 in
    neither (overlap (λ section. section.address) (sections_of file)) (overlap (λ section. section.place) (sections_of file)) eight
