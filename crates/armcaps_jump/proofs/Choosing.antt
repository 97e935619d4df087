-- The word at a code place is that of the last entry there.
use Rattle.std.proofs.Common.{◌≡◌, ◌≢◌, ◌+◌, ◌*◌, ◌/◌, ◌%◌, ◌^◌, ◌<◌, ◌≤◌, ◌-ℤ◌, ◌∷◌, ◌&&◌, ◌∙◌, ℕ, ℤ, Bool, List, [], None, Option, Some, ap, arith, cond, false, get_or, inl, inr, int_rem, is_some, length, lit<, not, pos, refl, subst, suc, sym, true, zero, zero-add}
use Rattle.std.specs.List.{find, range_with_len}
use Rattle.std.specs.Option.{option_map}
use Rattle.std.specs.Ordering.{int_eq}
use Rattle.std.proofs.lemmas.Bool.{and_parts, cases_Bool}
use Rattle.std.proofs.lemmas.Bool.Decides.{Decides-int_eq, nat_tests}
use Rattle.std.proofs.lemmas.List.FromFn.{get_or-map-range_with_len, get_or-range_with_len, length-range_with_len}
use Rattle.armcaps_insn.proofs.Moves.{branch_is}
use Rattle.armcaps_insn.specs.Encodings.{nop}
use Rattle.armcaps_insn.specs.Immediates.{immediate, is_in_range, with_offset}
use Rattle.armcaps_insn.specs.Moved.{IsBranch, branch_to}
use Rattle.armcaps_logic.proofs.Searches.{find_passes}
use Rattle.armcaps_logic.proofs.Options.{option_cases}
use Rattle.armcaps_image.specs.Bytes.{byte_of, word_in}
use Rattle.armcaps_image.specs.Last.{last_that}
use Rattle.armcaps_image.specs.Places.{as_place, is_aligned, is_within}
use Rattle.armcaps_image.proofs.Last.{last_that-map, last_that-none, last_that-range}
use Rattle.armcaps_image.proofs.Within.{place_parts}
use Rattle.armcaps_image.proofs.Words.{word_of_bytes}
use Rattle.armcaps_jump.specs.declared.jump_entry.JumpEntry.{JumpEntry}
use Rattle.armcaps_jump.specs.Entries.{entries_of, entry_at}
use Rattle.armcaps_jump.specs.Jumped.{byte_by, has_byte, jump_image, sites_of}
use Rattle.armcaps_jump.specs.Refusals.{first_refusal, kind_of}
use Rattle.armcaps_jump.specs.Laws.{IsChosen, IsElsewhere, IsLastThere}
use Rattle.armcaps_jump.specs.Words.{does_jump, is_on, site_of, word_of}

clash : {X : Type 0} (o : Option X) (x : X) → o ≡ Some x → o ≡ None → ⊥
clash o x one other = cc

-- where none is found none passes
find_fails : {X : Type 0} (test : X → Bool) (xs : List X) → find test xs ≡ None → (k : ℕ) (d : X) → k < length xs
    → test (get_or xs k d) ≡ false
find_fails test [] none k d within = absurd (omega arith)
find_fails test (x ∷ xs) none zero d within = elim (cases_Bool (test x)) [
  | inl here ↦ (let found : Some x ≡ None = rw here at none in cc)
  | inr past ↦ past
]
find_fails test (x ∷ xs) none (suc k) d within = elim (cases_Bool (test x)) [
  | inl here ↦ (let found : Some x ≡ None = rw here at none in cc)
  | inr past ↦ (let rest : find test xs ≡ None = rw past at none in find_fails test xs rest k d (omega arith))
]

-- where no entry is refused no kind holds of one
none_holds : (image : List ℕ) (table count k : ℕ) → first_refusal image table count ≡ None → k < count
    → kind_of image (entry_at image table k) ≡ None
none_holds image table count k accepted within =
    let test : ℕ → Bool = λ number. is_some (kind_of image (entry_at image table number)) in
    elim (option_cases (find test (range_with_len 0 count))) [
      | inl none ↦
          let fails = find_fails test (range_with_len 0 count) none k 0 (omega (arith, length-range_with_len 0 count)) in
          let here : get_or (range_with_len 0 count) k 0 ≡ k = get_or-range_with_len 0 count k 0 within ∙ zero-add k in
          let past : is_some (kind_of image (entry_at image table k)) ≡ false = rw here at fails in
          elim (option_cases (kind_of image (entry_at image table k))) [
            | inl is ↦ is
            | inr (kind, is) ↦ (let wrong : true ≡ false = rw is at past in cc)
          ]
      | inr (n, found) ↦
          let passes = find_passes test (range_with_len 0 count) n found in
          elim (option_cases (kind_of image (entry_at image table n))) [
            | inl is ↦ (let wrong : false ≡ true = rw is at passes in cc)
            | inr (kind, is) ↦
                let refused : first_refusal image table count ≡ Some (record { entry = n; kind = kind }) = rw (found, is) refl in
                absurd (clash _ (record { entry = n; kind = kind }) refused accepted)
          ]
    ]

-- the last site that has a byte, by its entry's number
last_site : (image : List ℕ) (table count number place : ℕ) → number < count
    → has_byte place (site_of image (entry_at image table number)) ≡ true
    → ((later : ℕ) → number < later → later < count → has_byte place (site_of image (entry_at image table later)) ≡ false)
    → last_that (has_byte place) (sites_of image table count) ≡ Some (site_of image (entry_at image table number))
last_site image table count number place within here later =
    last_that-map (site_of image) (has_byte place) (entries_of image table count)
    ∙ ap (option_map (site_of image)) (last_that-map (entry_at image table) (λ e. has_byte place (site_of image e)) (range_with_len 0 count)
    ∙ ap (option_map (entry_at image table)) (last_that-range _ count number within here later))

-- what holds of an entry of which no kind holds
pub record IsFine (image : List ℕ) (entry : JumpEntry) : Type 0 where
  pub code : entry.code ≡ pos (as_place entry.code)
  pub aligned : as_place entry.code % 4 ≡ 0
  pub within : as_place entry.code + 4 ≤ length image
  pub word : (w : ℕ) × (word_of image entry ≡ Some w)

fine : (image : List ℕ) (entry : JumpEntry) → kind_of image entry ≡ None → IsFine image entry
fine image entry accepted = elim (cases_Bool (is_aligned entry.code && is_within (length image) entry.code 4)) [
  | inr lacks ↦ (let refused : kind_of image entry ≡ Some 1 = rw lacks refl in absurd (clash _ 1 refused accepted))
  | inl code ↦ elim (cases_Bool (is_within (length image) entry.key 4)) [
    | inr lacks ↦ (let refused : kind_of image entry ≡ Some 2 = rw (code, lacks) refl in absurd (clash _ 2 refused accepted))
    | inl key ↦ elim (option_cases (word_of image entry)) [
      | inl lacks ↦ (let refused : kind_of image entry ≡ Some 3 = rw (code, key, lacks) refl in absurd (clash _ 3 refused accepted))
      | inr (w, is) ↦
          let halves = and_parts (is_aligned entry.code) (is_within (length image) entry.code 4) code in
          let parts = place_parts (length image) entry.code 4 halves.0 halves.1 in
          record { code = parts.0; aligned = parts.1; within = parts.2; word = (w, is) }
    ]
  ]
]

-- the branch that there is has its target
branch_to_is : (place : ℕ) (target : ℤ) (w : ℕ) → branch_to place target ≡ Some w → IsBranch place target w
branch_to_is place target w found =
    let offset : ℤ = target -ℤ pos place in
    let whole : Bool = int_eq (int_rem offset (pos 4)) (pos 0) in
    let near : Bool = is_in_range (immediate 0x03ffffff 0 26 0 2) offset in
    elim (cases_Bool (whole && near)) [
      | inr lacks ↦ (let wrong : None ≡ Some w = rw lacks at found in cc)
      | inl both ↦
          let parts = and_parts whole near both in
          let is = branch_is place target ((Decides-int_eq (int_rem offset (pos 4)) (pos 0)).0 parts.0) parts.1 in
          let made : Some (with_offset (immediate 0x03ffffff 0 26 0 2) 0x14000000 offset) ≡ Some w = rw both at found in
          let same : with_offset (immediate 0x03ffffff 0 26 0 2) 0x14000000 offset ≡ w = cc in
          subst (λ (v : ℕ). IsBranch place target v) same is
    ]

-- exactly one of two, or both or none
differ : (flag on : Bool) → cond flag (not on) on ≡ true → on ≡ flag → ⊥
differ true true d s = cc
differ true false d s = cc
differ false true d s = cc
differ false false d s = cc

agree : (flag on : Bool) → cond flag (not on) on ≡ false → on ≡ flag
agree true true a = refl
agree true false a = cc
agree false true a = cc
agree false false a = refl

-- an entry's word is the one that it chooses
chosen_word : (image : List ℕ) (entry : JumpEntry) (w : ℕ) → word_of image entry ≡ Some w
    → IsChosen image entry w × (w < 2 ^ 32)
chosen_word image entry w is = elim (cases_Bool (does_jump image entry)) [
  | inl jumps ↦
      let found : branch_to (as_place entry.code) entry.target ≡ Some w = rw jumps at is in
      let branch = branch_to_is (as_place entry.code) entry.target w found in
      (record { jumps = λ other. branch; stays = λ same. absurd (differ entry.branch (is_on image entry) jumps same) }, branch.fits)
  | inr stays ↦
      let found : Some nop ≡ Some w = rw stays at is in
      let none : w ≡ nop = cc in
      (record { jumps = λ other. absurd (other (agree entry.branch (is_on image entry) stays)); stays = λ same. none }, rw none (lit< tt))
]

module _ (image : List ℕ) (table count : ℕ) (accepted : first_refusal image table count ≡ None) where
  fine_at : (k : ℕ) → k < count → IsFine image (entry_at image table k)
  fine_at k within = fine image (entry_at image table k) (none_holds image table count k accepted within)

  -- a byte of a code place
  chosen_byte : (number i w : ℕ) → IsLastThere image table count number → word_of image (entry_at image table number) ≡ Some w → i < 4
      → get_or (jump_image image table count) (as_place (entry_at image table number).code + i) 0 ≡ byte_of w i
  chosen_byte number i w is made small =
      let entry : JumpEntry = entry_at image table number in
      let p : ℕ = as_place entry.code in
      let own = fine_at number is.within in
      let aligned : p % 4 ≡ 0 = own.aligned in
      let inside : p + i < length image = (let end = own.within in omega arith) in
      let word : (p + i) / 4 * 4 ≡ p = omega arith in
      let index : (p + i) % 4 ≡ i = omega arith in
      let here : has_byte (p + i) (site_of image entry) ≡ true = grind (arith, nat_tests, word) in
      let last = last_site image table count number (p + i) is.within here (λ later after before.
      let other = fine_at later before in
      let there : as_place (entry_at image table later).code ≢ p = λ same. is.last later after before (other.code ∙ ap (λ n. pos n) same ∙ sym own.code) in
      grind (arith, nat_tests, word, there)) in
      let byte = get_or-map-range_with_len (λ place. byte_by (sites_of image table count) place (get_or image place 0)) 0 (length image) (p + i) (p + i) 0 inside (zero-add (p + i)) in
      byte ∙ rw (last, made, index) refl

  pub chosen : (number : ℕ) → IsLastThere image table count number
      → IsChosen image (entry_at image table number) (word_in (jump_image image table count) (as_place (entry_at image table number).code))
  chosen number is =
      let own = fine_at number is.within in
      let w : ℕ = own.word.0 in
      let it = chosen_word image (entry_at image table number) w own.word.1 in
      let read = word_of_bytes (jump_image image table count) (as_place (entry_at image table number).code) w it.1 (λ i small. chosen_byte number i w is own.word.1 small) in
      subst (λ (v : ℕ). IsChosen image (entry_at image table number) v) (sym read) it.0

  -- no site has a byte elsewhere
  pub elsewhere : (place : ℕ) → place < length image → IsElsewhere image table count place
      → get_or (jump_image image table count) place 0 ≡ get_or image place 0
  elsewhere place inside none =
      let fails : last_that (has_byte place) (sites_of image table count) ≡ None =
      last_that-map (site_of image) (has_byte place) (entries_of image table count)
      ∙ ap (option_map (site_of image)) (last_that-map (entry_at image table) (λ e. has_byte place (site_of image e)) (range_with_len 0 count)
      ∙ ap (option_map (entry_at image table)) (last_that-none _ (range_with_len 0 count) (λ k d within.
      let short : k < count = omega (arith, length-range_with_len 0 count) in
      let at : get_or (range_with_len 0 count) k d ≡ k = get_or-range_with_len 0 count k d short ∙ zero-add k in
      let own = fine_at k short in
      let aligned : as_place (entry_at image table k).code % 4 ≡ 0 = own.aligned in
      let far = none k short in
      let past : has_byte place (site_of image (entry_at image table k)) ≡ false = grind (arith, nat_tests, far) in
      rw at past))) in
      let byte = get_or-map-range_with_len (λ p. byte_by (sites_of image table count) p (get_or image p 0)) 0 (length image) place place 0 inside (zero-add place) in
      byte ∙ rw fails refl
