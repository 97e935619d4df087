-- A word's kind stays where only its offset changes.
use Rattle.std.proofs.Common.{◌≡◌, ℕ, ◌-◌, ◌^◌, ◌&&◌, ◌==◌, Bool, true, false, not, List, [], ◌∷◌, None, Some, bit_and, find, refl, sym, ap, ◌∙◌, inl, inr, eq-eqb}
use Rattle.std.specs.List.{list_all}
use Rattle.std.specs.Option.{option_map_or}
use Rattle.std.proofs.lemmas.Bool.{and_parts, cases_Bool, eqb-true, false_from_ne_true, false≢true}
use Rattle.std.proofs.lemmas.Nat.{and_assoc, and_comm}
use Rattle.armcaps_logic.proofs.Options.{option_cases}
use Rattle.armcaps_logic.proofs.Searches.{find_holds, find_passes}
use Rattle.armcaps_insn.specs.declared.immediates.Immediate.{Immediate}
use Rattle.armcaps_insn.specs.Encodings.{Encoding, class_of, encodings, is_encoded}
use Rattle.armcaps_insn.specs.Immediates.{immediate_of}

-- no word is of both kinds: where both masks have a bit, the values differ
abbrev is_apart : Encoding → Encoding → Bool
is_apart one other = not (bit_and one.value other.mask == bit_and other.value one.mask)

abbrev all_apart : List Encoding → Bool
all_apart [] = true
all_apart (kind ∷ kinds) = list_all (is_apart kind) kinds && all_apart kinds

-- a kind's mask has no bit of its class's offset
abbrev has_other_bits : Encoding → Bool
has_other_bits kind = option_map_or (λ i. bit_and (2 ^ 32 - 1 - i.mask) kind.mask == kind.mask) (immediate_of kind.class) true

-- both hold of the table
table_is_apart : all_apart encodings ≡ true
unfolding encodings
table_is_apart = refl

table_has_other_bits : list_all has_other_bits encodings ≡ true
unfolding encodings
table_has_other_bits = refl

-- the order of two masks is free
and_swap : (n a b : ℕ) → bit_and (bit_and n a) b ≡ bit_and (bit_and n b) a
and_swap n a b = and_assoc b n a ∙ ap (bit_and n) (and_comm a b) ∙ sym (and_assoc a n b)

-- a word is of one kind alone
of_one_kind : (one other : Encoding) (word : ℕ) → is_apart one other ≡ true → is_encoded word other ≡ true → is_encoded word one ≡ false
of_one_kind one other word apart is_other = false_from_ne_true (is_encoded word one) (λ is_one.
    let first : bit_and word one.mask ≡ one.value = eqb-true _ _ is_one in
    let second : bit_and word other.mask ≡ other.value = eqb-true _ _ is_other in
    let same : bit_and one.value other.mask ≡ bit_and other.value one.mask = ap (λ n. bit_and n other.mask) (sym first) ∙ and_swap word one.mask other.mask ∙ ap (λ n. bit_and n one.mask) second in
    let equal : (bit_and one.value other.mask == bit_and other.value one.mask) ≡ true = eq-eqb _ _ same in
    absurd (false≢true (rw equal at apart)))

-- the kind of a word is that of any other word that is of it
found_again : (word new : ℕ) (kinds : List Encoding) (kind : Encoding) → all_apart kinds ≡ true → find (is_encoded word) kinds ≡ Some kind → is_encoded new kind ≡ true → find (is_encoded new) kinds ≡ Some kind
found_again word new [] kind apart found is = cc
found_again word new (first ∷ kinds) kind apart found is =
    let parts = and_parts (list_all (is_apart first) kinds) (all_apart kinds) apart in
    elim (cases_Bool (is_encoded word first)) [
      | inl here ↦ (let same : Some first ≡ Some kind = rw here at found in let it : first ≡ kind = cc in let again : is_encoded new first ≡ true = rw it is in rw again same)
      | inr past ↦
          let later : find (is_encoded word) kinds ≡ Some kind = rw past at found in
          let other : is_encoded new first ≡ false = of_one_kind first kind new (find_holds (is_encoded word) (is_apart first) kinds kind later parts.0) is in
          rw other (found_again word new kinds kind parts.1 later is)
    ]

-- a word that has the other bits of one with an offset is of its class
pub class_stays : (word new : ℕ) (i : Immediate) → immediate_of (class_of word) ≡ Some i → bit_and new (2 ^ 32 - 1 - i.mask) ≡ bit_and word (2 ^ 32 - 1 - i.mask) → class_of new ≡ class_of word
unfolding class_of
class_stays word new i has rest = elim (option_cases (find (is_encoded word) encodings)) [
  | inl none ↦ (let nothing : None ≡ Some i = rw none at has in cc)
  | inr (kind, found) ↦
      let lies : immediate_of kind.class ≡ Some i = rw found at has in
      let fact : has_other_bits kind ≡ true = find_holds (is_encoded word) has_other_bits encodings kind found table_has_other_bits in
      let outside : bit_and (2 ^ 32 - 1 - i.mask) kind.mask ≡ kind.mask = eqb-true _ _ (rw lies at fact) in
      let is : bit_and word kind.mask ≡ kind.value = eqb-true _ _ (find_passes (is_encoded word) encodings kind found) in
      let seen : (n : ℕ) → bit_and (bit_and n (2 ^ 32 - 1 - i.mask)) kind.mask ≡ bit_and n kind.mask = λ (n : ℕ). and_assoc kind.mask n (2 ^ 32 - 1 - i.mask) ∙ ap (bit_and n) outside in
      let again : bit_and new kind.mask ≡ kind.value = sym (seen new) ∙ ap (λ n. bit_and n kind.mask) rest ∙ seen word ∙ is in
      rw (found_again word new encodings kind table_is_apart found (eq-eqb _ _ again), found) refl
]
