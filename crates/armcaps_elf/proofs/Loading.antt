-- Bytes of a flat image that all lie in loaded sections.
use Rattle.std.proofs.Common.{◌≡◌, ◌+◌, ◌<◌, ◌≤◌, ◌&&◌, ℕ, zero, suc, Bool, List, ap, arith, false, inl, inr, refl, subst, sym, true, ◌∙◌}
use Rattle.std.specs.List.{list_all, range_with_len}
use Rattle.std.specs.List.Sorted.{IsPermutation}
use Rattle.std.proofs.lemmas.Bool.{and_from, cases_lt}
use Rattle.std.proofs.lemmas.List.Sorted.{list_any-IsPermutation}
use Rattle.armcaps_elf.specs.declared.section.Section.{Section}
use Rattle.armcaps_elf.specs.Sections.{holds}
use Rattle.armcaps_elf.specs.Stretches.{is_held}

-- numbers of a range that all pass
pub all_in_range : (test : ℕ → Bool) (start count : ℕ) → ((n : ℕ) → start ≤ n → n < start + count → test n ≡ true)
    → list_all test (range_with_len start count) ≡ true
all_in_range test start zero pass = refl
all_in_range test start (suc count) pass =
    let first = pass start (omega arith) (omega arith) in
    let rest = all_in_range test (start + 1) count (λ n low high. pass n (omega arith) (omega arith)) in
    and_from (test start) (list_all test (range_with_len (start + 1) count)) first rest

-- and one that doesn't
pub one_fails : (test : ℕ → Bool) (start count n : ℕ) → start ≤ n → n < start + count → test n ≡ false
    → list_all test (range_with_len start count) ≡ false
one_fails test start zero n low high fails = absurd (omega arith)
one_fails test start (suc count) n low high fails = elim (cases_lt start n) [
  | inl less ↦ by_rest (test start) (one_fails test (start + 1) count n (omega arith) (omega arith) fails)
  | inr same ↦ (let at : n ≡ start = omega arith in let first : test start ≡ false = ap test (sym at) ∙ fails in rw first refl)
]
  where
    by_rest : (b : Bool) {rest : Bool} → rest ≡ false → (b && rest) ≡ false
    by_rest true is = is
    by_rest false is = refl

-- the order of the sections doesn't matter
pub held_same : (xs ys : List Section) (address : ℕ) → IsPermutation xs ys → is_held ys address ≡ is_held xs address
held_same xs ys address moved = sym (list_any-IsPermutation (holds (λ section. section.address) address) xs ys moved)

-- what is said of each byte, or of one, is said of all
pub by_answer : (answer : Bool) (test : ℕ → Bool) (start count : ℕ)
    → (answer ≡ true → (n : ℕ) → start ≤ n → n < start + count → test n ≡ true)
    → (answer ≡ false → (n : ℕ) × (start ≤ n) × (n < start + count) × (test n ≡ false))
    → answer ≡ list_all test (range_with_len start count)
by_answer true test start count all some = sym (all_in_range test start count (all refl))
by_answer false test start count all some =
    let one = some refl in sym (one_fails test start count one.0 one.1 one.2 one.3)
