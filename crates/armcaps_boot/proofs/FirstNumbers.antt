-- The first number that passes a test, and sets of numbers.
use Rattle.std.proofs.Common.{◌≡◌, ◌<◌, ◌≤◌, ◌⊎◌, inl, inr, ℕ, zero, suc, ◌+◌, Bool, true, false, cond, Some, None, map, refl, sym, ap, arith}
use Rattle.std.proofs.lemmas.Bool.{cases_lt}
use Rattle.std.proofs.lemmas.List.{get_or_past}
use Rattle.std.specs.List.{range_with_len, find}
use Rattle.std.proofs.lemmas.List.FromFn.{get_or-map-range_with_len, length-map-range_with_len}
use Rattle.armcaps_boot.specs.Numbers.{first_of, is_in, numbers}

found_same : (p q : ℕ → Bool) (from count : ℕ) → ((k : ℕ) → from ≤ k → k < from + count → p k ≡ q k)
    → find p (range_with_len from count) ≡ find q (range_with_len from count)
found_same p q from zero same = refl
found_same p q from (suc count) same =
    let here : p from ≡ q from = same from (omega arith) (omega arith) in
    let more = found_same p q (from + 1) count (λ k low high. same k (omega arith) (omega arith)) in
    rw (here, more)

pub first_of-same : (p q : ℕ → Bool) (from count : ℕ) → ((k : ℕ) → from ≤ k → k < from + count → p k ≡ q k)
    → first_of from count p ≡ first_of from count q
unfolding first_of
first_of-same p q from count same = found_same p q from count same

found_none : (p : ℕ → Bool) (from count : ℕ) → ((k : ℕ) → from ≤ k → k < from + count → p k ≡ false)
    → find p (range_with_len from count) ≡ None
found_none p from zero none = refl
found_none p from (suc count) none =
    let here : p from ≡ false = none from (omega arith) (omega arith) in
    rw here (found_none p (from + 1) count (λ k low high. none k (omega arith) (omega arith)))

pub first_of-none : (p : ℕ → Bool) (from count : ℕ) → ((k : ℕ) → from ≤ k → k < from + count → p k ≡ false) → first_of from count p ≡ None
unfolding first_of
first_of-none p from count none = found_none p from count none

found_fails : (p : ℕ → Bool) (from count : ℕ) → find p (range_with_len from count) ≡ None
    → (k : ℕ) → from ≤ k → k < from + count → p k ≡ false
found_fails p from zero none k low high = absurd (omega arith)
found_fails p from (suc count) none k low high =
    on (p from) refl none (λ e later. found_fails p (from + 1) count e k later (omega arith)) where
      on : (b : Bool) → p from ≡ b → cond b (Some from) (find p (range_with_len (from + 1) count)) ≡ None
          → (find p (range_with_len (from + 1) count) ≡ None → from + 1 ≤ k → p k ≡ false) → p k ≡ false
      on true is e more = cc
      on false is e more = by_place (cases_lt from k) where
        by_place : (from < k) ⊎ (k ≤ from) → p k ≡ false
        by_place (inl less) = more e (omega arith)
        by_place (inr same) = let at : k ≡ from = omega arith in rw at is

pub first_of-fails : (p : ℕ → Bool) (from count : ℕ) → first_of from count p ≡ None → (k : ℕ) → from ≤ k → k < from + count → p k ≡ false
unfolding first_of
first_of-fails p from count none k low high = found_fails p from count none k low high

-- the number found passes, and is one of those asked
found_passes : (p : ℕ → Bool) (from count k : ℕ) → find p (range_with_len from count) ≡ Some k → (p k ≡ true) × (from ≤ k) × (k < from + count)
found_passes p from zero k found = absurd (let bad : ⊥ = cc in bad)
found_passes p from (suc count) k found = on (p from) refl found (found_passes p (from + 1) count k) where
  on : (b : Bool) → p from ≡ b → cond b (Some from) (find p (range_with_len (from + 1) count)) ≡ Some k
      → (find p (range_with_len (from + 1) count) ≡ Some k → (p k ≡ true) × (from + 1 ≤ k) × (k < from + 1 + count)) → (p k ≡ true) × (from ≤ k) × (k < from + suc count)
  on true is e more = let same : from ≡ k = cc in (rw (← same) is, omega arith, omega arith)
  on false is e more = let there = more e in (there.0, omega (arith, there.1), omega (arith, there.2))

pub first_of-passes : (p : ℕ → Bool) (from count k : ℕ) → first_of from count p ≡ Some k → (p k ≡ true) × (from ≤ k) × (k < from + count)
unfolding first_of
first_of-passes p from count k found = found_passes p from count k found

found_first : (p : ℕ → Bool) (from count k : ℕ) → from ≤ k → k < from + count → p k ≡ true
    → ((j : ℕ) → from ≤ j → j < k → p j ≡ false) → find p (range_with_len from count) ≡ Some k
found_first p from zero k low high passes none = absurd (omega arith)
found_first p from (suc count) k low high passes none =
    on (cases_lt from k) (λ later. found_first p (from + 1) count k later (omega arith) passes (λ j l h. none j (omega arith) h)) where
      on : (from < k) ⊎ (k ≤ from) → (from + 1 ≤ k → find p (range_with_len (from + 1) count) ≡ Some k)
          → cond (p from) (Some from) (find p (range_with_len (from + 1) count)) ≡ Some k
      on (inl less) more = let fails = none from (omega arith) less in rw fails (more (omega arith))
      on (inr same) more = let at : k ≡ from = omega arith in let here : p from ≡ true = rw at at passes in rw here (ap Some (sym at))

pub first_of-first : (p : ℕ → Bool) (from count k : ℕ) → from ≤ k → k < from + count → p k ≡ true
    → ((j : ℕ) → from ≤ j → j < k → p j ≡ false) → first_of from count p ≡ Some k
unfolding first_of
first_of-first p from count k low high passes none = found_first p from count k low high passes none

pub is_in-numbers : (p : ℕ → Bool) (count k : ℕ) → k < count → is_in (numbers count p) k ≡ p k
unfolding numbers
is_in-numbers p count k within = get_or-map-range_with_len p 0 count k k false within (omega arith)

pub is_in-past : (p : ℕ → Bool) (count k : ℕ) → count ≤ k → is_in (numbers count p) k ≡ false
unfolding numbers
is_in-past p count k past = get_or_past (map p (range_with_len 0 count)) k false (omega (arith, length-map-range_with_len p 0 count))

listed_same : (p q : ℕ → Bool) (from count : ℕ) → ((k : ℕ) → from ≤ k → k < from + count → p k ≡ q k)
    → map p (range_with_len from count) ≡ map q (range_with_len from count)
listed_same p q from zero same = refl
listed_same p q from (suc count) same =
    let here : p from ≡ q from = same from (omega arith) (omega arith) in
    let more = listed_same p q (from + 1) count (λ k low high. same k (omega arith) (omega arith)) in
    rw (here, more)

pub numbers-same : (p q : ℕ → Bool) (count : ℕ) → ((k : ℕ) → k < count → p k ≡ q k) → numbers count p ≡ numbers count q
unfolding numbers
numbers-same p q count same = listed_same p q 0 count (λ k low high. same k (omega arith))

-- one number more that does not pass
pub fails_more : (p : ℕ → Bool) (n : ℕ) → ((k : ℕ) → k < n → p k ≡ false) → p n ≡ false → (k : ℕ) → k < n + 1 → p k ≡ false
fails_more p n before here k within = by (cases_lt k n) where
  by : (k < n) ⊎ (n ≤ k) → p k ≡ false
  by (inl less) = before k less
  by (inr more) = let at : k ≡ n = omega arith in rw at here
