-- Sections that share, and sections that follow one another.
use Rattle.std.proofs.Common.{◌≡◌, ◌+◌, ◌-◌, ◌<◌, ◌≤◌, ℕ, Bool, List, [], ◌∷◌, arith, cond, count_by, false, get_or, inl, inr, length, nat_le, suc, true, zero, refl, ◌∙◌, sym}
use Rattle.std.specs.List.{All, AllPairs}
use Rattle.std.specs.List.Sorted.{IsNonDecreasingBy}
use Rattle.std.proofs.lemmas.Bool.{cases_lt}
use Rattle.std.proofs.lemmas.Bool.Decides.{nat_tests}
use Rattle.std.proofs.lemmas.List.{get_or_default}
use Rattle.std.proofs.lemmas.List.Folds.{list_any_at, list_any_none}
use Rattle.std.proofs.lemmas.List.Sums.{sum_by-cons}
use Rattle.armcaps_elf.specs.declared.section.Section.{Section}
use Rattle.armcaps_elf.specs.Sections.{Follows, overlap, shares}

-- a count by its first element
count-cons : {X : Type 0} (p : X → Bool) (x : X) (xs : List X) → count_by p (x ∷ xs) ≡ cond (p x) 1 0 + count_by p xs
count-cons p x xs = sum_by-cons (λ y. cond (p y) 1 0) x xs

-- none passes
count_none : {X : Type 0} (p : X → Bool) (xs : List X) → ((i : ℕ) (d : X) → i < length xs → p (get_or xs i d) ≡ false) → count_by p xs ≡ 0
count_none p [] fail = refl
count_none p (x ∷ xs) fail =
    let first : p x ≡ false = fail 0 x (omega arith) in
    let rest = count_none p xs (λ i d short. fail (suc i) d (omega arith)) in
    rw (count-cons p x xs, first, rest) refl

not_true : (b : Bool) → (b ≡ true → ⊥) → b ≡ false
not_true true never = absurd (never refl)
not_true false never = refl

at_most_one : (b : Bool) → cond b 1 0 ≤ 1
at_most_one true = omega arith
at_most_one false = omega arith

zero-not-suc : {n : ℕ} → suc n ≡ 0 → ⊥
zero-not-suc is = omega arith

not-zero-suc : {n : ℕ} → 0 ≡ suc n → ⊥
not-zero-suc is = omega arith

pred-same : (n m : ℕ) → suc n ≡ suc m → n ≡ m
pred-same n m is = omega arith

-- no other passes than the one at a place
true-false : {X : Type 0} → true ≡ false → X
true-false is = absurd (cc)

pub count-one : {X : Type 0} (p : X → Bool) (xs : List X) (k : ℕ)
    → ((i : ℕ) (d : X) → i < length xs → p (get_or xs i d) ≡ true → i ≡ k) → count_by p xs ≤ 1
count-one p [] k only = omega arith
count-one p (x ∷ xs) zero only =
    let rest = count_none p xs (λ i d short. not_true (p (get_or xs i d)) (λ pass. zero-not-suc (only (suc i) d (omega arith) pass))) in
    omega (arith, count-cons p x xs, rest, at_most_one (p x))
count-one p (x ∷ xs) (suc k) only =
    let first : p x ≡ false = not_true (p x) (λ pass. not-zero-suc (only 0 x (omega arith) pass)) in
    let rest = count-one p xs k (λ i d short pass. pred-same i k (only (suc i) d (omega arith) pass)) in
    rw (count-cons p x xs, first) (omega (arith, rest))

-- one passes
count-some : {X : Type 0} (p : X → Bool) (xs : List X) (k : ℕ) (d : X) → k < length xs → p (get_or xs k d) ≡ true
    → 1 ≤ count_by p xs
count-some p [] k d within pass = omega arith
count-some p (x ∷ xs) zero d within pass = rw (count-cons p x xs, pass) (omega arith)
count-some p (x ∷ xs) (suc k) d within pass =
    let rest = count-some p xs k d (omega arith) pass in
    omega (arith, count-cons p x xs, rest)

-- two pass
pub count-two : {X : Type 0} (p : X → Bool) (xs : List X) (i j : ℕ) (d : X) → i < j → j < length xs → p (get_or xs i d) ≡ true
    → p (get_or xs j d) ≡ true → 2 ≤ count_by p xs
count-two p [] i j d order within one other = omega arith
count-two p (x ∷ xs) zero zero d order within one other = omega arith
count-two p (x ∷ xs) zero (suc j) d order within one other =
    let rest = count-some p xs j d (omega arith) other in
    rw (count-cons p x xs, one) (omega arith)
count-two p (x ∷ xs) (suc i) zero d order within one other = omega arith
count-two p (x ∷ xs) (suc i) (suc j) d order within one other =
    let rest = count-two p xs i j d (omega arith) (omega arith) one other in
    omega (arith, count-cons p x xs, rest)

module _ (begin : Section → ℕ) where
  -- sections that begin ever later, each behind the one before it, follow all that stand before them
  pub all_follow : (xs : List Section) → IsNonDecreasingBy begin xs
      → ((k : ℕ) (d : Section) → k + 1 < length xs → Follows begin (get_or xs k d) (get_or xs (k + 1) d)) → AllPairs (Follows begin) xs
  all_follow xs rise near = λ i j d less within.
      let next = near i d (omega arith) in
      let later = rise (i + 1) j d (omega arith) within in
      omega arith

  shares-itself : (s : Section) → 0 < s.size → shares begin s s ≡ true
  shares-itself s some = grind (arith, nat_tests)

  shares-before : (s t : Section) → 0 < s.size → begin t ≤ begin s → begin s < begin t + t.size → shares begin s t ≡ true
  shares-before s t some order inside = grind (arith, nat_tests)

  -- what follows doesn't share
  apart : (s t : Section) → Follows begin s t → shares begin s t ≡ false
  apart s t follows = grind (arith, nat_tests)

  apart-before : (s t : Section) → Follows begin t s → shares begin s t ≡ false
  apart-before s t follows = grind (arith, nat_tests)

  one-at-most : (n : ℕ) → n ≤ 1 → nat_le 2 n ≡ false
  one-at-most n few = grind (arith, nat_tests)

  two-at-least : (n : ℕ) → 2 ≤ n → nat_le 2 n ≡ true
  two-at-least n many = grind (arith, nat_tests)

  same-place : (xs : List Section) (i k : ℕ) (d : Section) → AllPairs (Follows begin) xs → i < length xs → k < length xs
      → shares begin (get_or xs k d) (get_or xs i d) ≡ true → i ≡ k
  same-place xs i k d follow short within share =
      elim (cases_lt i k) [
        | inl before ↦ true-false (sym share ∙ apart-before (get_or xs k d) (get_or xs i d) (follow i k d before within))
        | inr after ↦ elim (cases_lt k i) [
          | inl behind ↦ true-false (sym share ∙ apart (get_or xs k d) (get_or xs i d) (follow k i d behind short))
          | inr here ↦ omega arith
        ]
      ]

  -- of sections that follow one another none shares with two
  pub none_overlap : (xs : List Section) → AllPairs (Follows begin) xs → overlap begin xs ≡ false
  none_overlap xs follow =
      list_any_none (λ one. nat_le 2 (count_by (shares begin one) xs)) xs (λ k d within.
      one-at-most _ (count-one (shares begin (get_or xs k d)) xs k (λ i e short share.
      same-place xs i k d follow short within (rw (get_or_default xs i e d short) at share))))

  -- a section that begins before the end of the one before it shares with it
  pub near_overlap : (xs : List Section) (index : ℕ) (d : Section) → 0 < index → index < length xs → IsNonDecreasingBy begin xs
      → All (λ s. 0 < s.size) xs
      → begin (get_or xs index d) < begin (get_or xs (index - 1) d) + (get_or xs (index - 1) d).size → overlap begin xs ≡ true
  near_overlap xs index d behind within rise some inside =
      let s = get_or xs index d in
      let order = rise (index - 1) index d (omega arith) within in
      let share = shares-before s (get_or xs (index - 1) d) (some index d within) order inside in
      let two = count-two (shares begin s) xs (index - 1) index d (omega arith) within share (shares-itself s (some index d within)) in
      list_any_at (λ one. nat_le 2 (count_by (shares begin one) xs)) xs index d within (two-at-least _ two)
