-- The first number of a range that passes a test.
use Rattle.std.proofs.Common.{◌≡◌, ℕ, zero, suc, ◌+◌, ◌<◌, ◌≤◌, Bool, true, false, Some, None, find, refl, inl, inr, subst, ap, sym, ◌∙◌, arith}
use Rattle.std.specs.List.{range_with_len}
use Rattle.std.proofs.lemmas.Bool.{cases_Bool, cases_order, false≢true}

-- the number is in the range and passes, and no earlier one of the range passes
pub record IsFirstFrom (test : ℕ → Bool) (start count number : ℕ) : Type 0 where
  pub low : start ≤ number
  pub high : number < start + count
  pub passes : test number ≡ true
  pub before : (earlier : ℕ) → start ≤ earlier → earlier < number → test earlier ≡ false

-- the first number of the range fails, and so do those before the first of the others that passes
still_before : (test : ℕ → Bool) (start count number : ℕ) → test start ≡ false
    → IsFirstFrom test (start + 1) count number → (earlier : ℕ) → start ≤ earlier → earlier < number → test earlier ≡ false
still_before test start count number past later earlier from below =
    elim (cases_order start earlier) [
      | inl same ↦ subst (λ (n : ℕ). test n ≡ false) same past
      | inr (inl less) ↦ later.before earlier (omega arith) below
      | inr (inr more) ↦ absurd (omega arith)
    ]

first_later : (test : ℕ → Bool) (start count number : ℕ) → test start ≡ false
    → IsFirstFrom test (start + 1) count number → IsFirstFrom test start (suc count) number
first_later test start count number past later = record {
  low = (let low = later.low in omega arith);
  high = (let high = later.high in omega arith);
  passes = later.passes;
  before = still_before test start count number past later;
}

first_here : (test : ℕ → Bool) (start count number : ℕ) → test start ≡ true → start ≡ number
    → IsFirstFrom test start (suc count) number
first_here test start count number here same = record {
  low = omega arith;
  high = omega arith;
  passes = ap test (sym same) ∙ here;
  before = λ earlier from below. absurd (omega arith);
}

-- what is found is the first
pub found_is_first : (test : ℕ → Bool) (start count number : ℕ) → find test (range_with_len start count) ≡ Some number
    → IsFirstFrom test start count number
found_is_first test start zero number found = cc
found_is_first test start (suc count) number found =
    elim (cases_Bool (test start)) [
      | inl here ↦
          (let same : Some start ≡ Some number = rw here at found in
          let is : start ≡ number = cc in
          first_here test start count number here is)
      | inr past ↦
          first_later test start count number past
          (found_is_first test (start + 1) count number (rw past at found))
    ]

-- the first is found
pub first_is_found : (test : ℕ → Bool) (start count number : ℕ) → IsFirstFrom test start count number
    → find test (range_with_len start count) ≡ Some number
first_is_found test start zero number first =
    (let low = first.low in let high = first.high in absurd (omega arith))
first_is_found test start (suc count) number first =
    elim (cases_order start number) [
      | inl same ↦
          (let here : test start ≡ true = ap test same ∙ first.passes in
          rw here (ap (λ (n : ℕ). Some n) same))
      | inr (inl less) ↦
          (let past : test start ≡ false = first.before start (omega arith) less in
          let high = first.high in
          let later : IsFirstFrom test (start + 1) count number =
          record {
            low = omega arith;
            high = omega arith;
            passes = first.passes;
            before = λ earlier from below. first.before earlier (omega arith) below;
          } in
          rw past (first_is_found test (start + 1) count number later))
      | inr (inr more) ↦ (let low = first.low in absurd (omega arith))
    ]

-- where some number of the range passes, a first one does
pub some_first : (test : ℕ → Bool) (start count number : ℕ) → start ≤ number → number < start + count
    → test number ≡ true → (first : ℕ) × (find test (range_with_len start count) ≡ Some first)
some_first test start zero number low high passes = absurd (omega arith)
some_first test start (suc count) number low high passes =
    elim (cases_Bool (test start)) [
      | inl here ↦ (start, rw here refl)
      | inr past ↦
          elim (cases_order start number) [
            | inl same ↦ absurd (false≢true (sym past ∙ ap test same ∙ passes))
            | inr (inl less) ↦
                (let later : (first : ℕ) × (find test (range_with_len (start + 1) count) ≡ Some first) =
                some_first test (start + 1) count number (omega arith) (omega arith) passes in
                (later.0, rw past later.1))
            | inr (inr more) ↦ absurd (omega arith)
          ]
    ]

-- where none of the range passes, nothing is found
pub none_found : (test : ℕ → Bool) (start count : ℕ)
    → ((number : ℕ) → start ≤ number → number < start + count → test number ≡ false)
    → find test (range_with_len start count) ≡ None
none_found test start zero none = refl
none_found test start (suc count) none =
    let past : test start ≡ false = none start (omega arith) (omega arith) in
    rw past (none_found test (start + 1) count (λ number low high. none number (omega arith) (omega arith)))
