-- One bit a word: what a mark changes.
use Rattle.std.proofs.Common.{◌≡◌, ℕ, ◌*◌, ◌/◌, ◌%◌, ◌^◌, ◌<◌, ◌==◌, ◌||◌, false, List, bit_or, length, get_or, set, sym, ap, ◌∙◌, inl, inr, arith, eq-eqb, get_or-set_other, get_or-set_same, w64}
use Rattle.std.specs.Int.{bit_at}
use Rattle.std.proofs.lemmas.Bool.{cases_eq, eqb-true, false_from_ne_true}
use Rattle.std.proofs.lemmas.Nat.Bits.{bit_at_set_other, bit_at_set_same}
use Rattle.armcaps_pool.specs.Judging.{is_marked}

abbrev with_mark : List ℕ → ℕ → List ℕ
with_mark marks number = set marks (number / 64) (bit_or (get_or marks (number / 64) 0) (1 * 2 ^ (number % 64) % 2 ^ 64))

unequal : (a b : ℕ) → (a ≡ b → ⊥) → (a == b) ≡ false
unequal a b differ = false_from_ne_true (a == b) (λ same. differ (eqb-true a b same))

pub marked : (marks : List ℕ) (number other : ℕ) → number / 64 < length marks
    → is_marked (with_mark marks number) other ≡ (other == number || is_marked marks other)
marked marks number other within = elim (cases_eq (other / 64) (number / 64)) [
  | inl block ↦ elim (cases_eq (other % 64) (number % 64)) [
    | inl bit ↦
        (let same : other ≡ number = omega arith in
        let here : get_or (with_mark marks number) (other / 64) 0
        ≡ bit_or (get_or marks (number / 64) 0) (1 * 2 ^ (number % 64) % 2 ^ 64) =
        ap (λ n. get_or (with_mark marks number) n 0) block
        ∙ get_or-set_same marks (number / 64) (bit_or (get_or marks (number / 64) 0) (1 * 2 ^ (number % 64) % 2 ^ 64)) 0 within in
        let is : bit_at (get_or (with_mark marks number) (other / 64) 0) (other % 64) ≡ 1 =
        ap (λ n. bit_at n (other % 64)) here ∙ ap (bit_at (bit_or (get_or marks (number / 64) 0) (1 * 2 ^ (number % 64) % 2 ^ 64))) bit
        ∙ bit_at_set_same w64 (get_or marks (number / 64) 0) (number % 64) (omega arith) in
        ap (λ n. n == 1) is ∙ sym (ap (λ b. b || is_marked marks other) (eq-eqb other number same)))
    | inr bits ↦
        (let differ : (other == number) ≡ false = unequal other number (λ same. bits (ap (λ n. n % 64) same)) in
        let here : get_or (with_mark marks number) (other / 64) 0
        ≡ bit_or (get_or marks (number / 64) 0) (1 * 2 ^ (number % 64) % 2 ^ 64) =
        ap (λ n. get_or (with_mark marks number) n 0) block
        ∙ get_or-set_same marks (number / 64) (bit_or (get_or marks (number / 64) 0) (1 * 2 ^ (number % 64) % 2 ^ 64)) 0 within in
        let is : bit_at (get_or (with_mark marks number) (other / 64) 0) (other % 64) ≡ bit_at (get_or marks (other / 64) 0) (other % 64) =
        ap (λ n. bit_at n (other % 64)) here
        ∙ bit_at_set_other w64 (get_or marks (number / 64) 0) (number % 64) (omega arith) (other % 64) bits
        ∙ ap (λ n. bit_at (get_or marks n 0) (other % 64)) (sym block) in
        ap (λ n. n == 1) is ∙ sym (ap (λ b. b || is_marked marks other) differ))
  ]
  | inr blocks ↦
      (let differ : (other == number) ≡ false = unequal other number (λ same. blocks (ap (λ n. n / 64) same)) in
      let here : get_or (with_mark marks number) (other / 64) 0 ≡ get_or marks (other / 64) 0 =
      get_or-set_other marks (number / 64) (other / 64) (bit_or (get_or marks (number / 64) 0) (1 * 2 ^ (number % 64) % 2 ^ 64)) 0 blocks in
      ap (λ n. bit_at n (other % 64) == 1) here ∙ sym (ap (λ b. b || is_marked marks other) differ))
]
