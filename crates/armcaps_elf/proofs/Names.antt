-- Names that end.
use Rattle.std.proofs.Common.{◌≡◌, ◌==◌, ◌+◌, ◌-◌, ◌<◌, ◌≤◌, ℕ, List, arith, drop, false, get_or, inl, inr, length, length-drop, nat_lt, true, ◌∙◌, ap}
use Rattle.std.proofs.lemmas.Bool.{cases_lt}
use Rattle.std.proofs.lemmas.Bool.Decides.{nat_tests}
use Rattle.std.proofs.lemmas.Grind.{get_or_default_zero}
use Rattle.std.proofs.lemmas.List.{get_or-drop}
use Rattle.std.proofs.lemmas.List.Folds.{list_any_at, list_any_none}
use Rattle.armcaps_elf.specs.Refusals.{is_ended}

is_zero : (n : ℕ) → n ≡ 0 → (n == 0) ≡ true
is_zero n is = grind (arith, nat_tests)

not_zero : (n : ℕ) → (n ≡ 0 → ⊥) → (n == 0) ≡ false
not_zero n not = grind (arith, nat_tests)

below : (n m : ℕ) → n < m → true ≡ nat_lt n m
below n m less = grind (arith, nat_tests)

above : (n m : ℕ) → m ≤ n → false ≡ nat_lt n m
above n m more = grind (arith, nat_tests)

-- a name ends that begins before a zero byte
ends : (names : List ℕ) (end place : ℕ) → 0 < end → end ≤ length names → get_or names (end - 1) 0 ≡ 0 → place < end
    → is_ended names place ≡ true
ends names end place some within zero low =
    let at : place + (end - 1 - place) ≡ end - 1 = omega arith in
    let inside : end - 1 - place < length (drop place names) = omega (arith, length-drop place names) in
    let here : get_or (drop place names) (end - 1 - place) 0 ≡ 0 =
    get_or-drop place names (end - 1 - place) 0 ∙ (ap (λ k. get_or names k 0) at ∙ zero) in
    list_any_at (λ byte. byte == 0) (drop place names) (end - 1 - place) 0 inside (is_zero _ here)

-- a name doesn't end behind which there is no zero byte
stays_open : (names : List ℕ) (place : ℕ) → ((k : ℕ) → place ≤ k → k < length names → get_or names k 0 ≡ 0 → ⊥)
    → is_ended names place ≡ false
stays_open names place none =
    list_any_none (λ byte. byte == 0) (drop place names) (λ k d short.
    let inside : place + k < length names = omega (arith, length-drop place names) in
    let here : get_or (drop place names) k d ≡ get_or names (place + k) 0 =
    get_or_default_zero (drop place names) k d short ∙ get_or-drop place names k 0 in
    ap (λ n. n == 0) here ∙ not_zero _ (none (place + k) (omega arith) inside))

-- names end that begin before the place behind the last zero byte, and no others
pub ended_is : (names : List ℕ) (end place : ℕ) → end ≤ length names → (0 < end → get_or names (end - 1) 0 ≡ 0)
    → ((k : ℕ) → end ≤ k → k < length names → get_or names k 0 ≡ 0 → ⊥) → is_ended names place ≡ nat_lt place end
ended_is names end place within before behind = elim (cases_lt place end) [
  | inl low ↦ ends names end place (omega arith) within (before (omega arith)) low ∙ below place end low
  | inr high ↦ stays_open names place (λ k from short. behind k (omega arith) short) ∙ above place end high
]
