-- Numbers, digit by digit.
use Rattle.std.proofs.Common.{◌≡◌, ℕ, ◌+◌, ◌*◌, ◌^◌, ◌≤◌, ◌==◌, ◌&&◌, Bool, true, false, nat_lt, cond, List, [], ◌∷◌, length, fold, Option, Some, None, refl, sym, arith}
use Rattle.std.specs.Char.{digit_value, is_digit}
use Rattle.std.specs.Option.{option_and_then}
use Rattle.std.specs.List.{list_all}
use Rattle.std.proofs.Math.Nat.{mul-le-mul_left, le_trans}
use Rattle.std.proofs.lemmas.Bool.Decides.{nat_tests}
use Rattle.armcaps_lex.specs.Digits.{digits_number}

-- a number with one more digit at its end, where the byte is a digit and the number stays below 2^64
abbrev next_value : (base value byte : ℕ) → Option ℕ
next_value base value byte =
    cond (is_digit byte base && nat_lt (value * base + digit_value byte) (2 ^ 64)) (Some (value * base + digit_value byte)) None

-- the value so far with the remaining digits after it
abbrev pub continued : ℕ → ℕ → List ℕ → Option ℕ
continued base value [] = Some value
continued base value (digit ∷ digits) = option_and_then (λ more. continued base more digits) (next_value base value digit)

-- the value of digits after a value
abbrev value_from : ℕ → ℕ → List ℕ → ℕ
value_from base value digits = fold (λ value digit. value * base + digit_value digit) value digits

-- one more digit makes no number smaller
more_digits : (base value digit : ℕ) → 1 ≤ base → value ≤ value * base + digit
more_digits base value digit h = omega (arith, mul-le-mul_left value h)

-- nor do several
value_from-grows : (base : ℕ) → 1 ≤ base → (digits : List ℕ) (value : ℕ) → value ≤ value_from base value digits
value_from-grows base h [] value = omega arith
value_from-grows base h (digit ∷ digits) value = le_trans (more_digits base value (digit_value digit) h) (value_from-grows base h digits (value * base + digit_value digit))

-- what a value and further digits give
abbrev number_from : ℕ → ℕ → List ℕ → Option ℕ
number_from base value digits =
    cond (list_all (λ digit. is_digit digit base) digits && nat_lt (value_from base value digits) (2 ^ 64)) (Some (value_from base value digits)) None

-- a number that is too large already stays so
too_large : (base : ℕ) → 1 ≤ base → (digits : List ℕ) (value : ℕ) → nat_lt value (2 ^ 64) ≡ false → number_from base value digits ≡ None
too_large base h digits value large =
    let grown = value_from-grows base h digits value in
    let still : nat_lt (value_from base value digits) (2 ^ 64) ≡ false = grind (arith, nat_tests) in
    rw still (grind (arith, nat_tests))

-- digit by digit or at once, the number is the same
continued-number : (base : ℕ) → 1 ≤ base → (digits : List ℕ) (value : ℕ) → nat_lt value (2 ^ 64) ≡ true → continued base value digits ≡ number_from base value digits
continued-number base h [] value small = rw small refl
continued-number base h (digit ∷ digits) value small =
    by_tests (is_digit digit base) (nat_lt (value * base + digit_value digit) (2 ^ 64)) refl refl (continued-number base h digits (value * base + digit_value digit))
  where
    next : ℕ
    next = value * base + digit_value digit

    by_tests : (passes fits : Bool) → is_digit digit base ≡ passes → nat_lt next (2 ^ 64) ≡ fits → (nat_lt next (2 ^ 64) ≡ true → continued base next digits ≡ number_from base next digits) → continued base value (digit ∷ digits) ≡ number_from base value (digit ∷ digits)
    by_tests true true e f ih = rw (e, f) (ih f)
    by_tests true false e f ih = rw (e, f) (sym (too_large base h digits next f))
    by_tests false fits e f ih = rw e refl

-- from the first digit on
pub continued_start : (base : ℕ) (digits : List ℕ) → 2 ≤ base → (length digits == 0) ≡ false → continued base 0 digits ≡ digits_number base digits
continued_start base digits h some =
    let long : nat_lt 0 (length digits) ≡ true = grind (arith, nat_tests) in
    rw long (continued-number base (omega arith) digits 0 refl)
