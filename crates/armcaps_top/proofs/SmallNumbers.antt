-- Numbers of few digits are small.
use Rattle.std.proofs.Common.{◌≡◌, ℕ, ◌+◌, ◌*◌, ◌^◌, ◌<◌, ◌≤◌, Bool, true, false, ◌&&◌, cond, nat_lt, List, [], ◌∷◌, length, fold, Some, None, refl, sym, ap, subst, ◌∙◌, arith, mul_assoc, mul-one, lit<, lit≤}
use Rattle.std.specs.Char.{digit_value, is_digit}
use Rattle.std.specs.List.{list_all}
use Rattle.std.proofs.Math.Nat.{mul-le-mul_right, one-mul, pow-le-pow_right, pow-zero, pow-succ', le_trans}
use Rattle.std.proofs.lemmas.Bool.Decides.{nat_tests}
use Rattle.armcaps_lex.specs.Digits.{digits_number, value_in}

-- the value of digits after a value
abbrev value_from : ℕ → ℕ → List ℕ → ℕ
value_from base value digits = fold (λ value digit. value * base + digit_value digit) value digits

both : (a b : Bool) → (a && b) ≡ true → (a ≡ true) × (b ≡ true)
both true b is = (refl, is)
both false b is = (is, cc)

digit_below : (base digit : ℕ) → is_digit digit base ≡ true → digit_value digit < base
digit_below base digit is = grind (arith, nat_tests)

-- one digit more
one_more : (base value digit : ℕ) → digit < base → value * base + digit + 1 ≤ (value + 1) * base
one_more base value digit below = grind arith

-- digits after a value make less than the next value with as many noughts after it
below : (base : ℕ) (digits : List ℕ) (value : ℕ) → list_all (λ digit. is_digit digit base) digits ≡ true
    → value_from base value digits + 1 ≤ (value + 1) * base ^ length digits
below base [] value all =
    let here : value_from base value [] ≡ value = refl in
    let none : base ^ length {A = ℕ} [] ≡ 1 = pow-zero base in
    omega (arith, here, ap (λ (n : ℕ). (value + 1) * n) none, mul-one (value + 1))
below base (digit ∷ digits) value all =
    let parts = both (is_digit digit base) (list_all (λ digit. is_digit digit base) digits) all in
    let more = one_more base value (digit_value digit) (digit_below base digit parts.0) in
    let rest = below base digits (value * base + digit_value digit) parts.1 in
    let long : (value + 1) * base * base ^ length digits ≡ (value + 1) * base ^ length (digit ∷ digits) =
    mul_assoc (value + 1) base (base ^ length digits) ∙ ap (λ (n : ℕ). (value + 1) * n) (sym (pow-succ' base (length digits))) in
    le_trans rest (subst (λ (n : ℕ). (value * base + digit_value digit + 1) * base ^ length digits ≤ n) long (mul-le-mul_right (base ^ length digits) more))

taken : (b : Bool) (x y : ℕ) → cond b (Some x) None ≡ Some y → (b ≡ true) × (x ≡ y)
taken true x y is = (refl, cc)
taken false x y is = (cc, cc)

-- a number of at most so many digits
small : (base limit most number : ℕ) (text : List ℕ) → 0 < base → base ^ most ≤ limit → length text ≤ most → digits_number base text ≡ Some number → number < limit
small base limit most number text some bound short is =
    let found = taken (nat_lt 0 (length text) && list_all (λ byte. is_digit byte base) text && nat_lt (value_in base text) (2 ^ 64)) (value_in base text) number is in
    let first = both (nat_lt 0 (length text) && list_all (λ byte. is_digit byte base) text) (nat_lt (value_in base text) (2 ^ 64)) found.0 in
    let all = (both (nat_lt 0 (length text)) (list_all (λ byte. is_digit byte base) text) first.0).1 in
    let fits = below base text 0 all in
    let power : base ^ length text ≤ base ^ most = pow-le-pow_right some short in
    let one : (0 + 1) * base ^ length text ≡ base ^ length text = one-mul (base ^ length text) in
    omega (arith, fits, power, bound, one, found.1)

pub nine_digits : (text : List ℕ) (number : ℕ) → length text < 10 → digits_number 10 text ≡ Some number → number < 2 ^ 32
nine_digits text number short is = small 10 (2 ^ 32) 9 number text (lit< tt) (lit≤ tt) (omega arith) is

pub eight_digits : (text : List ℕ) (number : ℕ) → length text < 9 → digits_number 16 text ≡ Some number → number < 2 ^ 32
eight_digits text number short is = small 16 (2 ^ 32) 8 number text (lit< tt) (lit≤ tt) (omega arith) is
