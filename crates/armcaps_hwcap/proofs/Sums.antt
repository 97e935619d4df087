-- The bits of the two words: those of the rows before a row lie below its bit, and those of the rows after it above.
use Rattle.std.proofs.Common.{◌≡◌, ℕ, ◌+◌, ◌-◌, ◌*◌, ◌%◌, ◌^◌, ◌<◌, ◌≤◌, suc, zero, Bool, true, false, ◌&&◌, cond, List, [], ◌∷◌, take, sum_by, Some, slice_get, sym, ◌∙◌, ap, subst, mul_comm, add-zero, arith}
use Rattle.std.specs.Int.{bit_at}
use Rattle.std.specs.List.{enumerate_from}
use Rattle.std.proofs.Math.Nat.{pow-le-pow_right}
use Rattle.std.proofs.lemmas.Nat.{pow-add}
use Rattle.std.proofs.lemmas.List.Sums.{sum_by-cons}
use Rattle.std.proofs.lemmas.Nat.Bits.{bit_at_cat_high, bit_at_lowest}
use Rattle.armcaps_rule.proofs.Insertion.{by_bool}
use Rattle.armcaps_hwcap.specs.Facts.{bits_rise}
use Rattle.armcaps_hwcap.specs.Row.{Row}
use Rattle.armcaps_hwcap.specs.Words.{bit_of, stands_in}
use Rattle.armcaps_hwcap.proofs.Listing.{rises_skip, rises_step}

-- a row's part of a word's sum
abbrev pub part : Bool → (ℕ → Bool) → ℕ × Row → ℕ
part second test item = bit_of second test item.0 item.1

part_of_other : (second : Bool) (test : ℕ → Bool) (index : ℕ) (row : Row) → stands_in second row ≡ false
    → part second test (index, row) ≡ 0
part_of_other second test index row is = ap (λ b. cond (b && test index) (2 ^ row.bit) 0) is

part_of_own : (second : Bool) (test : ℕ → Bool) (index : ℕ) (row : Row) → stands_in second row ≡ true
    → part second test (index, row) ≡ cond (test index) (2 ^ row.bit) 0
part_of_own second test index row is = ap (λ b. cond (b && test index) (2 ^ row.bit) 0) is

either_below : (b : Bool) (bit : ℕ) → cond b (2 ^ bit) 0 ≤ 2 ^ bit
either_below true bit = omega arith
either_below false bit = omega arith

doubled : (bit : ℕ) → 2 ^ (bit + 1) ≡ 2 ^ bit * 2
doubled bit = pow-add 2 bit 1

power_up : (i j : ℕ) → i ≤ j → 2 ^ i ≤ 2 ^ j
power_up i j h = pow-le-pow_right (omega arith) h

-- after a row of the word the sum so far is below the next bit
sum_steps : (second : Bool) (test : ℕ → Bool) (least index acc : ℕ) (row : Row) → stands_in second row ≡ true
    → least ≤ row.bit → acc < 2 ^ least
    → acc + part second test (index, row) < 2 ^ (row.bit + 1)
sum_steps second test least index acc row is after below =
    omega (
      arith,
      part_of_own second test index row is,
      either_below (test index) row.bit,
      doubled row.bit,
      power_up
          least row.bit after,
    )

-- a word's sum, its first row apart
prefix_cons : (second : Bool) (test : ℕ → Bool) (first i : ℕ) (head : Row) (rows : List Row)
    → sum_by (part second test) (take (suc i) (enumerate_from first (head ∷ rows)))
    ≡ part second test (first, head) + sum_by (part second test) (take i (enumerate_from (first + 1) rows))
prefix_cons second test first i head rows = sum_by-cons (part second test) (first, head)
    (take i (enumerate_from (first + 1) rows))

all_cons : (second : Bool) (test : ℕ → Bool) (first : ℕ) (head : Row) (rows : List Row)
    → sum_by (part second test) (enumerate_from first (head ∷ rows))
    ≡ part second test (first, head) + sum_by (part second test) (enumerate_from (first + 1) rows)
all_cons second test first head rows = sum_by-cons (part second test) (first, head) (enumerate_from (first + 1) rows)

-- the sum of the rows before a row of the word is below its bit
pub prefix_below : (second : Bool) (test : ℕ → Bool) (least first acc : ℕ) (rows : List Row) (i : ℕ) (row : Row)
    → bits_rise second least rows ≡ true
    → slice_get rows i ≡ Some row → stands_in second row ≡ true → acc < 2 ^ least
    → acc + sum_by (part second test) (take i (enumerate_from first rows)) < 2 ^ row.bit
prefix_below second test least first acc [] i row rise at is below = absurd (cc)
prefix_below second test least first acc (head ∷ rows) zero row rise at is below =
    let same : head ≡ row = cc in
    let step = rises_step second least head rows rise (ap (stands_in second) same ∙ is) in
    let Below : Row → Type 0 = λ it. acc + 0 < 2 ^ it.bit in
    subst Below same (omega (arith, power_up least head.bit step.0))
prefix_below second test least first acc (head ∷ rows) (suc i) row rise at is below =
    let split = prefix_cons second test first i head rows in
    by_bool (stands_in second head)
    (λ its.
    let step = rises_step second least head rows rise its in
    let later = prefix_below second test (head.bit + 1) (first + 1) (acc + part second test (first, head)) rows i row
    step.1 at is
    (sum_steps second test least first acc head its step.0 below) in
    omega (arith, split, later))
    (λ its.
    let later = prefix_below second test least (first + 1) acc rows i row (rises_skip second least head rows rise its)
    at is below in
    omega (arith, split, later, part_of_other second test first head its))

-- the sum of rows whose bits rise from one on is a multiple of it
suffix_multiple : (second : Bool) (test : ℕ → Bool) (least first : ℕ) (rows : List Row)
    → bits_rise second least rows ≡ true
    → (q : ℕ) × (sum_by (part second test) (enumerate_from first rows) ≡ q * 2 ^ least)
suffix_multiple second test least first [] rise = (0, omega arith)
suffix_multiple second test least first (head ∷ rows) rise =
    let split = all_cons second test first head rows in
    by_bool (stands_in second head)
    (λ its.
    let step = rises_step second least head rows rise its in
    let later = suffix_multiple second test (head.bit + 1) (first + 1) rows step.1 in
    let own = multiple (test first) least head.bit step.0 in
    let rest = multiple true least (head.bit + 1) (omega (arith, step.0)) in
    let scaled : later.0 * 2 ^ (head.bit + 1) ≡ later.0 * (rest.0 * 2 ^ least) = ap (λ n. later.0 * n) rest.1 in
    (own.0 + later.0 * rest.0, omega (arith, split, part_of_own second test first head its, own.1, later.1, scaled)))
    (λ its.
    let later = suffix_multiple second test least (first + 1) rows (rises_skip second least head rows rise its) in
    (later.0, omega (arith, split, part_of_other second test first head its, later.1))) where
      multiple : (b : Bool) (least bit : ℕ) → least ≤ bit → (q : ℕ) × (cond b (2 ^ bit) 0 ≡ q * 2 ^ least)
      multiple false least bit h = (0, omega arith)
      multiple true least bit h =
          let gap : least + (bit - least) ≡ bit = omega arith in (
            2 ^ (bit - least),
            ap (λ n. 2 ^ n) (sym gap) ∙ pow-add 2 least (bit - least)
                ∙ mul_comm (2 ^ least) (2 ^ (bit - least)),
          )

-- a bit between what lies below it and a multiple of the next one
bit_between : (b : Bool) (acc bit q : ℕ) → acc < 2 ^ bit
    → bit_at (acc + (cond b (2 ^ bit) 0 + q * 2 ^ (bit + 1))) bit ≡ cond b 1 0
bit_between b acc bit q below =
    ap (λ n. bit_at n bit) (parts b)
    ∙ bit_at_cat_high (cond b 1 0 + 2 * q) bit acc bit below (omega arith)
    ∙ ap (bit_at (cond b 1 0 + 2 * q)) gap
    ∙ bit_at_lowest (cond b 1 0 + 2 * q)
    ∙ odd b where
      gap : bit - bit ≡ 0
      gap = omega arith

      parts : (b : Bool) → acc + (cond b (2 ^ bit) 0 + q * 2 ^ (bit + 1)) ≡ (cond b 1 0 + 2 * q) * 2 ^ bit + acc
      parts true = rw (doubled bit) (omega arith)
      parts false = rw (doubled bit) (omega arith)

      odd : (b : Bool) → (cond b 1 0 + 2 * q) % 2 ≡ cond b 1 0
      odd true = omega arith
      odd false = omega arith

-- the bit of a row of the word in the sum of all is set exactly where its index passes
pub bit_in_sum : (second : Bool) (test : ℕ → Bool) (least first acc : ℕ) (rows : List Row) (i : ℕ) (row : Row)
    → bits_rise second least rows ≡ true
    → slice_get rows i ≡ Some row → stands_in second row ≡ true → acc < 2 ^ least
    → bit_at (acc + sum_by (part second test) (enumerate_from first rows)) row.bit ≡ cond (test (first + i)) 1 0
bit_in_sum second test least first acc [] i row rise at is below = absurd (cc)
bit_in_sum second test least first acc (head ∷ rows) zero row rise at is below =
    let same : head ≡ row = cc in
    let its : stands_in second head ≡ true = ap (stands_in second) same ∙ is in
    let step = rises_step second least head rows rise its in
    let later = suffix_multiple second test (head.bit + 1) (first + 1) rows step.1 in
    let sum : acc + sum_by (part second test) (enumerate_from first (head ∷ rows))
    ≡ acc + (cond (test first) (2 ^ head.bit) 0 + later.0 * 2 ^ (head.bit + 1)) =
    omega (arith, all_cons second test first head rows, part_of_own second test first head its, later.1) in
    let below_it : acc < 2 ^ head.bit = omega (arith, power_up least head.bit step.0) in
    ap (bit_at (acc + sum_by (part second test) (enumerate_from first (head ∷ rows))))
    (ap (λ (it : Row). it.bit) (sym same))
    ∙ ap (λ n. bit_at n head.bit) sum
    ∙ bit_between (test first) acc head.bit later.0 below_it
    ∙ ap (λ n. cond (test n) 1 0) (sym (add-zero first))
bit_in_sum second test least first acc (head ∷ rows) (suc i) row rise at is below =
    let split = all_cons second test first head rows in
    let place : first + 1 + i ≡ first + suc i = omega arith in
    by_bool (stands_in second head)
    (λ its.
    let step = rises_step second least head rows rise its in
    let later = bit_in_sum second test (head.bit + 1) (first + 1) (acc + part second test (first, head)) rows i row
    step.1 at is
    (sum_steps second test least first acc head its step.0 below) in
    let same : acc + sum_by (part second test) (enumerate_from first (head ∷ rows))
    ≡ acc + part second test (first, head) + sum_by (part second test) (enumerate_from (first + 1) rows) = omega
    (arith, split) in
    ap (λ sum. bit_at sum row.bit) same ∙ later ∙ ap (λ n. cond (test n) 1 0) place)
    (λ its.
    let later = bit_in_sum second test least (first + 1) acc rows i row (rises_skip second least head rows rise its) at
    is below in
    let same : acc + sum_by (part second test) (enumerate_from first (head ∷ rows))
    ≡ acc + sum_by (part second test) (enumerate_from (first + 1) rows) = omega
    (arith, split, part_of_other second test first head its) in
    ap (λ sum. bit_at sum row.bit) same ∙ later ∙ ap (λ n. cond (test n) 1 0) place)
