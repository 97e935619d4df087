-- Offsets in bytes, and the bits that stand for them.
use Rattle.std.proofs.Common.{◌≡◌, ℕ, ◌+◌, ◌-◌, ◌*◌, ◌/◌, ◌^◌, ◌<◌, ◌≤◌, ◌&&◌, suc, ℤ, pos, negsuc, ◌*ℤ◌, ◌≤ℤ◌, ◌<ℤ◌, neg_ℤ, zero, true, int_le, refl, sym, ap, ◌∙◌, inl, inr, lit<, arith}
use Rattle.std.proofs.Math.IntN.{pos-*ℤ-pos, negsuc-*ℤ-pos}
use Rattle.std.proofs.Math.Nat.{mul-le-mul_right, pow-le-pow_right, zero-mul}
use Rattle.std.proofs.lemmas.Bool.{cases_lt}
use Rattle.std.proofs.lemmas.Int.{ints}
use Rattle.std.proofs.lemmas.Nat.{mul-le, pow_pos, div_below, shl-shr, shr_high, shr_split}
use Rattle.armcaps_insn.specs.declared.immediates.Immediate.{Immediate}
use Rattle.armcaps_bits.specs.Field.{signed_number}
use Rattle.armcaps_bits.proofs.Signs.{pow-top, signed_number-high, signed_number-low}
use Rattle.armcaps_insn.specs.Immediates.{IsImmediate, bits_for, is_in_range, offset_width, steps_in}

-- a negative number by what follows it
neg_as : (n m : ℕ) → n ≡ suc m → neg_ℤ (pos n) ≡ negsuc m
neg_as n m e = ap (λ k. neg_ℤ (pos k)) e

-- a product is no greater than another only where its first factor is
factor_le : (a b unit : ℕ) → 0 < unit → a * unit ≤ b * unit → a ≤ b
factor_le a b unit some le = elim (cases_lt b a) [
  | inl less ↦ absurd (omega (arith, mul-le-mul_right unit (let next : suc b ≤ a = omega arith in next)))
  | inr other ↦ other
]

module _ (i : Immediate) (is : IsImmediate i) where
  abbrev width : ℕ
  width = offset_width i

  abbrev half : ℕ
  half = 2 ^ (width - 1)

  abbrev unit : ℕ
  unit = 2 ^ i.scale

  whole : 2 ^ width ≡ 2 * half
  whole = let some = is.some in pow-top width (omega arith)

  -- an offset of so many units, forwards and backwards
  forwards : (n : ℕ) → pos n *ℤ pos unit ≡ pos (n * unit)
  forwards n = pos-*ℤ-pos n unit

  backwards : (n : ℕ) → negsuc n *ℤ pos unit ≡ negsuc (n * unit + (unit - 1))
  backwards n = negsuc-*ℤ-pos n unit ∙ neg_as (suc n * unit) (n * unit + (unit - 1)) (omega (arith, pow_pos i.scale))

  bits-forwards : (n : ℕ) → bits_for i (pos n *ℤ pos unit) ≡ n
  bits-forwards n = ap (bits_for i) (forwards n) ∙ shl-shr n i.scale

  bits-backwards : (n : ℕ) → bits_for i (negsuc n *ℤ pos unit) ≡ 2 ^ width - suc n
  bits-backwards n = ap (bits_for i) (backwards n) ∙ ap (λ m. 2 ^ width - suc m) (shr_high n i.scale (unit - 1) (omega (arith, pow_pos i.scale)))

  -- the offsets in range
  range-forwards : (n : ℕ) → is_in_range i (pos n *ℤ pos unit) ≡ true → n < half
  range-forwards n in_range =
      let at : is_in_range i (pos (n * unit)) ≡ true = ap (is_in_range i) (sym (forwards n)) ∙ in_range in
      let le : n * unit ≤ (half - 1) * unit = grind (arith, ints) in
      let least = factor_le n (half - 1) unit (pow_pos i.scale) le in
      omega (arith, pow_pos (width - 1))

  range-backwards : (n : ℕ) → is_in_range i (negsuc n *ℤ pos unit) ≡ true → suc n ≤ half
  range-backwards n in_range =
      let at : is_in_range i (neg_ℤ (pos (suc n * unit))) ≡ true = ap (is_in_range i) (sym (negsuc-*ℤ-pos n unit)) ∙ in_range in
      let le : suc n * unit ≤ half * unit = grind (arith, ints) in
      factor_le (suc n) half unit (pow_pos i.scale) le

  -- the bits that stand for an offset in range stand for it
  pub read_back : (steps : ℤ) → is_in_range i (steps *ℤ pos unit) ≡ true → signed_number width (bits_for i (steps *ℤ pos unit)) ≡ steps
  read_back (pos n) in_range = ap (signed_number width) (bits-forwards n) ∙ signed_number-low width n (range-forwards n in_range)
  read_back (negsuc n) in_range =
      let most = range-backwards n in_range in
      let back : 2 ^ width - suc (2 ^ width - suc n) ≡ n = omega (arith, whole) in
      ap (signed_number width) (bits-backwards n) ∙ signed_number-high width (2 ^ width - suc n) (omega (arith, whole)) (omega (arith, whole, pow_pos (width - 1))) ∙ ap negsuc back

  pub bits_fit : (steps : ℤ) → is_in_range i (steps *ℤ pos unit) ≡ true → bits_for i (steps *ℤ pos unit) < 2 ^ width
  bits_fit (pos n) in_range = let less = range-forwards n in_range in omega (arith, bits-forwards n, whole)
  bits_fit (negsuc n) in_range = omega (arith, bits-backwards n, whole, pow_pos (width - 1))

  -- the offset that bits stand for is in range, and these bits stand for it
  pub in_range-twos : (bits : ℕ) → bits < 2 ^ width → is_in_range i (signed_number width bits *ℤ pos unit) ≡ true
  in_range-twos bits fit = elim (cases_lt bits half) [
    | inl low ↦
        let le : bits * unit ≤ (half - 1) * unit = mul-le-mul_right unit (omega (arith, pow_pos (width - 1))) in
        let at : is_in_range i (pos (bits * unit)) ≡ true = grind (arith, ints) in
        ap (λ steps. is_in_range i (steps *ℤ pos unit)) (signed_number-low width bits low) ∙ ap (is_in_range i) (forwards bits) ∙ at
    | inr high ↦
        let n : ℕ = 2 ^ width - suc bits in
        let le : suc n * unit ≤ half * unit = mul-le-mul_right unit (omega (arith, whole)) in
        let at : is_in_range i (neg_ℤ (pos (suc n * unit))) ≡ true = grind (arith, ints) in
        ap (λ steps. is_in_range i (steps *ℤ pos unit)) (signed_number-high width bits high fit) ∙ ap (is_in_range i) (negsuc-*ℤ-pos n unit) ∙ at
  ]

  pub bits_for-twos : (bits : ℕ) → bits < 2 ^ width → bits_for i (signed_number width bits *ℤ pos unit) ≡ bits
  bits_for-twos bits fit = elim (cases_lt bits half) [
    | inl low ↦ ap (λ steps. bits_for i (steps *ℤ pos unit)) (signed_number-low width bits low) ∙ bits-forwards bits
    | inr high ↦ ap (λ steps. bits_for i (steps *ℤ pos unit)) (signed_number-high width bits high fit) ∙ bits-backwards (2 ^ width - suc bits) ∙ omega (arith, whole)
  ]

-- a number of units is no more than 2 ^ 43 bytes
pub bytes_bound : (n i_scale : ℕ) → n ≤ 2 ^ 31 → i_scale ≤ 12 → n * 2 ^ i_scale ≤ 2 ^ 43
bytes_bound n scale few small = mul-le n (2 ^ scale) (2 ^ 31) (2 ^ 12) few (pow-le-pow_right {n = 2} (lit< tt) small)

pub offset_bounds : (steps : ℤ) (scale : ℕ) → neg_ℤ (pos (2 ^ 31)) ≤ℤ steps → steps ≤ℤ pos (2 ^ 31) → scale ≤ 12 → (neg_ℤ (pos (2 ^ 43)) ≤ℤ (steps *ℤ pos (2 ^ scale))) × ((steps *ℤ pos (2 ^ scale)) ≤ℤ pos (2 ^ 43))
offset_bounds (pos n) scale low high small =
    let most = bytes_bound n scale (omega (arith, ints)) small in
    (omega (arith, ints), omega (arith, ints))
offset_bounds (negsuc n) scale low high small =
    let most = bytes_bound (suc n) scale (omega (arith, ints)) small in
    (omega (arith, ints), omega (arith, ints))

-- an offset in range is so many units, of which the bits can stand for half forwards and half backwards
pub steps_near : (i : Immediate) → IsImmediate i → (offset : ℤ) → is_in_range i offset ≡ true → (neg_ℤ (pos (2 ^ (offset_width i - 1))) ≤ℤ steps_in i offset) × (steps_in i offset <ℤ pos (2 ^ (offset_width i - 1)))
steps_near i is (pos n) in_range =
    let half : ℕ = 2 ^ (offset_width i - 1) in
    let unit : ℕ = 2 ^ i.scale in
    let le : n ≤ (half - 1) * unit = grind (arith, ints) in
    let some = pow_pos (offset_width i - 1) in
    let most : n / unit ≤ half - 1 = factor_le (n / unit) (half - 1) unit (pow_pos i.scale) (omega (arith, shr_split n i.scale)) in
    (omega (arith, ints), omega (arith, ints))
steps_near i is (negsuc n) in_range =
    let half : ℕ = 2 ^ (offset_width i - 1) in
    let unit : ℕ = 2 ^ i.scale in
    let le : suc n ≤ half * unit = grind (arith, ints) in
    let most : n / unit < half = div_below n unit half (pow_pos i.scale) (omega arith) in
    (omega (arith, ints), omega (arith, ints))

-- the ends of the range in units
pub range_in_units : (i : Immediate) (offset : ℤ) → (int_le (neg_ℤ (pos (2 ^ (offset_width i - 1))) *ℤ pos (2 ^ i.scale)) offset && int_le offset (pos (2 ^ (offset_width i - 1) - 1) *ℤ pos (2 ^ i.scale))) ≡ is_in_range i offset
range_in_units i offset = ap (λ low. int_le low offset && int_le offset (pos (2 ^ (offset_width i - 1) - 1) *ℤ pos (2 ^ i.scale))) (neg-*ℤ-pos (2 ^ (offset_width i - 1)) (2 ^ i.scale))
  where
    neg-*ℤ-pos : (n unit : ℕ) → neg_ℤ (pos n) *ℤ pos unit ≡ neg_ℤ (pos (n * unit))
    neg-*ℤ-pos zero unit = rw zero-mul refl
    neg-*ℤ-pos (suc n) unit = refl
