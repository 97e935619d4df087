-- The offset's bits in a word: taking them out, putting them in, and what stays beside them.
use Rattle.std.proofs.Common.{◌≡◌, ℕ, ◌+◌, ◌-◌, ◌*◌, ◌/◌, ◌%◌, ◌^◌, ◌<◌, bit_and, bit_or, min, sym, ap, subst, ◌∙◌, lit<, arith}
use Rattle.std.proofs.Math.Nat.{mul_assoc, mul_comm, mod-eq_of_lt, pow-le-pow_right}
use Rattle.std.proofs.Math.Pow.{mod-mod-pow}
use Rattle.std.proofs.lemmas.Nat.{and-not, and_comm, mul-add-lt, shl-shr, shr_below, and_block, and_le_l, and_mask, field_of, mod_below, mod_low, or_lt, pow-add, pow_pos, shl_below, shr_high, shr_split}
use Rattle.std.proofs.lemmas.Nat.Bits.{and_high, bit_at-lt, bit_at_and, bit_at_not, bit_at_or, same_from_bits_below}
use Rattle.std.specs.Int.{bit_at, w32}
use Rattle.armcaps_insn.specs.declared.immediates.Immediate.{Immediate}
use Rattle.armcaps_bits.specs.Field.{unsigned_field}
use Rattle.armcaps_insn.specs.Immediates.{IsImmediate, field_mask, offset_bits, offset_width, placed, rest_in}

-- a word that keeps the bits of one outside a mask, and has others in it
module _ (mask word bits : ℕ) (mask_fits : mask < 2 ^ 32) (word_fits : word < 2 ^ 32) (bits_fit : bits < 2 ^ 32) (within : bit_and bits mask ≡ bits) where
  abbrev outside : ℕ
  outside = bit_and word (2 ^ 32 - 1 - mask)

  abbrev joined : ℕ
  joined = bit_or outside bits

  outside_fits : outside < 2 ^ 32
  outside_fits = omega (arith, and_le_l word (2 ^ 32 - 1 - mask))

  pub joined_fits : joined < 2 ^ 32
  joined_fits = or_lt 32 outside bits outside_fits bits_fit

  -- one bit of the parts
  bits_at : (i : ℕ) → min (bit_at bits i) (bit_at mask i) ≡ bit_at bits i
  bits_at i = sym (bit_at_and bits mask i) ∙ ap (λ n. bit_at n i) within

  outside_at : (i : ℕ) → i < 32 → bit_at outside i ≡ min (bit_at word i) (1 - bit_at mask i)
  outside_at i small = bit_at_and word (2 ^ 32 - 1 - mask) i ∙ ap (min (bit_at word i)) (bit_at_not w32 mask i mask_fits small)

  pub joined_outside : bit_and joined (2 ^ 32 - 1 - mask) ≡ outside
  joined_outside = same_from_bits_below 32 (bit_and joined (2 ^ 32 - 1 - mask)) outside (omega (arith, and_le_l joined (2 ^ 32 - 1 - mask), joined_fits)) outside_fits (λ i small.
      let e = bit_at_and joined (2 ^ 32 - 1 - mask) i in
      let n = bit_at_not w32 mask i mask_fits small in
      let o = bit_at_or outside bits i in
      omega (arith, e, n, o, outside_at i small, bits_at i, bit_at-lt word i, bit_at-lt bits i, bit_at-lt mask i))

  pub joined_inside : bit_and joined mask ≡ bits
  joined_inside = same_from_bits_below 32 (bit_and joined mask) bits (omega (arith, and_le_l joined mask, joined_fits)) bits_fit (λ i small.
      let e = bit_at_and joined mask i in
      let o = bit_at_or outside bits i in
      omega (arith, e, o, outside_at i small, bits_at i, bit_at-lt word i, bit_at-lt bits i, bit_at-lt mask i))

-- a field of a word's low bits
field-low : (rest shift width n : ℕ) → unsigned_field shift width (n % 2 ^ (rest + (width + shift))) ≡ unsigned_field shift width n
field-low rest shift width n =
    sym (field_of (n % 2 ^ (rest + (width + shift))) width shift) ∙ ap (λ m. m / 2 ^ shift) (mod-mod-pow n rest (width + shift)) ∙ field_of n width shift

-- two numbers side by side, the second far above the first
apart_high : (shift width gap high low : ℕ) → high < 2 ^ width → unsigned_field shift width (high * 2 ^ shift + low * 2 ^ (gap + (width + shift))) ≡ high
apart_high shift width gap high low fit =
    let place : 2 ^ (gap + (width + shift)) ≡ 2 ^ gap * 2 ^ width * 2 ^ shift = pow-add 2 gap (width + shift) ∙ ap (λ n. 2 ^ gap * n) (pow-add 2 width shift) ∙ sym (mul_assoc (2 ^ gap) (2 ^ width) (2 ^ shift)) in
    let sum : high * 2 ^ shift + low * 2 ^ (gap + (width + shift)) ≡ (low * 2 ^ gap * 2 ^ width + high) * 2 ^ shift = rw place (omega arith) in
    rw (sum, shl-shr) (mod_low (low * 2 ^ gap) width high fit)

module _ (i : Immediate) (is : IsImmediate i) where
  -- how far the low bits stand above the others
  abbrev gap : ℕ
  gap = 29 - (i.width + i.shift)

  to_gap : gap + (i.width + i.shift) ≡ 29
  to_gap = let below = is.below in omega arith

  abbrev high : ℕ → ℕ
  high n = unsigned_field i.shift i.width n

  abbrev low : ℕ → ℕ
  low n = unsigned_field 29 i.low_width n

  high_fits : (n : ℕ) → high n < 2 ^ i.width
  high_fits n = mod_below (n / 2 ^ i.shift) (2 ^ i.width) (pow_pos i.width)

  low_fits : (n : ℕ) → low n < 2 ^ i.low_width
  low_fits n = mod_below (n / 2 ^ 29) (2 ^ i.low_width) (pow_pos i.low_width)

  below_29 : (n : ℕ) → n < 2 ^ i.width → n * 2 ^ i.shift < 2 ^ 29
  below_29 n fit =
      let under = is.below in
      omega (arith, shl_below n i.width i.shift fit, pow-le-pow_right {n = 2} (lit< tt) under)

  -- the offset's bits are below 2 ^ its width
  pub offset_bits_fit : (n : ℕ) → offset_bits i n < 2 ^ offset_width i
  offset_bits_fit n =
      rw (pow-add 2 i.width i.low_width, mul_comm (2 ^ i.width) (2 ^ i.low_width)) (mul-add-lt (high n) (2 ^ i.low_width) (low n) (2 ^ i.width) (high_fits n) (low_fits n))

  -- the bits of the mask are the offset's bits at their places
  pub masked : (n : ℕ) → bit_and n i.mask ≡ placed i (offset_bits i n)
  masked n =
      let under = is.below in
      let fm : ℕ = field_mask i.shift i.width in
      let fm_fits : fm < 2 ^ 29 = omega (arith, pow_pos i.shift, pow-le-pow_right {n = 2} (lit< tt) under) in
      let n_is : n ≡ n / 2 ^ 29 * 2 ^ 29 + n % 2 ^ 29 = sym (shr_split n 29) in
      let mask_is : i.mask ≡ (2 ^ i.low_width - 1) * 2 ^ 29 + fm = omega (arith, is.bits, pow-add 2 i.low_width 29, pow_pos i.low_width) in
      let parts = and_block 29 (n / 2 ^ 29) (2 ^ i.low_width - 1) (n % 2 ^ 29) fm (mod_below n (2 ^ 29) (lit< tt)) fm_fits in
      let whole : bit_and n i.mask ≡ bit_and (n / 2 ^ 29 * 2 ^ 29 + n % 2 ^ 29) ((2 ^ i.low_width - 1) * 2 ^ 29 + fm) = cc (n_is, mask_is) in
      let here : high (n % 2 ^ 29) ≡ high n = (let Is : ℕ → Type 0 = λ m. unsigned_field i.shift i.width (n % 2 ^ m) ≡ high n in subst Is to_gap (field-low gap i.shift i.width n)) in
      let upper = and_mask (n / 2 ^ 29) i.low_width in
      let lower = and_high (n % 2 ^ 29) i.width i.shift in
      rw (shr_high (high n) i.low_width (low n) (low_fits n), mod_low (high n) i.low_width (low n) (low_fits n)) (omega (arith, whole, parts, upper, lower, ap (λ m. m * 2 ^ i.shift) here))

  -- and these are read again
  pub offset_bits-placed : (bits : ℕ) → bits < 2 ^ offset_width i → offset_bits i (placed i bits) ≡ bits
  offset_bits-placed bits fit =
      let top : ℕ = bits / 2 ^ i.low_width in
      let rest : ℕ = bits % 2 ^ i.low_width in
      let top_fits : top < 2 ^ i.width = shr_below bits i.width i.low_width fit in
      let rest_fits : rest < 2 ^ i.low_width = mod_below bits (2 ^ i.low_width) (pow_pos i.low_width) in
      let first : high (placed i bits) ≡ top = (let Is : ℕ → Type 0 = λ m. unsigned_field i.shift i.width (top * 2 ^ i.shift + rest * 2 ^ m) ≡ top in subst Is to_gap (apart_high i.shift i.width gap top rest top_fits)) in
      let turned : placed i bits ≡ rest * 2 ^ 29 + top * 2 ^ i.shift = omega arith in
      let second : low (placed i bits) ≡ rest = ap (λ n. n / 2 ^ 29 % 2 ^ i.low_width) turned ∙ ap (λ n. n % 2 ^ i.low_width) (shr_high rest 29 (top * 2 ^ i.shift) (below_29 top top_fits)) ∙ mod-eq_of_lt rest_fits in
      ap (λ n. n * 2 ^ i.low_width + low (placed i bits)) first ∙ ap (λ n. top * 2 ^ i.low_width + n) second ∙ shr_split bits i.low_width

  pub placed_fits : (bits : ℕ) → bits < 2 ^ offset_width i → placed i bits < 2 ^ 32
  placed_fits bits fit =
      let top_fits = shr_below bits i.width i.low_width fit in
      let rest_fits = mod_below bits (2 ^ i.low_width) (pow_pos i.low_width) in
      let most = is.low in
      omega (arith, rest_fits, below_29 (bits / 2 ^ i.low_width) top_fits, pow-le-pow_right {n = 2} (lit< tt) most)

  pub mask_fits : i.mask < 2 ^ 32
  mask_fits =
      let under = is.below in
      let most = is.low in
      omega (arith, is.bits, pow-add 2 i.low_width 29, pow_pos i.low_width, pow_pos i.shift, pow-le-pow_right {n = 2} (lit< tt) under, pow-le-pow_right {n = 2} (lit< tt) most)

  -- the placed bits lie in the mask
  pub placed_within : (bits : ℕ) → bits < 2 ^ offset_width i → bit_and (placed i bits) i.mask ≡ placed i bits
  placed_within bits fit = masked (placed i bits) ∙ ap (placed i) (offset_bits-placed bits fit)

  -- a word that has these bits in the mask has them as its offset's
  pub offset_bits_from : (word bits : ℕ) → bits < 2 ^ offset_width i → bit_and word i.mask ≡ placed i bits → offset_bits i word ≡ bits
  offset_bits_from word bits fit inside =
      sym (offset_bits-placed (offset_bits i word) (offset_bits_fit word)) ∙ ap (offset_bits i) (sym (masked word) ∙ inside) ∙ offset_bits-placed bits fit

  -- rest and bits determine the word
  pub word_from_parts : (one other : ℕ) → one < 2 ^ 32 → other < 2 ^ 32 → rest_in i one ≡ rest_in i other → offset_bits i one ≡ offset_bits i other → one ≡ other
  word_from_parts one other one_fits other_fits rest bits =
      let inside : bit_and one i.mask ≡ bit_and other i.mask = masked one ∙ ap (placed i) bits ∙ sym (masked other) in
      let first = and-not 32 i.mask one mask_fits one_fits in
      let second = and-not 32 i.mask other mask_fits other_fits in
      omega (arith, first, second, inside, rest, and_comm i.mask one, and_comm i.mask other, and_comm (2 ^ 32 - 1 - i.mask) one, and_comm (2 ^ 32 - 1 - i.mask) other)
