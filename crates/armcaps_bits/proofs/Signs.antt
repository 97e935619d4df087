-- Numbers in two's complement: reading the bits, writing them, and what fits.
use Rattle.std.proofs.Common.{◌≡◌, ℕ, ◌+◌, ◌-◌, ◌*◌, ◌/◌, ◌%◌, ◌^◌, ◌<◌, ◌≤◌, ◌⊎◌, suc, ℤ, pos, negsuc, Bool, true, false, IsTrue, bit_and, w64, to_z, of_z, SFits, refl, sym, ap, subst, ◌∙◌, inl, inr, arith}
use Rattle.std.proofs.Math.Nat.{mul_comm, add-zero, mod-eq_of_lt}
use Rattle.std.proofs.lemmas.Bool.{lt-leb, le-leb, lt-ltb, ltb-true, cases_lt, false≢true}
use Rattle.std.proofs.lemmas.Int.{ints, to_z_pos, to_z-of_z}
use Rattle.std.proofs.Math.Facts.{to_z-neg}
use Rattle.std.proofs.lemmas.Nat.{pow_pos, pow-add, shl-shr, mod-pow-add, shr_high, shl_below, mul-add-lt, mod_low, mod_below, and_mask}
use Rattle.std.specs.Int.Signed.{shr_z, mag_shr}
use Rattle.armcaps_bits.specs.Field.{IsRange, unsigned_field, signed_number, number_of, signed_field, field_fits, field_bits}

-- twice the least number with the top bit set
pub pow-top : (width : ℕ) → 1 ≤ width → 2 ^ width ≡ 2 * 2 ^ (width - 1)
pow-top width some =
    let whole : 1 + (width - 1) ≡ width = omega arith in
    let Is : ℕ → Type 0 = λ n. 2 ^ n ≡ 2 * 2 ^ (width - 1) in
    subst Is whole (pow-add 2 1 (width - 1))

pub signed_number-low : (width number : ℕ) → number < 2 ^ (width - 1) → signed_number width number ≡ pos number
signed_number-low width number low = rw (lt-leb (2 ^ (width - 1)) number low)

pub signed_number-high : (width number : ℕ) → 2 ^ (width - 1) ≤ number → number < 2 ^ width → signed_number width number ≡ negsuc (2 ^ width - suc number)
signed_number-high width number high fits = rw (le-leb (2 ^ (width - 1)) number high) (omega (arith, ints))

-- the word shifted to the left until its field ends at bit 64: the field's bits with those below it
field_at_top : (shift width rest word : ℕ) → word * 2 ^ rest % 2 ^ (width + shift + rest) ≡ unsigned_field shift width word * 2 ^ (shift + rest) + word % 2 ^ shift * 2 ^ rest
field_at_top shift width rest word =
    let gone : word * 2 ^ rest % 2 ^ rest ≡ 0 = rw add-zero at (mod_low word rest 0 (pow_pos rest)) in
    rw (mod-pow-add (word * 2 ^ rest) (width + shift) rest, shl-shr, gone, mod-pow-add word width shift, pow-add 2 shift rest) (omega arith)

pub shifted_field : (shift width rest word : ℕ) → width + shift + rest ≡ 64 → word * 2 ^ rest % 2 ^ 64 ≡ unsigned_field shift width word * 2 ^ (shift + rest) + word % 2 ^ shift * 2 ^ rest
shifted_field shift width rest word whole =
    let At : ℕ → Type 0 = λ top. word * 2 ^ rest % 2 ^ top ≡ unsigned_field shift width word * 2 ^ (shift + rest) + word % 2 ^ shift * 2 ^ rest in
    subst At whole (field_at_top shift width rest word)

-- the top bit is 0: the number stays below half of the range
low_half : (width places field low : ℕ) → 1 ≤ width → width + places ≡ 64 → field < 2 ^ (width - 1) → low < 2 ^ places → field * 2 ^ places + low < 2 ^ 63
low_half width places field low some whole fits below =
    let half : 2 ^ (width - 1) * 2 ^ places ≡ 2 ^ 63 = sym (pow-add 2 (width - 1) places) ∙ ap (λ n. 2 ^ n) size in
    omega (arith, half, mul_comm (2 ^ (width - 1)) (2 ^ places), mul-add-lt field (2 ^ places) low (2 ^ (width - 1)) fits below)
  where
    size : width - 1 + places ≡ 63
    size = omega arith

-- the bits turned over: what is left of the word above them, plus one
turned_sum : (left field place low : ℕ) (top : ℕ) → low < place → (left + (field + 1)) * place ≡ top → field * place + low + suc (left * place + (place - suc low)) ≡ top
turned_sum left field place low top below whole = omega (arith, whole)

-- bits with the top one set, read as a signed number of 64 bits
to_z-high : (bits left : ℕ) → bits + suc left ≡ 2 ^ 64 → left < 2 ^ 63 → to_z w64 bits ≡ negsuc left
to_z-high bits left whole small =
    let turned : 2 ^ 64 - suc left ≡ bits = omega arith in
    let Reads : ℕ → Type 0 = λ n. to_z w64 n ≡ negsuc left in
    subst Reads turned (to_z-neg w64 left small)

-- a shift to the right that copies the top bit reads the bits above it in two's complement
pub shr_signed : (width places field low : ℕ) → 1 ≤ width → width + places ≡ 64 → field < 2 ^ width → low < 2 ^ places → shr_z (to_z w64 (field * 2 ^ places + low)) (2 ^ places) ≡ signed_number width field
shr_signed width places field low some whole fits below =
    elim (cases_lt field (2 ^ (width - 1))) [
      | inl under ↦ rw (to_z_pos w64 (field * 2 ^ places + low) (low_half width places field low some whole under below), shr_high field places low below) (sym (signed_number-low width field under))
      | inr over ↦
          let left : ℕ = 2 ^ width - suc field in
          let rest : ℕ = 2 ^ places - suc low in
          let rest_fits : rest < 2 ^ places = omega (arith, pow_pos places) in
          let left_fits : left < 2 ^ (width - 1) = omega (arith, pow-top width some) in
          let top : (left + (field + 1)) * 2 ^ places ≡ 2 ^ 64 = ap (λ n. n * 2 ^ places) all_of ∙ sym (pow-add 2 width places) ∙ ap (λ n. 2 ^ n) whole in
          let turned : to_z w64 (field * 2 ^ places + low) ≡ negsuc (left * 2 ^ places + rest) =
          to_z-high (field * 2 ^ places + low) (left * 2 ^ places + rest) (turned_sum left field (2 ^ places) low (2 ^ 64) below top) (low_half width places left rest some whole left_fits rest_fits) in
          rw (turned, shr_high left places rest rest_fits) (sym (signed_number-high width field over fits))
    ]
  where
    all_of : 2 ^ width - suc field + (field + 1) ≡ 2 ^ width
    all_of = omega arith

-- what the code computes: the field shifted to the top of the word, and back with its sign
pub signed_code : (shift width word : ℕ) (cast : ℤ) → IsRange shift width → SFits w64 cast → cast ≡ to_z w64 (word * 2 ^ (64 - shift - width) % 2 ^ 64) → to_z w64 (of_z w64 (shr_z (to_z w64 (of_z w64 cast)) (2 ^ (64 - width)))) ≡ signed_field shift width word
signed_code shift width word cast range fits is =
    let rest : ℕ = 64 - shift - width in
    let whole : width + shift + rest ≡ 64 = omega arith in
    let places : shift + rest ≡ 64 - width = omega arith in
    let small : SFits w64 (shr_z cast (2 ^ (64 - width))) = record { sfits = omega (arith, mag_shr cast (2 ^ (64 - width)), fits.sfits) } in
    let low : word % 2 ^ shift * 2 ^ rest < 2 ^ (64 - width) = rw (← places) (shl_below (word % 2 ^ shift) shift rest (mod_below word (2 ^ shift) (pow_pos shift))) in
    rw (to_z-of_z w64 cast fits, to_z-of_z w64 (shr_z cast (2 ^ (64 - width))) small, is, shifted_field shift width rest word whole, places)
    (shr_signed width (64 - width) (unsigned_field shift width word) (word % 2 ^ shift * 2 ^ rest) range.0 (omega arith) (mod_below (word / 2 ^ shift) (2 ^ width) (pow_pos width)) low)

-- what a field's bits stand for fits the field
pub number_fits : (signed : Bool) (width number : ℕ) → 1 ≤ width → number < 2 ^ width → IsTrue (field_fits signed width (number_of signed width number))
number_fits false width number some fits = lt-ltb number (2 ^ width) fits
number_fits true width number some fits =
    let Fits : ℤ → Type 0 = λ value. IsTrue (field_fits true width value) in
    elim (cases_lt number (2 ^ (width - 1))) [
      | inl under ↦ subst Fits (sym (signed_number-low width number under)) (lt-ltb number (2 ^ (width - 1)) under)
      | inr over ↦
          let left : 2 ^ width - suc number < 2 ^ (width - 1) = omega (arith, pow-top width some) in
          subst Fits (sym (signed_number-high width number over fits)) (lt-ltb (2 ^ width - suc number) (2 ^ (width - 1)) left)
    ]

-- the bits of a value that fits stand for it, and are the low bits of it in two's complement
pub number_of-field_bits : (signed : Bool) (width : ℕ) (value : ℤ) → 1 ≤ width → IsTrue (field_fits signed width value) → number_of signed width (field_bits width value) ≡ value
number_of-field_bits false width (pos n) some fits = refl
number_of-field_bits false width (negsuc n) some fits = absurd (false≢true fits)
number_of-field_bits true width (pos n) some fits = signed_number-low width n (ltb-true n (2 ^ (width - 1)) fits)
number_of-field_bits true width (negsuc n) some fits =
    let small : n < 2 ^ (width - 1) = ltb-true n (2 ^ (width - 1)) fits in
    let back : 2 ^ width - suc (2 ^ width - suc n) ≡ n = omega (arith, pow-top width some) in
    signed_number-high width (2 ^ width - suc n) (omega (arith, pow-top width some)) (omega (arith, pow_pos width)) ∙ ap negsuc back

pub low_bits-field_bits : (signed : Bool) (width : ℕ) (value : ℤ) → 1 ≤ width → width ≤ 64 → IsTrue (field_fits signed width value) → bit_and (of_z w64 value) (2 ^ width - 1) ≡ field_bits width value
low_bits-field_bits false width (pos n) some within fits = rw and_mask (mod-eq_of_lt (ltb-true n (2 ^ width) fits))
low_bits-field_bits false width (negsuc n) some within fits = absurd (false≢true fits)
low_bits-field_bits true width (pos n) some within fits =
    let small : n < 2 ^ (width - 1) = ltb-true n (2 ^ (width - 1)) fits in
    let under : n < 2 ^ width = omega (arith, pow-top width some) in
    rw and_mask (mod-eq_of_lt under)
low_bits-field_bits true width (negsuc n) some within fits =
    let small : n < 2 ^ (width - 1) = ltb-true n (2 ^ (width - 1)) fits in
    let low : 2 ^ width - suc n < 2 ^ width = omega (arith, pow_pos width) in
    let top : (2 ^ (64 - width) - 1 + 1) * 2 ^ width ≡ 2 ^ 64 = ap (λ k. k * 2 ^ width) one_more ∙ sym (pow-add 2 (64 - width) width) ∙ ap (λ k. 2 ^ k) whole in
    let parts : 2 ^ 64 - suc n ≡ (2 ^ (64 - width) - 1) * 2 ^ width + (2 ^ width - suc n) = omega (arith, top, pow-top width some) in
    rw (and_mask, parts) (mod_low (2 ^ (64 - width) - 1) width (2 ^ width - suc n) low)
  where
    one_more : 2 ^ (64 - width) - 1 + 1 ≡ 2 ^ (64 - width)
    one_more = omega (arith, pow_pos (64 - width))

    whole : 64 - width + width ≡ 64
    whole = omega arith

pub signed_code_fits : (shift width word : ℕ) (cast : ℤ) → IsRange shift width → SFits w64 cast → cast ≡ to_z w64 (word * 2 ^ (64 - shift - width) % 2 ^ 64) → IsTrue (field_fits true width (to_z w64 (of_z w64 (shr_z (to_z w64 (of_z w64 cast)) (2 ^ (64 - width))))))
signed_code_fits shift width word cast range fits is =
    rw (signed_code shift width word cast range fits is) (number_fits true width (unsigned_field shift width word) range.0 (mod_below (word / 2 ^ shift) (2 ^ width) (pow_pos width)))

-- the answers of `bits`
pub bits_are : (signed : Bool) (width : ℕ) (value : ℤ) (cast low : ℕ) → 1 ≤ width → width ≤ 64 → IsTrue (field_fits signed width value) → SFits w64 value → cast ≡ of_z w64 (to_z w64 (of_z w64 value)) → low ≡ 2 ^ width - 1 → bit_and cast low ≡ field_bits width value
bits_are signed width value cast low some within fits small is low_is =
    rw (is, low_is, to_z-of_z w64 value small) (low_bits-field_bits signed width value some within fits)

pub bits_read : (signed : Bool) (width : ℕ) (value : ℤ) (cast low : ℕ) → 1 ≤ width → width ≤ 64 → IsTrue (field_fits signed width value) → SFits w64 value → cast ≡ of_z w64 (to_z w64 (of_z w64 value)) → low ≡ 2 ^ width - 1 → number_of signed width (bit_and cast low) ≡ value
bits_read signed width value cast low some within fits small is low_is =
    rw (bits_are signed width value cast low some within fits small is low_is) (number_of-field_bits signed width value some fits)

-- the bits of a value that fits are no more than the field has
pub field_bits_below : (signed : Bool) (width : ℕ) (value : ℤ) → 1 ≤ width → IsTrue (field_fits signed width value)
    → field_bits width value < 2 ^ width
field_bits_below false width (pos n) some fits = ltb-true n (2 ^ width) fits
field_bits_below false width (negsuc n) some fits = absurd (false≢true fits)
field_bits_below true width (pos n) some fits =
    omega (arith, pow-top width some, ltb-true n (2 ^ (width - 1)) fits)
field_bits_below true width (negsuc n) some fits =
    omega (arith, pow-top width some, ltb-true n (2 ^ (width - 1)) fits, pow_pos width)

-- the bits of the value that a number stands for are that number
pub field_bits-number_of : (signed : Bool) (width number : ℕ) → 1 ≤ width → number < 2 ^ width
    → field_bits width (number_of signed width number) ≡ number
field_bits-number_of false width number some small = refl
field_bits-number_of true width number some small = on (cases_lt number (2 ^ (width - 1))) where
  on : (number < 2 ^ (width - 1)) ⊎ (2 ^ (width - 1) ≤ number) → field_bits width (signed_number width number) ≡ number
  on (inl low) = ap (field_bits width) (signed_number-low width number low)
  on (inr high) = ap (field_bits width) (signed_number-high width number high small) ∙ omega arith

-- one number stands for a field's value
pub one_number : (signed : Bool) (width one other : ℕ) → 1 ≤ width → one < 2 ^ width → other < 2 ^ width
    → number_of signed width one ≡ number_of signed width other → one ≡ other
one_number signed width one other some small small' same =
    sym (field_bits-number_of signed width one some small) ∙ ap (field_bits width) same
    ∙ field_bits-number_of signed width other some small'
