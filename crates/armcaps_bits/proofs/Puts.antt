-- A field put into a word: what masks and shifts make is a sum of three parts, and each range apart sees one of them.
use Rattle.std.proofs.Common.{◌≡◌, ℕ, ◌+◌, ◌-◌, ◌*◌, ◌/◌, ◌%◌, ◌^◌, ◌<◌, ◌≤◌, inl, inr, bit_and, bit_or, sym, ap, subst, ◌∙◌, lit<, zero-add, arith}
use Rattle.std.proofs.Math.Nat.{mul-sub, mul_comm, pow-le-pow_right, div-eq_of_lt, mod-eq_of_lt, add_comm, zero-mul, div-one}
use Rattle.std.proofs.Math.Pow.{mod-mod-pow, shr_mod}
use Rattle.std.proofs.lemmas.Nat.{pow_pos, pow-add, shr-shr, shr_split, mod-pow-add, field_of, and_comm, and-not, or_block, or_lt, and_le_l, shl_whole, shl_below, shr_high, mod_low, mod_below, mul-add-lt}
use Rattle.std.proofs.lemmas.Nat.Bits.{and_high}
use lib.Bits.{or_zero_r, or_shifted_r}
use Rattle.armcaps_bits.specs.Field.{IsRange, IsPut, unsigned_field}

-- the word in three parts: the bits above the range, the field, and the bits below it
abbrev pub spliced : ℕ → ℕ → ℕ → ℕ → ℕ
spliced shift width number word = word / 2 ^ (width + shift) * 2 ^ (width + shift) + (number * 2 ^ shift + word % 2 ^ shift)

-- a word is its own three parts
pub spliced-self : (shift width word : ℕ) → spliced shift width (unsigned_field shift width word) word ≡ word
spliced-self shift width word = omega (arith, shr_split word (width + shift), mod-pow-add word width shift)

-- the range's mask, as a difference of powers
pub mask_is : (shift width : ℕ) → (2 ^ width - 1) * 2 ^ shift ≡ 2 ^ (width + shift) - 2 ^ shift
mask_is shift width =
    rw (mul_comm (2 ^ width - 1) (2 ^ shift), mul-sub, pow-add 2 width shift, mul_comm (2 ^ width) (2 ^ shift)) (omega arith)

-- the word with the field cleared
pub cleared : (shift width word : ℕ) → shift + width ≤ 64 → word < 2 ^ 64 → bit_and word (2 ^ 64 - 1 - (2 ^ width - 1) * 2 ^ shift) ≡ word / 2 ^ (width + shift) * 2 ^ (width + shift) + word % 2 ^ shift
cleared shift width word within small =
    let mask_fits : (2 ^ width - 1) * 2 ^ shift < 2 ^ 64 = omega (arith, mask_is shift width, pow_pos shift, pow-le-pow_right {n = 2} (lit< tt) whole_range) in
    let field_bits : bit_and ((2 ^ width - 1) * 2 ^ shift) word ≡ unsigned_field shift width word * 2 ^ shift = rw (and_comm, mask_is) (and_high word width shift) in
    rw and_comm (omega (arith, field_bits, and-not 64 ((2 ^ width - 1) * 2 ^ shift) word mask_fits small, spliced-self shift width word))
  where
    whole_range : width + shift ≤ 64
    whole_range = omega arith

-- the field's bits and the bits below it stay below the range's end
pub low_part : (shift width number word : ℕ) → number < 2 ^ width → number * 2 ^ shift + word % 2 ^ shift < 2 ^ (width + shift)
low_part shift width number word fits =
    rw (pow-add, mul_comm (2 ^ width) (2 ^ shift)) (mul-add-lt number (2 ^ shift) (word % 2 ^ shift) (2 ^ width) fits (mod_below word (2 ^ shift) (pow_pos shift)))

-- what the code computes
pub put_is : (shift width number word : ℕ) → shift + width ≤ 64 → number < 2 ^ width → word < 2 ^ 64 → bit_or (bit_and word (2 ^ 64 - 1 - (2 ^ width - 1) * 2 ^ shift)) (number * 2 ^ shift % 2 ^ 64) ≡ spliced shift width number word
put_is shift width number word within fits small =
    let high : ℕ = word / 2 ^ (width + shift) in
    let low : ℕ = word % 2 ^ shift in
    let shifted : number * 2 ^ shift % 2 ^ 64 ≡ number * 2 ^ shift = shl_whole number width shift 64 fits (omega arith) in
    let low_fits : low < 2 ^ (width + shift) = omega (arith, low_part shift width number word fits) in
    let joined : bit_or (high * 2 ^ (width + shift) + low) (0 * 2 ^ (width + shift) + number * 2 ^ shift) ≡ bit_or high 0 * 2 ^ (width + shift) + bit_or low (number * 2 ^ shift) =
    or_block (width + shift) high 0 low (number * 2 ^ shift) low_fits (shl_below number width shift fits) in
    let parts : bit_or low (number * 2 ^ shift) ≡ number * 2 ^ shift + low = or_shifted_r number shift low (mod_below word (2 ^ shift) (pow_pos shift)) in
    rw (cleared shift width word within small, shifted) (rw (zero-mul, zero-add, or_zero_r high, parts) at joined)

-- a field from a bound on depends on what is above that bound alone
field_from : (bound rest width one other : ℕ) → one / 2 ^ bound ≡ other / 2 ^ bound → unsigned_field (bound + rest) width one ≡ unsigned_field (bound + rest) width other
field_from bound rest width one other same =
    ap (λ n. n % 2 ^ width) (sym (shr-shr one bound rest) ∙ ap (λ n. n / 2 ^ rest) same ∙ shr-shr other bound rest)

pub field_above : (bound shift width one other : ℕ) → bound ≤ shift → one / 2 ^ bound ≡ other / 2 ^ bound → unsigned_field shift width one ≡ unsigned_field shift width other
field_above bound shift width one other past same =
    let whole : bound + (shift - bound) ≡ shift = omega arith in
    let Same : ℕ → Type 0 = λ place. unsigned_field place width one ≡ unsigned_field place width other in
    subst Same whole (field_from bound (shift - bound) width one other same)

-- a field below a bound depends on what is below that bound alone
field_to : (rest shift width one other : ℕ) → one % 2 ^ (rest + (width + shift)) ≡ other % 2 ^ (rest + (width + shift)) → unsigned_field shift width one ≡ unsigned_field shift width other
field_to rest shift width one other same =
    let equal : one % 2 ^ (width + shift) ≡ other % 2 ^ (width + shift) = sym (mod-mod-pow one rest (width + shift)) ∙ ap (λ n. n % 2 ^ (width + shift)) same ∙ mod-mod-pow other rest (width + shift) in
    sym (field_of one width shift) ∙ ap (λ n. n / 2 ^ shift) equal ∙ field_of other width shift

pub field_below : (bound shift width one other : ℕ) → shift + width ≤ bound → one % 2 ^ bound ≡ other % 2 ^ bound → unsigned_field shift width one ≡ unsigned_field shift width other
field_below bound shift width one other within same =
    let whole : bound ≡ bound - (width + shift) + (width + shift) = omega arith in
    let Same : ℕ → Type 0 = λ top. one % 2 ^ top ≡ other % 2 ^ top in
    field_to (bound - (width + shift)) shift width one other (subst Same whole same)

-- the three parts, with the range's end as the place where two of them meet
spliced-at : (shift width number word : ℕ) → spliced shift width number word ≡ (word / 2 ^ (width + shift) * 2 ^ width + number) * 2 ^ shift + word % 2 ^ shift
spliced-at shift width number word = rw pow-add (omega arith)

-- the three parts, seen through the field and through the ranges apart
pub spliced_is_put : (shift width number word : ℕ) → number < 2 ^ width → spliced shift width number word < 2 ^ 64 → IsPut shift width number word (spliced shift width number word)
spliced_is_put shift width number word fits small =
    let new : ℕ = spliced shift width number word in
    let low_fits : word % 2 ^ shift < 2 ^ shift = mod_below word (2 ^ shift) (pow_pos shift) in
    let high : ℕ = word / 2 ^ (width + shift) * 2 ^ width + number in
    let above : new / 2 ^ (width + shift) ≡ word / 2 ^ (width + shift) = shr_high (word / 2 ^ (width + shift)) (width + shift) _ (low_part shift width number word fits) in
    let below : new % 2 ^ shift ≡ word % 2 ^ shift = ap (λ n. n % 2 ^ shift) (spliced-at shift width number word) ∙ mod_low high shift _ low_fits in
    let field : new / 2 ^ shift ≡ high = ap (λ n. n / 2 ^ shift) (spliced-at shift width number word) ∙ shr_high high shift _ low_fits in
    record {
      got = ap (λ n. n % 2 ^ width) field ∙ mod_low (word / 2 ^ (width + shift)) width number fits;
      others = λ other_shift other_width apart within. elim apart [
        | inl under ↦ field_below shift other_shift other_width new word under below
        | inr over ↦ field_above (width + shift) other_shift other_width new word (omega arith) above
      ];
      within = small;
    }

-- what the code computes, by the word's mask
abbrev pub put_code : ℕ → ℕ → ℕ → ℕ → ℕ
put_code shift mask number word = bit_or (bit_and word (2 ^ 64 - 1 - mask)) (number * 2 ^ shift % 2 ^ 64)

put_code-lt : (shift mask number word : ℕ) → word < 2 ^ 64 → put_code shift mask number word < 2 ^ 64
put_code-lt shift mask number word small =
    or_lt 64 (bit_and word (2 ^ 64 - 1 - mask)) (number * 2 ^ shift % 2 ^ 64) (omega (arith, and_le_l word (2 ^ 64 - 1 - mask))) (mod_below (number * 2 ^ shift) (2 ^ 64) (lit< tt))

pub put_code_is_put : (shift width mask number word : ℕ) → IsRange shift width → number < 2 ^ width → word < 2 ^ 64 → mask ≡ (2 ^ width - 1) * 2 ^ shift → IsPut shift width number word (put_code shift mask number word)
put_code_is_put shift width mask number word range fits small is =
    let sum : spliced shift width number word ≡ put_code shift mask number word = rw is (sym (put_is shift width number word range.2 fits small)) in
    subst (IsPut shift width number word) sum (spliced_is_put shift width number word fits (rw sum (put_code-lt shift mask number word small)))

-- bits above all that a word has are added to it
pub spliced_low : (shift width number word : ℕ) → word < 2 ^ shift
    → spliced shift width number word ≡ word + number * 2 ^ shift
spliced_low shift width number word low =
    let longer : shift ≤ width + shift = omega arith in
    let long : word < 2 ^ (width + shift) = omega (arith, pow-le-pow_right {n = 2} (lit< tt) longer) in
    rw (div-eq_of_lt long, mod-eq_of_lt low, zero-mul) (omega arith)

-- so they are put there, and the sum ends where they do
pub put_above : (shift width number word : ℕ) → shift + width ≤ 64 → number < 2 ^ width → word < 2 ^ shift
    → IsPut shift width number word (word + number * 2 ^ shift) × (word + number * 2 ^ shift < 2 ^ (shift + width))
put_above shift width number word within fits low =
    let is : spliced shift width number word ≡ word + number * 2 ^ shift = spliced_low shift width number word low in
    let short : word % 2 ^ shift ≡ word = mod-eq_of_lt low in
    let below : word + number * 2 ^ shift < 2 ^ (shift + width) =
    rw (add_comm shift width) (omega (arith, short, low_part shift width number word fits)) in
    let small : word + number * 2 ^ shift < 2 ^ 64 = omega (arith, below, pow-le-pow_right {n = 2} (lit< tt) within) in
    (subst (IsPut shift width number word) is (spliced_is_put shift width number word fits (rw is small)), below)

-- where the word has no bit from the range on, the code's answer is that sum
pub put_code-sum : (shift width mask number word : ℕ) → IsRange shift width → number < 2 ^ width → word < 2 ^ 64
    → mask ≡ (2 ^ width - 1) * 2 ^ shift → word < 2 ^ shift → put_code shift mask number word ≡ word + number * 2 ^ shift
put_code-sum shift width mask number word range fits small is short =
    rw (is, put_is shift width number word range.2 fits small) (spliced_low shift width number word short)

pub put_code_below : (shift width mask number word : ℕ) → IsRange shift width → number < 2 ^ width → word < 2 ^ 64
    → mask ≡ (2 ^ width - 1) * 2 ^ shift → word < 2 ^ shift → put_code shift mask number word < 2 ^ (shift + width)
put_code_below shift width mask number word range fits small is short =
    rw (put_code-sum shift width mask number word range fits small is short)
    (put_above shift width number word range.2 fits short).1

-- a range that begins at bit 0 is a remainder
low_field : (width word : ℕ) → unsigned_field 0 width word ≡ word % 2 ^ width
low_field width word = ap (λ n. n % 2 ^ width) (div-one word)

-- a word's bits above a range are all that is left of it there
high_field : (end rest word : ℕ) → end + rest ≡ 64 → word < 2 ^ 64 → unsigned_field end rest word ≡ word / 2 ^ end
high_field end rest word whole small =
    let turned : 64 ≡ rest + end = omega arith in
    let Below : ℕ → Type 0 = λ top. word < 2 ^ top in
    shr_mod rest end (subst Below turned small)

-- two words with equal parts are one
pub same_parts : (shift width one other : ℕ) → one / 2 ^ (width + shift) ≡ other / 2 ^ (width + shift) → unsigned_field shift width one ≡ unsigned_field shift width other → one % 2 ^ shift ≡ other % 2 ^ shift → one ≡ other
same_parts shift width one other high field low =
    sym (spliced-self shift width one) ∙ rw (high, field, low) (spliced-self shift width other)

-- a put has one answer
pub one_put : (shift width number old one other : ℕ) → IsRange shift width → IsPut shift width number old one → IsPut shift width number old other → one ≡ other
one_put shift width number old one other range first second =
    let high : (word : ℕ) → IsPut shift width number old word → word / 2 ^ (width + shift) ≡ unsigned_field (width + shift) (64 - (width + shift)) old =
    λ word put. sym (high_field (width + shift) (64 - (width + shift)) word (omega arith) put.within) ∙ put.others (width + shift) (64 - (width + shift)) (inr (omega arith)) (omega arith) in
    let low : (word : ℕ) → IsPut shift width number old word → word % 2 ^ shift ≡ unsigned_field 0 shift old =
    λ word put. sym (low_field shift word) ∙ put.others 0 shift (inl (omega arith)) (omega arith) in
    same_parts shift width one other (high one first ∙ sym (high other second)) (first.got ∙ sym second.got) (low one first ∙ sym (low other second))
