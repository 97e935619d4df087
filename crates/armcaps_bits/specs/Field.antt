-- Fields of a word, over plain numbers. The rules are those of the Arm manual (DDI 0487, "Principles of the ID scheme
-- for fields in ID registers"), as Linux reads them (arch/arm64/include/asm/cpufeature.h).
use Rattle.std.specs.Prelude.{◌≡◌, ℕ, ◌+◌, ◌-◌, ◌/◌, ◌%◌, ◌^◌, ◌<◌, ◌≤◌, suc, ◌⊎◌, Bool, true, false, ℤ, pos, negsuc, ◌-ℤ◌, nat_lt, nat_le, if◌then◌else◌}

-- a range has 1 to 32 bits and ends within a word of 64 bits
abbrev pub IsRange : ℕ → ℕ → Type 0
IsRange shift width = (1 ≤ width) × (width ≤ 32) × (shift + width ≤ 64)

-- the bits of a word from `shift` on, `width` of them, as a number (Arm: an unsigned field)
abbrev pub unsigned_field : ℕ → ℕ → ℕ → ℕ
unsigned_field shift width word = word / 2 ^ shift % 2 ^ width

-- what `width` bits stand for in two's complement: 2 ^ width less where the top bit is set (Arm: a signed field)
abbrev pub signed_number : ℕ → ℕ → ℤ
signed_number width number = if nat_le (2 ^ (width - 1)) number then pos number -ℤ pos (2 ^ width) else pos number

-- what `width` bits stand for in a field that is signed or not
abbrev pub number_of : Bool → ℕ → ℕ → ℤ
number_of true width number = signed_number width number
number_of false width number = pos number

-- a word's signed field
abbrev pub signed_field : ℕ → ℕ → ℕ → ℤ
signed_field shift width word = signed_number width (unsigned_field shift width word)

-- a word's field, signed or not
abbrev pub field_value : Bool → ℕ → ℕ → ℕ → ℤ
field_value signed shift width word = number_of signed width (unsigned_field shift width word)

-- whether a field of `width` bits can have a value: 0 to below 2 ^ width, or where it is signed -2 ^ (width - 1) to
-- below 2 ^ (width - 1)
abbrev pub field_fits : Bool → ℕ → ℤ → Bool
field_fits true width (pos n) = nat_lt n (2 ^ (width - 1))
field_fits true width (negsuc n) = nat_lt n (2 ^ (width - 1))
field_fits false width (pos n) = nat_lt n (2 ^ width)
field_fits false width (negsuc n) = false

-- the bits that stand for a value which fits, as a number: 2 ^ width more where it is negative
abbrev pub field_bits : ℕ → ℤ → ℕ
field_bits width (pos n) = n
field_bits width (negsuc n) = 2 ^ width - suc n

-- two ranges with no bit in common
abbrev pub Apart : ℕ → ℕ → ℕ → ℕ → Type 0
Apart shift width other_shift other_width = (other_shift + other_width ≤ shift) ⊎ (shift + width ≤ other_shift)

-- every range apart from this one has the same bits in both words
abbrev pub AgreeApart : ℕ → ℕ → ℕ → ℕ → Type 0
AgreeApart shift width one other = (other_shift other_width : ℕ)
    → Apart shift width other_shift other_width → other_shift + other_width ≤ 64
    → unsigned_field other_shift other_width one ≡ unsigned_field other_shift other_width other

-- the new word is the old one with these bits in the range: they are got there, and every range apart from it is as
-- it was
pub record IsPut (shift width number old new : ℕ) : Type 0 where
  pub got : unsigned_field shift width new ≡ number
  pub others : AgreeApart shift width new old
  pub within : new < 2 ^ 64
