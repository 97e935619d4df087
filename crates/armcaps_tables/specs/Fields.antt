-- The fields of a register's word, and the word that is made of values of its fields.
use Rattle.std.specs.Prelude.{ℕ, ℤ, ◌*◌, ◌+◌, ◌^◌, ◌<◌, ◌≤◌, ◌≡◌, Bool, IsTrue, List, Some, sum_by, slice_get}
use Rattle.std.specs.List.{enumerate_from}
use Rattle.armcaps_bits.specs.Field.{field_value, field_bits, field_fits, unsigned_field, Apart}
use Rattle.armcaps_tables.specs.Row.{Row}

-- a field's value in a word
abbrev pub field_in : Row → ℕ → ℤ
field_in row word = field_value row.signed row.shift row.width word

-- whether a field can have the value
abbrev pub value_fits : Row → ℤ → Bool
value_fits row value = field_fits row.signed row.width value

-- each field can have its value
abbrev pub ValuesFit : (ℕ → Row → ℤ) → List Row → Type 0
ValuesFit value rows =
    (index : ℕ) (row : Row) → slice_get rows index ≡ Some row → IsTrue (value_fits row (value index row))

-- a range of bits has none in common with any field
abbrev pub IsOutside : List Row → ℕ → ℕ → Type 0
IsOutside rows shift width =
    (index : ℕ) (row : Row) → slice_get rows index ≡ Some row → Apart row.shift row.width shift width

-- a word has 0 in all bits that are in no field
abbrev pub HasFieldsAlone : List Row → ℕ → Type 0
HasFieldsAlone rows word =
    (shift width : ℕ) → shift + width ≤ 64 → IsOutside rows shift width → unsigned_field shift width word ≡ 0

-- a word is made of these values of the fields, by the row's index and the row: it has each one in its field, and 0 in
-- all other bits
pub record IsMadeOf (value : ℕ → Row → ℤ) (rows : List Row) (word : ℕ) : Type 0 where
  pub fields : (index : ℕ) (row : Row) → slice_get rows index ≡ Some row → field_in row word ≡ value index row
  pub others : HasFieldsAlone rows word
  pub within : word < 2 ^ 64

-- the bits of a field's value, at the field's place
abbrev pub bits_in_place : (ℕ → Row → ℤ) → ℕ × Row → ℕ
bits_in_place value item = field_bits item.1.width (value item.0 item.1) * 2 ^ item.1.shift

-- the word that is made of these values; it is computed as the sum of each one's bits
abbrev pub word_of : (ℕ → Row → ℤ) → List Row → ℕ
word_of value rows = sum_by (bits_in_place value) (enumerate_from 0 rows)
