-- The word that is made of the merged values of two words.
use Rattle.std.proofs.Common.{◌≤◌, ℕ, ◌/◌, ◌^◌, pow_pos, IsTrue}
use Rattle.std.proofs.lemmas.Nat.{mod_below}
use Rattle.armcaps_bits.specs.Field.{unsigned_field}
use Rattle.armcaps_bits.proofs.Signs.{number_fits}
use Rattle.armcaps_rule.specs.Rule.{merged}
use Rattle.armcaps_enc.specs.declared.register.SysReg.{SysReg}
use Rattle.armcaps_tables.specs.Fields.{field_in, value_fits, IsMadeOf, ValuesFit}
use Rattle.armcaps_tables.specs.Merging.{merged_word}
use Rattle.armcaps_tables.specs.Row.{Row}
use Rattle.armcaps_tables.specs.Rows.{rows_of}
use Rattle.armcaps_tables.proofs.FieldWords.{made_of}
use Rattle.armcaps_tables.proofs.MergedFields.{merged_passes}
use Rattle.armcaps_tables.proofs.Places.{row_in_word, row_safe}

-- a field's value in any word is one that the field can have
pub field_in_fits : (row : Row) (word : ℕ) → 1 ≤ row.width → IsTrue (value_fits row (field_in row word))
field_in_fits row word some =
    number_fits row.signed row.width (unsigned_field row.shift row.width word) some
    (mod_below (word / 2 ^ row.shift) (2 ^ row.width) (pow_pos row.width))

-- the values of two words, merged, are values that the fields can have
pub merged_fits : (reg : SysReg) (current other : ℕ)
    → ValuesFit (λ index row. merged row.rule row.safe (field_in row current) (field_in row other)) (rows_of reg)
merged_fits reg current other index row at =
    let some = (row_in_word reg index row at).0 in
    merged_passes (value_fits row) row.rule row.safe (field_in row current) (field_in row other)
    (row_safe reg index row at) (field_in_fits row current some) (field_in_fits row other some)

-- a merged word is made of the merged values
pub merged_word_made : (reg : SysReg) (current other : ℕ)
    → IsMadeOf (λ index row. merged row.rule row.safe (field_in row current) (field_in row other)) (rows_of reg)
    (merged_word reg current other)
unfolding merged_word
merged_word_made reg current other =
    made_of reg (λ index row. merged row.rule row.safe (field_in row current) (field_in row other))
    (merged_fits reg current other)
