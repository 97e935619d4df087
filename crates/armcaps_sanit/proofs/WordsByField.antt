-- A register's word, put together field by field.
use Rattle.std.proofs.Common.{◌≡◌, ℕ, ◌+◌, ◌*◌, ◌^◌, ◌<◌, IsTrue, Option, Some, slice_get, w64, to_z, of_z, SFits, sym, ◌∙◌, ap, subst}
use Rattle.std.specs.Prelude.{ℤ}
use Rattle.std.specs.Option.{option_map}
use Rattle.std.proofs.lemmas.Int.{to_z-of_z}
use Rattle.armcaps_bits.specs.Field.{field_bits}
use Rattle.armcaps_enc.specs.declared.register.SysReg.{SysReg}
use Rattle.armcaps_tables.specs.Row.{Row}
use Rattle.armcaps_tables.specs.Rows.{rows_of}
use Rattle.armcaps_tables.specs.Fields.{value_fits, ValuesFit}
use Rattle.armcaps_tables.proofs.FieldWords.{SoFar, below_next, so_far_more}

-- what a function of the row gives at a place of the table
pub at_row : {X : Type 0} (listed : Option Row) (f : Row → X) (v : X) (row : Row) → option_map f listed ≡ Some v
    → listed ≡ Some row → v ≡ f row
at_row listed f v row is e = let there = (rw e at is) in cc

-- a value as the code holds it is one that its field can have
pub held_fits : (value : ℕ → Row → ℤ) (reg : SysReg) (index : ℕ) (row : Row) (v : ℤ) → ValuesFit value (rows_of reg)
    → slice_get (rows_of reg) index ≡ Some row → v ≡ value index row → SFits w64 v
    → IsTrue (value_fits row (to_z w64 (of_z w64 v)))
held_fits value reg index row v fit at is fits =
    rw (to_z-of_z w64 v fits, is) (fit index row at)

-- one more field, as the code puts it
pub so_far_put : (value : ℕ → Row → ℤ) (reg : SysReg) (index word next : ℕ) (row : Row) (v : ℤ)
    → SoFar value (rows_of reg) index word → slice_get (rows_of reg) index ≡ Some row → v ≡ value index row → SFits w64 v
    → (word < 2 ^ row.shift → next ≡ word + field_bits row.width (to_z w64 (of_z w64 v)) * 2 ^ row.shift)
    → (word < 2 ^ row.shift → next < 2 ^ (row.shift + row.width))
    → SoFar value (rows_of reg) (index + 1) next
so_far_put value reg index word next row v far at is fits sum below =
    let low = below_next value reg index word row far at in
    let held : to_z w64 (of_z w64 v) ≡ value index row = to_z-of_z w64 v fits ∙ is in
    let made : next ≡ word + field_bits row.width (value index row) * 2 ^ row.shift =
    sum low ∙ ap (λ (z : ℤ). word + field_bits row.width z * 2 ^ row.shift) held in
    subst (SoFar value (rows_of reg) (index + 1)) (sym made)
    (so_far_more value reg index word row far at (subst (λ (n : ℕ). n < 2 ^ (row.shift + row.width)) made (below low)))
