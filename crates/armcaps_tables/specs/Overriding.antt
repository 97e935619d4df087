-- Values that stand in for fields, as a command line gives them (Linux, arch/arm64/include/asm/cpufeature.h,
-- `struct arm64_ftr_override`).
use Rattle.std.specs.Prelude.{◌≡◌, ℕ, ℤ, ◌%◌, ◌^◌, Bool, true, IsTrue, List, [], map, Option, Some, None, slice_get, slice_index_or}
use Rattle.std.specs.List.{range_with_len}
use Rattle.armcaps_bits.specs.Field.{field_fits, number_of}
use Rattle.armcaps_enc.specs.declared.register.SysReg.{SysReg}
use Rattle.armcaps_enc.specs.Registers.{place_of, registers}
use Rattle.armcaps_tables.specs.Row.{Row}
use Rattle.armcaps_tables.specs.Rows.{rows_of}

-- for each register, by its place, the values that stand in for its fields, by the field's index; where none does, None
abbrev pub FieldOverrides : Type 0
FieldOverrides = List (List (Option ℤ))

-- the value that stands in for a field, if one does
abbrev pub override_of : FieldOverrides → SysReg → ℕ → Option ℤ
override_of overrides reg index = slice_index_or (slice_index_or overrides (place_of reg) []) index None

-- a function's values as a list: for each register 16 places, since no register has more fields
unfoldable pub overrides_by : (SysReg → ℕ → Option ℤ) → FieldOverrides
overrides_by override = map (λ reg. map (override reg) (range_with_len 0 16)) registers

-- no value stands in for any field
abbrev pub no_overrides : FieldOverrides
no_overrides = overrides_by (λ reg index. None)

-- overrides are whole where they are no more than their values: 17 registers with 16 places each
abbrev pub IsWhole : FieldOverrides → Type 0
IsWhole overrides = overrides ≡ overrides_by (override_of overrides)

-- a number cut to a field's width, and read as the field is
abbrev pub cut_value : Row → ℕ → ℤ
cut_value row number = number_of row.signed row.width (number % 2 ^ row.width)

-- whether a field can have the value that stands in for it, if one does
abbrev pub override_fits : Row → Option ℤ → Bool
override_fits row None = true
override_fits row (Some value) = field_fits row.signed row.width value

-- no value stands in for a field that can't have it
abbrev pub AllFit : FieldOverrides → Type 0
AllFit overrides = (reg : SysReg) (index : ℕ) (row : Row)
    → slice_get (rows_of reg) index ≡ Some row → IsTrue (override_fits row (override_of overrides reg index))

-- what holds of the overrides of every program
pub record AreSound (overrides : FieldOverrides) : Type 0 where
  pub fit : AllFit overrides
  pub whole : IsWhole overrides
