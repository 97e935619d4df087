-- The bits of a register's fields.
use Rattle.std.specs.Prelude.{ℕ, ◌-◌, ◌*◌, ◌^◌, Bool, List, filter, sum_by}
use Rattle.armcaps_tables.specs.Row.{Row}

-- a field's bits, at its place
abbrev pub field_mask : Row → ℕ
field_mask row = (2 ^ row.width - 1) * 2 ^ row.shift

-- the bits of the fields that pass a test
abbrev pub mask_of : (Row → Bool) → List Row → ℕ
mask_of test rows = sum_by field_mask (filter test rows)
