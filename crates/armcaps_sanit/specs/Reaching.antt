-- Tests of one field of a register by its place in the register's table, and which tests hold of each core where they
-- hold of all cores together.
use Rattle.std.specs.Prelude.{ℕ, ℤ, Bool, true, false, List, slice_get, int_le, int_lt}
use Rattle.std.specs.Option.{option_map_or}
use Rattle.armcaps_rule.specs.declared.rule.Rule.{Rule}
use Rattle.armcaps_rule.specs.declared.rule.Rule.TheVariants.{Lower, Exact}
use Rattle.armcaps_enc.specs.declared.register.SysReg.{SysReg}
use Rattle.armcaps_tables.specs.Row.{Row}
use Rattle.armcaps_tables.specs.Rows.{rows_of}
use Rattle.armcaps_tables.specs.Core.{word_at}
use Rattle.armcaps_tables.specs.Fields.{field_in}

-- whether a field passes a test, and false where the register has no such field
abbrev pub field_passes : (Row → Bool) → SysReg → ℕ → Bool
field_passes test reg index = option_map_or test (slice_get (rows_of reg) index) false

-- whether a field is at least the minimum, where its value is told by its register, its place and its row
abbrev pub reaches : (SysReg → ℕ → Row → ℤ) → SysReg → ℕ → ℤ → Bool
reaches value reg index minimum = field_passes (λ row. int_le minimum (value reg index row)) reg index

-- the values of the fields in the words of the registers
abbrev pub word_values : List ℕ → SysReg → ℕ → Row → ℤ
word_values words reg index row = field_in row (word_at words reg)

-- whether a rule keeps a minimum, where it is told whether the safe value is below it
abbrev pub rule_keeps : Rule → Bool → Bool
rule_keeps Lower below = true
rule_keeps Exact below = below
rule_keeps _ below = false

-- whether a field's value over some cores is at least the minimum only where each core's value is: the value over them
-- is their least, or else the one that all have or a safe one below the minimum
abbrev pub row_keeps : ℤ → Row → Bool
row_keeps minimum row = rule_keeps row.rule (int_lt row.safe minimum)
