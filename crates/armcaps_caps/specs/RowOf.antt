-- A row of the code beside a row of the table.
use Rattle.std.specs.Prelude.{ℕ, List}
use Rattle.armcaps_caps.specs.declared.cap_row.Test.{Test}
use Rattle.armcaps_caps.specs.declared.cap_row.CapRow.{CapRow}
use Rattle.armcaps_caps.specs.Flags.{flags_of}
use Rattle.armcaps_caps.specs.Row.{Row}

-- a row's columns, with the flags as bits
pub record Columns : Type 0 where
  pub number : ℕ
  pub name : List ℕ
  pub flags : ℕ
  pub test : Test

-- the columns that the code has
abbrev pub columns_of : CapRow → Columns
columns_of row = record { number = row.number; name = row.name.now; flags = row.flags.0; test = row.test }

-- the columns that the table has
abbrev pub columns_listed : Row → Columns
columns_listed row = record { number = row.number; name = row.name; flags = flags_of row.class; test = row.test }
