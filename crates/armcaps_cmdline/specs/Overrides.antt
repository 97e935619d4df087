-- The overrides that a command line gives.
use Rattle.std.specs.Prelude.{◌≡◌, ℕ, ◌==◌, ◌&&◌, ℤ, Bool, List, reverse, find, Option, slice_get}
use Rattle.std.specs.Option.{option_map, option_and_then, option_or}
use Rattle.armcaps_enc.specs.Registers.{place_of}
use Rattle.armcaps_enc.specs.declared.register.SysReg.{SysReg}
use Rattle.armcaps_tables.specs.Rows.{rows_of}
use Rattle.armcaps_tables.specs.Overriding.{FieldOverrides, IsWhole, cut_value, override_of, overrides_by}
use Rattle.armcaps_cmdline.specs.Assignments.{Assignment, assignments}

-- whether an assignment is one to this row
abbrev pub is_to : SysReg → ℕ → Assignment → Bool
is_to register index assignment = (place_of assignment.register == place_of register) && (assignment.index == index)

-- the last number that a list assigns to a row
abbrev pub last_number : List Assignment → SysReg → ℕ → Option ℕ
last_number list register index =
    option_map (λ assignment. assignment.number) (find (is_to register index) (reverse list))

-- the override that a list of assignments gives a row: the last number, cut to the row's width and read as the row
-- reads
abbrev pub given_override : List Assignment → SysReg → ℕ → Option ℤ
given_override list register index =
    option_and_then (λ row. option_map (λ number. cut_value row number) (last_number list register index))
    (slice_get (rows_of register) index)

-- the override that a command line gives a row
unfoldable pub command_line_override : List ℕ → SysReg → ℕ → Option ℤ
command_line_override text register index = given_override (assignments text) register index

-- the overrides that a command line gives
abbrev pub command_line_overrides : List ℕ → FieldOverrides
command_line_overrides text = overrides_by (command_line_override text)

-- the overrides after a list of assignments: each row has the one that the list gives, or else keeps its own
pub record Assigns (list : List Assignment) (old new : FieldOverrides) : Type 0 where
  pub each : (register : SysReg) (index : ℕ)
      → override_of new register index
      ≡ option_or (given_override list register index) (override_of old register index)
  pub whole : IsWhole old → IsWhole new
