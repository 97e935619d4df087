-- Each override of a command line is a value that its row can have.
use Rattle.std.proofs.Common.{◌≡◌, ℕ, ◌≤◌, IsTrue, List, Option, Some, None, length, slice_get, refl, sym, inl, inr, ◌∙◌, arith}
use Rattle.std.specs.Option.{option_map}
use Rattle.std.proofs.lemmas.Bool.{cases_lt}
use Rattle.std.proofs.lemmas.Option.{slice_get_past}
use Rattle.armcaps_enc.specs.declared.register.SysReg.{SysReg}
use Rattle.armcaps_tables.specs.Row.{Row}
use Rattle.armcaps_tables.specs.Rows.{rows_of}
use Rattle.armcaps_tables.specs.Overriding.{AllFit, cut_value, override_fits, override_of}
use Rattle.armcaps_tables.proofs.Overriding.{cut_fits, override_by, override_past}
use Rattle.armcaps_tables.proofs.Tables.{few_rows}
use Rattle.armcaps_cmdline.specs.Assignments.{assignments}
use Rattle.armcaps_cmdline.specs.Overrides.{command_line_override, command_line_overrides, last_number}

-- beyond a register's rows there is none
past_rows : (text : List ℕ) (register : SysReg) (index : ℕ) → length (rows_of register) ≤ index
    → command_line_override text register index ≡ None
unfolding command_line_override
past_rows text register index past = rw (slice_get_past (rows_of register) index past)

-- what is listed is the override of each row, and no more
pub listed : (text : List ℕ) (register : SysReg) (index : ℕ)
    → override_of (command_line_overrides text) register index ≡ command_line_override text register index
listed text register index =
    elim (cases_lt index 16) [
      | inl within ↦ override_by (command_line_override text) register index within
      | inr past ↦
          let far : length (rows_of register) ≤ index = omega (arith, few_rows register) in
          override_past (command_line_override text) register index past ∙ sym (past_rows text register index far)
    ]

-- each is cut to the width of its row
value_fits : (register : SysReg) (index : ℕ) (row : Row) (number : Option ℕ)
    → slice_get (rows_of register) index ≡ Some row
    → IsTrue (override_fits row (option_map (λ n. cut_value row n) number))
value_fits register index row None at = refl
value_fits register index row (Some n) at = cut_fits register index row n at

pub command_line_fits : (text : List ℕ) → AllFit (command_line_overrides text)
unfolding command_line_override
command_line_fits text register index row at =
    rw (listed text register index, at)
    (value_fits register index row (last_number (assignments text) register index) at)
