-- What is written of the baseline of some machines, each told by the words of its registers: the baseline's registers,
-- and the machine that limits each field. The format is this project's own.
use Rattle.std.specs.Prelude.{ℕ, List, [], ◌∷◌, ◌++◌, codes, length}
use Rattle.std.specs.Fmt.{decimal}
use Rattle.std.specs.List.{flat_map}
use Rattle.std.specs.Option.{option_map_or}
use Rattle.armcaps_enc.specs.declared.register.SysReg.{SysReg}
use Rattle.armcaps_enc.specs.Registers.{short_name_of, tracked}
use Rattle.armcaps_tables.specs.Row.{Row}
use Rattle.armcaps_tables.specs.Rows.{rows_of}
use Rattle.armcaps_baseline.specs.Baselines.{baseline_word, limiting_machine}
use Rattle.armcaps_report.specs.Lines.{register_line}

-- how many machines there are
abbrev pub machines_line : List (List ℕ) → List ℕ
machines_line machines = codes "machines " ++ decimal (length machines) ++ 10 ∷ []

-- the line of a field, with the number of the machine that limits it, from 0
abbrev pub limit_line : SysReg → Row → ℕ → List ℕ
limit_line register row machine =
    codes "limit " ++ short_name_of register ++ codes "." ++ row.name ++ codes " " ++ decimal machine ++ 10 ∷ []

-- the line of a field, by the machine of these that limits it; of no machines there is none
abbrev pub field_limit : List (List ℕ) → SysReg → Row → List ℕ
field_limit machines register row =
    option_map_or (λ machine. limit_line register row machine) (limiting_machine machines register row) []

-- the lines of a register's fields
abbrev pub field_limits : List (List ℕ) → SysReg → List ℕ
field_limits machines register = flat_map (field_limit machines register) (rows_of register)

-- the lines of the baseline's registers
abbrev pub baseline_lines : List (List ℕ) → List ℕ
baseline_lines machines = flat_map (λ register. register_line register (baseline_word machines register)) tracked

-- the lines of all fields
abbrev pub limit_lines : List (List ℕ) → List ℕ
limit_lines machines = flat_map (field_limits machines) tracked

-- what is written of the machines' baseline
unfoldable pub pool_report_of : List (List ℕ) → List ℕ
pool_report_of machines =
    codes "armcaps pool 1\n" ++ machines_line machines ++ baseline_lines machines ++ limit_lines machines
    ++ codes "end\n"
