-- Whether a core differs from the boot core (Linux, arch/arm64/kernel/cpufeature.c, `check_update_ftr_reg`,
-- `strict_mask`).
use Rattle.std.specs.Prelude.{ℕ, Bool, not, ◌&&◌}
use Rattle.std.specs.List.{list_any}
use Rattle.std.specs.Ordering.{int_eq}
use Rattle.armcaps_enc.specs.declared.register.SysReg.{SysReg}
use Rattle.armcaps_tables.specs.Row.{Row}
use Rattle.armcaps_tables.specs.Rows.{rows_of}
use Rattle.armcaps_tables.specs.Core.{Core, core_word}
use Rattle.armcaps_tables.specs.Fields.{field_in}

-- whether a strict field has another value in one word than in another
abbrev pub row_varies : ℕ → ℕ → Row → Bool
row_varies one other row = row.strict && not (int_eq (field_in row one) (field_in row other))

-- whether some strict field of a register has another value in one word than in another
abbrev pub word_varies : SysReg → ℕ → ℕ → Bool
word_varies reg one other = list_any (row_varies one other) (rows_of reg)

-- whether a core differs from the boot core in some strict field of a register
abbrev pub core_varies : Core → Core → SysReg → Bool
core_varies boot core reg = word_varies reg (core_word boot reg) (core_word core reg)
