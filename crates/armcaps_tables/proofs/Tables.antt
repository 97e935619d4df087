-- The facts that every table has, taken from the test that computes at each register.
use Rattle.std.proofs.Common.{◌≡◌, ◌≤◌, true, length, sum_by, refl, lit≤}
use Rattle.armcaps_enc.specs.declared.register.SysReg.{SysReg}
use Rattle.armcaps_enc.specs.declared.register.SysReg.TheVariants.{MidrEl1}
use Rattle.armcaps_enc.specs.Registers.{registers}
use Rattle.armcaps_tables.specs.Rows.{rows_of, id_aa64pfr0_rows, id_aa64pfr1_rows, id_aa64zfr0_rows, id_aa64smfr0_rows, id_aa64dfr0_rows, id_aa64isar0_rows, id_aa64isar1_rows, id_aa64isar2_rows, id_aa64mmfr0_rows, id_aa64mmfr1_rows, id_aa64mmfr2_rows, id_aa64mmfr3_rows, ctr_rows, dczid_rows}
use Rattle.armcaps_tables.specs.Facts.{table_holds}

-- the test, computed at each register
pub tables : (reg : SysReg) → table_holds (rows_of reg) ≡ true
unfolding id_aa64pfr0_rows id_aa64pfr1_rows id_aa64zfr0_rows id_aa64smfr0_rows id_aa64dfr0_rows id_aa64isar0_rows
    id_aa64isar1_rows id_aa64isar2_rows id_aa64mmfr0_rows id_aa64mmfr1_rows id_aa64mmfr2_rows id_aa64mmfr3_rows ctr_rows
    dczid_rows
tables MidrEl1 = refl
tables other = refl

-- no register has more than 16 rows
pub few_rows : (reg : SysReg) → length (rows_of reg) ≤ 16
unfolding id_aa64pfr0_rows id_aa64pfr1_rows id_aa64zfr0_rows id_aa64smfr0_rows id_aa64dfr0_rows id_aa64isar0_rows
    id_aa64isar1_rows id_aa64isar2_rows id_aa64mmfr0_rows id_aa64mmfr1_rows id_aa64mmfr2_rows id_aa64mmfr3_rows ctr_rows
    dczid_rows
few_rows MidrEl1 = lit≤ tt
few_rows other = lit≤ tt

-- there are 123 rows
pub all_rows : sum_by (λ register. length (rows_of register)) registers ≡ 123
unfolding id_aa64pfr0_rows id_aa64pfr1_rows id_aa64zfr0_rows id_aa64smfr0_rows id_aa64dfr0_rows id_aa64isar0_rows
    id_aa64isar1_rows id_aa64isar2_rows id_aa64mmfr0_rows id_aa64mmfr1_rows id_aa64mmfr2_rows id_aa64mmfr3_rows ctr_rows
    dczid_rows
all_rows = refl
