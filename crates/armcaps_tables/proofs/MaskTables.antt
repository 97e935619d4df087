-- The masks that the code has, register by register.
use Rattle.std.proofs.Common.{◌≡◌, pos, true, get_or, refl, cond}
use Rattle.armcaps_enc.specs.declared.register.SysReg.{SysReg}
use Rattle.armcaps_enc.specs.declared.register.SysReg.TheVariants.{MidrEl1}
use Rattle.armcaps_enc.specs.Registers.{place_of}
use Rattle.armcaps_tables.specs.declared.masks.TheConstants.{FIELDS, VISIBLE, STRICT, HIDDEN_SAFE}
use Rattle.armcaps_tables.specs.Fields.{word_of}
use Rattle.armcaps_tables.specs.Masks.{mask_of}
use Rattle.armcaps_tables.specs.Rows.{rows_of, id_aa64pfr0_rows, id_aa64pfr1_rows, id_aa64zfr0_rows, id_aa64smfr0_rows, id_aa64dfr0_rows, id_aa64isar0_rows, id_aa64isar1_rows, id_aa64isar2_rows, id_aa64mmfr0_rows, id_aa64mmfr1_rows, id_aa64mmfr2_rows, id_aa64mmfr3_rows, ctr_rows, dczid_rows}

-- what the code has of a register, against the rows
record AtRegister (reg : SysReg) : Type 0 where
  fields : get_or FIELDS (place_of reg) 0 ≡ mask_of (λ row. true) (rows_of reg)
  visible : get_or VISIBLE (place_of reg) 0 ≡ mask_of (λ row. row.visible) (rows_of reg)
  strict : get_or STRICT (place_of reg) 0 ≡ mask_of (λ row. row.strict) (rows_of reg)
  hidden : get_or HIDDEN_SAFE (place_of reg) 0 ≡ word_of (λ index row. cond row.visible (pos 0) row.safe) (rows_of reg)

at_register : (reg : SysReg) → AtRegister reg
unfolding id_aa64pfr0_rows id_aa64pfr1_rows id_aa64zfr0_rows id_aa64smfr0_rows id_aa64dfr0_rows id_aa64isar0_rows
    id_aa64isar1_rows id_aa64isar2_rows id_aa64mmfr0_rows id_aa64mmfr1_rows id_aa64mmfr2_rows id_aa64mmfr3_rows ctr_rows
    dczid_rows
at_register MidrEl1 = record { fields = refl; visible = refl; strict = refl; hidden = refl }
at_register other = record { fields = refl; visible = refl; strict = refl; hidden = refl }

pub fields_at : (reg : SysReg) → get_or FIELDS (place_of reg) 0 ≡ mask_of (λ row. true) (rows_of reg)
fields_at reg = (at_register reg).fields

pub visible_at : (reg : SysReg) → get_or VISIBLE (place_of reg) 0 ≡ mask_of (λ row. row.visible) (rows_of reg)
visible_at reg = (at_register reg).visible

pub strict_at : (reg : SysReg) → get_or STRICT (place_of reg) 0 ≡ mask_of (λ row. row.strict) (rows_of reg)
strict_at reg = (at_register reg).strict

pub hidden_safe_at : (reg : SysReg)
    → get_or HIDDEN_SAFE (place_of reg) 0 ≡ word_of (λ index row. cond row.visible (pos 0) row.safe) (rows_of reg)
hidden_safe_at reg = (at_register reg).hidden
