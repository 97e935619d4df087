-- What users see and where cores differ, evaluated on the words of some cores.
use Rattle.std.proofs.Common.{◌≡◌, ℕ, true, false, [], ◌∷◌, replicate, refl}
use Rattle.std.specs.Prelude.{slice_set}
use Rattle.armcaps_rule.specs.Rule.{forced_of, fold_of}
use Rattle.armcaps_enc.specs.declared.register.SysReg.{SysReg}
use Rattle.armcaps_enc.specs.declared.register.SysReg.TheVariants.{IdAa64Pfr0El1, IdAa64Dfr0El1, IdAa64Isar0El1, IdAa64Mmfr0El1, CtrEl0}
use Rattle.armcaps_enc.specs.Registers.{place_of}
use Rattle.armcaps_tables.specs.Core.{Core}
use Rattle.armcaps_tables.specs.Overriding.{no_overrides, overrides_by}
use Rattle.armcaps_tables.specs.Rows.{id_aa64pfr0_rows, id_aa64dfr0_rows, id_aa64isar0_rows, id_aa64mmfr0_rows, ctr_rows}
use Rattle.armcaps_sanit.specs.Users.{shown_word, user_word}
use Rattle.armcaps_sanit.specs.Varying.{core_varies}

-- a core with this word in the reg, and 0 in the others
abbrev core_with : SysReg → ℕ → Core
core_with reg word = record { words = slice_set (replicate 17 0) (place_of reg) word; lengths = 0 }

-- hidden fields have their safe values: 1 for EL0 and EL1, 6 for the debug architecture, -1 for two sizes of granules (0xff000000)
zero_pfr0 : user_word no_overrides (core_with IdAa64Isar0El1 0 ∷ []) IdAa64Pfr0El1 ≡ 17
unfolding user_word overrides_by forced_of fold_of id_aa64pfr0_rows
zero_pfr0 = refl

zero_dfr0 : user_word no_overrides (core_with IdAa64Isar0El1 0 ∷ []) IdAa64Dfr0El1 ≡ 6
unfolding user_word overrides_by forced_of fold_of id_aa64dfr0_rows
zero_dfr0 = refl

zero_mmfr0 : user_word no_overrides (core_with IdAa64Isar0El1 0 ∷ []) IdAa64Mmfr0El1 ≡ 4278190080
unfolding user_word overrides_by forced_of fold_of id_aa64mmfr0_rows
zero_mmfr0 = refl

shown_mmfr0 : shown_word IdAa64Mmfr0El1 0 ≡ 4278190080
unfolding shown_word id_aa64mmfr0_rows
shown_mmfr0 = refl

-- 0x11120 has visible fields alone
visible_isar0 : user_word no_overrides (core_with IdAa64Isar0El1 69920 ∷ []) IdAa64Isar0El1 ≡ 69920
unfolding user_word overrides_by forced_of fold_of id_aa64isar0_rows
visible_isar0 = refl

-- 0x100010211120 and 0x11120 differ, in either order
isar0_varies : core_varies (core_with IdAa64Isar0El1 17592456646944) (core_with IdAa64Isar0El1 69920) IdAa64Isar0El1 ≡ true
unfolding id_aa64isar0_rows
isar0_varies = refl

isar0_varies_back : core_varies (core_with IdAa64Isar0El1 69920) (core_with IdAa64Isar0El1 17592456646944) IdAa64Isar0El1 ≡ true
unfolding id_aa64isar0_rows
isar0_varies_back = refl

-- 0x84448004 and 0x84438004 differ in a field that counts; 0x8444c004 and 0x84448004 in the instruction cache's policy alone
ctr_varies : core_varies (core_with CtrEl0 2219081732) (core_with CtrEl0 2219016196) CtrEl0 ≡ true
unfolding ctr_rows
ctr_varies = refl

policy_alone : core_varies (core_with CtrEl0 2219098116) (core_with CtrEl0 2219081732) CtrEl0 ≡ false
unfolding ctr_rows
policy_alone = refl
