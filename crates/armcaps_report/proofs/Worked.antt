-- What is written of worked machines.
use Rattle.std.proofs.Common.{◌≡◌, ℕ, List, [], ◌∷◌, ◌++◌, map, replicate, refl}
use Rattle.std.specs.Prelude.{codes, slice_set}
use Rattle.std.specs.Fmt.{digits}
use Rattle.armcaps_rule.specs.Rule.{fold_of}
use Rattle.armcaps_enc.specs.declared.register.SysReg.{SysReg}
use Rattle.armcaps_enc.specs.declared.register.SysReg.TheVariants.{IdAa64Isar0El1, CtrEl0}
use Rattle.armcaps_enc.specs.Registers.{place_of}
use Rattle.armcaps_tables.specs.Rows.{ctr_rows, id_aa64isar0_rows}
use Rattle.armcaps_baseline.specs.Baselines.{baseline_word, limiting_machine}
use Rattle.armcaps_report.specs.Lines.{register_line}
use Rattle.armcaps_report.specs.Pooled.{field_limits, machines_line}
use Rattle.armcaps_report.specs.Texts.{word_text}

-- a machine that has this word in one register, and 0 in the others
abbrev machine : SysReg → ℕ → List ℕ
machine register word = slice_set (replicate 17 0) (place_of register) word

-- the second machine has no SHA1
abbrev two : List (List ℕ)
two = map (machine IdAa64Isar0El1) (0x11120 ∷ 0x11020 ∷ [])

-- the third machine tells no granule of write-backs, which counts as the largest
abbrev three : List (List ℕ)
three = map (machine CtrEl0) (0x85448004 ∷ 0x84448004 ∷ 0x80448004 ∷ [])

abbrev first_two : List (List ℕ)
first_two = map (machine CtrEl0) (0x85448004 ∷ 0x84448004 ∷ [])

two_machines : machines_line two ≡ codes "machines 2\n"
unfolding digits
two_machines = refl

without_sha1 : register_line IdAa64Isar0El1 (baseline_word two IdAa64Isar0El1)
    ≡ codes "reg id_aa64isar0_el1 0x0000000000011020\n"
unfolding baseline_word fold_of id_aa64isar0_rows word_text digits
without_sha1 = refl

sha1_limited : field_limits two IdAa64Isar0El1
    ≡ codes "limit id_aa64isar0.aes 0\nlimit id_aa64isar0.sha1 1\nlimit id_aa64isar0.sha2 0\n"
    ++ codes "limit id_aa64isar0.crc32 0\nlimit id_aa64isar0.atomic 0\nlimit id_aa64isar0.rdm 0\n"
    ++ codes "limit id_aa64isar0.sha3 0\nlimit id_aa64isar0.sm3 0\nlimit id_aa64isar0.sm4 0\n"
    ++ codes "limit id_aa64isar0.dp 0\nlimit id_aa64isar0.fhm 0\nlimit id_aa64isar0.ts 0\n"
    ++ codes "limit id_aa64isar0.tlb 0\nlimit id_aa64isar0.rndr 0\n"
unfolding limiting_machine fold_of id_aa64isar0_rows digits
sha1_limited = refl

largest_granule : register_line CtrEl0 (baseline_word three CtrEl0) ≡ codes "reg ctr_el0 0x0000000080448004\n"
unfolding baseline_word fold_of ctr_rows word_text digits
largest_granule = refl

granule_limited : field_limits three CtrEl0
    ≡ codes "limit ctr.iminline 0\nlimit ctr.l1ip 0\nlimit ctr.dminline 0\nlimit ctr.erg 0\n"
    ++ codes "limit ctr.cwg 2\nlimit ctr.idc 0\nlimit ctr.dic 0\nlimit ctr.res1 0\n"
unfolding limiting_machine fold_of ctr_rows digits
granule_limited = refl

greater_granule : register_line CtrEl0 (baseline_word first_two CtrEl0) ≡ codes "reg ctr_el0 0x0000000085448004\n"
unfolding baseline_word fold_of ctr_rows word_text digits
greater_granule = refl

first_limits : field_limits first_two CtrEl0
    ≡ codes "limit ctr.iminline 0\nlimit ctr.l1ip 0\nlimit ctr.dminline 0\nlimit ctr.erg 0\n"
    ++ codes "limit ctr.cwg 0\nlimit ctr.idc 0\nlimit ctr.dic 0\nlimit ctr.res1 0\n"
unfolding limiting_machine fold_of ctr_rows digits
first_limits = refl
