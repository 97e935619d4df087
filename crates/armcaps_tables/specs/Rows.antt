-- The fields of each register, in the manual's order (Arm ARM DDI 0487, "AArch64 System register descriptions"). Which
-- fields are listed, their rules, safe values, visibility and strictness are this project's profile after Linux,
-- arch/arm64/kernel/cpufeature.c. A line has the field's name, its lowest bit, and what is not as usual (`negsuc 0` is
-- -1).
use Rattle.std.specs.Prelude.{ℕ, ℤ, pos, negsuc, true, false, List, [], ◌∷◌, codes}
use Prim.Native.String.{String}
use Rattle.armcaps_rule.specs.declared.rule.Rule.TheVariants.{Exact, Lower, Higher, HigherOrZero}
use Rattle.armcaps_enc.specs.declared.register.SysReg.{SysReg}
use Rattle.armcaps_enc.specs.declared.register.SysReg.TheVariants.{MidrEl1, MpidrEl1, RevidrEl1, IdAa64Pfr0El1, IdAa64Pfr1El1, IdAa64Zfr0El1, IdAa64Smfr0El1, IdAa64Dfr0El1, IdAa64Isar0El1, IdAa64Isar1El1, IdAa64Isar2El1, IdAa64Mmfr0El1, IdAa64Mmfr1El1, IdAa64Mmfr2El1, IdAa64Mmfr3El1, CtrEl0, DczidEl0}
use Rattle.armcaps_tables.specs.Row.{Row}

-- 4 bits, unsigned, the lower value is kept, 0 is safe, and cores that differ in it are reported
abbrev usual : Row
usual =
    record {
      name =
          [];
      shift = 0;
      width = 4;
      signed = false;
      rule = Lower;
      safe = pos 0;
      visible = true;
      strict = true;
    }

-- a field that users see, by its name and its lowest bit
abbrev visible : String → ℕ → Row → Row
visible name shift row = record row { name = codes name; shift = shift; visible = true }

-- a field that users don't see
abbrev hidden : String → ℕ → Row → Row
hidden name shift row = record row { name = codes name; shift = shift; visible = false }

-- with so many bits
abbrev bits : ℕ → Row → Row
bits width row = record row { width = width }

-- read as a signed number
abbrev signed : Row → Row
signed row = record row { signed = true }

-- with this safe value
abbrev safe : ℤ → Row → Row
safe value row = record row { safe = value }

-- the value that all cores have is kept, and else this safe value
abbrev exact : ℤ → Row → Row
exact value row = record row { rule = Exact; safe = value }

-- the higher value is kept
abbrev higher : Row → Row
higher row = record row { rule = Higher }

-- 0 is kept where a core has 0, and else the higher value
abbrev higher_or_zero : Row → Row
higher_or_zero row = record row { rule = HigherOrZero }

-- cores that differ in it are not reported
abbrev may_differ : Row → Row
may_differ row = record row { strict = false }

-- ID_AA64PFR0_EL1, AArch64 Processor Feature Register 0
unfoldable pub id_aa64pfr0_rows : List Row
id_aa64pfr0_rows =
    hidden "el0" 0 (safe (pos 1) usual)
    ∷ hidden "el1" 4 (safe (pos 1) usual)
    ∷ hidden "el2" 8 usual
    ∷ hidden "el3" 12 usual
    ∷ visible "fp" 16 (signed (safe (negsuc 0) usual))
    ∷ visible "advsimd" 20 (signed (safe (negsuc 0) usual))
    ∷ hidden "gic" 24 usual
    ∷ hidden "ras" 28 usual
    ∷ visible "sve" 32 usual
    ∷ hidden "sel2" 36 usual
    ∷ hidden "mpam" 40 (may_differ usual)
    ∷ hidden "amu" 44 (may_differ usual)
    ∷ visible "dit" 48 usual
    ∷ hidden "rme" 52 usual
    ∷ hidden "csv2" 56 (may_differ usual)
    ∷ hidden "csv3" 60 (may_differ usual)
    ∷ []

-- ID_AA64PFR1_EL1, AArch64 Processor Feature Register 1
unfoldable pub id_aa64pfr1_rows : List Row
id_aa64pfr1_rows =
    visible "bt" 0 usual
    ∷ visible "ssbs" 4 (may_differ usual)
    ∷ visible "mte" 8 usual
    ∷ hidden "ras_frac" 12 (may_differ usual)
    ∷ hidden "mpam_frac" 16 (may_differ usual)
    ∷ visible "sme" 24 usual
    ∷ []

-- ID_AA64ZFR0_EL1, SVE Feature ID Register 0
unfoldable pub id_aa64zfr0_rows : List Row
id_aa64zfr0_rows =
    visible "svever" 0 usual
    ∷ visible "aes" 4 usual
    ∷ visible "bitperm" 16 usual
    ∷ visible "bf16" 20 usual
    ∷ visible "sha3" 32 usual
    ∷ visible "sm4" 40 usual
    ∷ visible "i8mm" 44 usual
    ∷ visible "f32mm" 52 usual
    ∷ visible "f64mm" 56 usual
    ∷ []

-- ID_AA64SMFR0_EL1, SME Feature ID Register 0
unfoldable pub id_aa64smfr0_rows : List Row
id_aa64smfr0_rows =
    visible "f32f32" 32 (bits 1 (exact (pos 0) usual))
    ∷ visible "b16f32" 34 (bits 1 (exact (pos 0) usual))
    ∷ visible "f16f32" 35 (bits 1 (exact (pos 0) usual))
    ∷ visible "i8i32" 36 (exact (pos 0) usual)
    ∷ visible "f64f64" 48 (bits 1 (exact (pos 0) usual))
    ∷ visible "i16i64" 52 (exact (pos 0) usual)
    ∷ visible "smever" 56 (exact (pos 0) usual)
    ∷ visible "fa64" 63 (bits 1 (exact (pos 0) usual))
    ∷ []

-- ID_AA64DFR0_EL1, AArch64 Debug Feature Register 0
unfoldable pub id_aa64dfr0_rows : List Row
id_aa64dfr0_rows =
    hidden "debugver" 0 (exact (pos 6) usual)
    ∷ hidden "pmuver" 8 (exact (pos 0) (may_differ usual))
    ∷ hidden "brps" 12 usual
    ∷ hidden "wrps" 20 usual
    ∷ hidden "ctx_cmps" 28 usual
    ∷ hidden "pmsver" 32 (may_differ usual)
    ∷ hidden "doublelock" 36 (signed usual)
    ∷ []

-- ID_AA64ISAR0_EL1, AArch64 Instruction Set Attribute Register 0
unfoldable pub id_aa64isar0_rows : List Row
id_aa64isar0_rows =
    visible "aes" 4 usual
    ∷ visible "sha1" 8 usual
    ∷ visible "sha2" 12 usual
    ∷ visible "crc32" 16 usual
    ∷ visible "atomic" 20 usual
    ∷ visible "rdm" 28 usual
    ∷ visible "sha3" 32 usual
    ∷ visible "sm3" 36 usual
    ∷ visible "sm4" 40 usual
    ∷ visible "dp" 44 usual
    ∷ visible "fhm" 48 usual
    ∷ visible "ts" 52 usual
    ∷ hidden "tlb" 56 usual
    ∷ visible "rndr" 60 usual
    ∷ []

-- ID_AA64ISAR1_EL1, AArch64 Instruction Set Attribute Register 1
unfoldable pub id_aa64isar1_rows : List Row
id_aa64isar1_rows =
    visible "dpb" 0 usual
    ∷ visible "apa" 4 (exact (pos 0) usual)
    ∷ visible "api" 8 (exact (pos 0) usual)
    ∷ visible "jscvt" 12 usual
    ∷ visible "fcma" 16 usual
    ∷ visible "lrcpc" 20 usual
    ∷ visible "gpa" 24 usual
    ∷ visible "gpi" 28 usual
    ∷ visible "frintts" 32 usual
    ∷ visible "sb" 36 usual
    ∷ visible "specres" 40 usual
    ∷ visible "bf16" 44 usual
    ∷ visible "dgh" 48 usual
    ∷ visible "i8mm" 52 usual
    ∷ hidden "xs" 56 usual
    ∷ hidden "ls64" 60 usual
    ∷ []

-- ID_AA64ISAR2_EL1, AArch64 Instruction Set Attribute Register 2
unfoldable pub id_aa64isar2_rows : List Row
id_aa64isar2_rows =
    visible "wfxt" 0 (may_differ usual)
    ∷ visible "rpres" 4 (may_differ usual)
    ∷ visible "gpa3" 8 usual
    ∷ visible "apa3" 12 (exact (pos 0) usual)
    ∷ visible "mops" 16 usual
    ∷ []

-- ID_AA64MMFR0_EL1, AArch64 Memory Model Feature Register 0
unfoldable pub id_aa64mmfr0_rows : List Row
id_aa64mmfr0_rows =
    hidden "parange" 0 usual
    ∷ hidden "asidbits" 4 usual
    ∷ hidden "bigend" 8 usual
    ∷ hidden "snsmem" 12 usual
    ∷ hidden "bigendel0" 16 usual
    ∷ hidden "tgran16" 20 (may_differ usual)
    ∷ hidden "tgran64" 24 (signed (safe (negsuc 0) (may_differ usual)))
    ∷ hidden "tgran4" 28 (signed (safe (negsuc 0) (may_differ usual)))
    ∷ hidden "fgt" 56 (may_differ usual)
    ∷ visible "ecv" 60 usual
    ∷ []

-- ID_AA64MMFR1_EL1, AArch64 Memory Model Feature Register 1
unfoldable pub id_aa64mmfr1_rows : List Row
id_aa64mmfr1_rows =
    hidden "hafdbs" 0 usual
    ∷ hidden "vmidbits" 4 usual
    ∷ hidden "vh" 8 usual
    ∷ hidden "hpds" 12 usual
    ∷ hidden "lo" 16 usual
    ∷ hidden "pan" 20 usual
    ∷ hidden "specsei" 24 (higher usual)
    ∷ hidden "xnx" 28 usual
    ∷ hidden "hcx" 40 (may_differ usual)
    ∷ visible "afp" 44 (may_differ usual)
    ∷ hidden "tidcp1" 52 (may_differ usual)
    ∷ []

-- ID_AA64MMFR2_EL1, AArch64 Memory Model Feature Register 2
unfoldable pub id_aa64mmfr2_rows : List Row
id_aa64mmfr2_rows =
    hidden "cnp" 0 usual
    ∷ hidden "uao" 4 usual
    ∷ hidden "iesb" 12 usual
    ∷ hidden "varange" 16 usual
    ∷ visible "at" 32 usual
    ∷ hidden "fwb" 40 usual
    ∷ hidden "ttl" 48 usual
    ∷ hidden "evt" 56 (may_differ usual)
    ∷ hidden "e0pd" 60 (may_differ usual)
    ∷ []

-- ID_AA64MMFR3_EL1, AArch64 Memory Model Feature Register 3
unfoldable pub id_aa64mmfr3_rows : List Row
id_aa64mmfr3_rows =
    hidden "tcrx" 0 usual
    ∷ hidden "s1pie" 8 usual
    ∷ []

-- CTR_EL0, Cache Type Register
unfoldable pub ctr_rows : List Row
ctr_rows =
    visible "iminline" 0 usual
    ∷ visible "l1ip" 14 (bits 2 (exact (pos 2) (may_differ usual)))
    ∷ visible "dminline" 16 usual
    ∷ visible "erg" 20 (higher_or_zero usual)
    ∷ visible "cwg" 24 (higher_or_zero usual)
    ∷ visible "idc" 28 (bits 1 usual)
    ∷ visible "dic" 29 (bits 1 usual)
    ∷ visible "res1" 31 (bits 1 (exact (pos 1) usual))
    ∷ []

-- DCZID_EL0, Data Cache Zero ID Register
unfoldable pub dczid_rows : List Row
dczid_rows =
    visible "bs" 0 usual
    ∷ visible "dzp" 4 (bits 1 (exact (pos 1) usual))
    ∷ []

-- the rows of a register, in rising shift; the first three registers have none
abbrev pub rows_of : SysReg → List Row
rows_of MidrEl1 = []
rows_of MpidrEl1 = []
rows_of RevidrEl1 = []
rows_of IdAa64Pfr0El1 = id_aa64pfr0_rows
rows_of IdAa64Pfr1El1 = id_aa64pfr1_rows
rows_of IdAa64Zfr0El1 = id_aa64zfr0_rows
rows_of IdAa64Smfr0El1 = id_aa64smfr0_rows
rows_of IdAa64Dfr0El1 = id_aa64dfr0_rows
rows_of IdAa64Isar0El1 = id_aa64isar0_rows
rows_of IdAa64Isar1El1 = id_aa64isar1_rows
rows_of IdAa64Isar2El1 = id_aa64isar2_rows
rows_of IdAa64Mmfr0El1 = id_aa64mmfr0_rows
rows_of IdAa64Mmfr1El1 = id_aa64mmfr1_rows
rows_of IdAa64Mmfr2El1 = id_aa64mmfr2_rows
rows_of IdAa64Mmfr3El1 = id_aa64mmfr3_rows
rows_of CtrEl0 = ctr_rows
rows_of DczidEl0 = dczid_rows
