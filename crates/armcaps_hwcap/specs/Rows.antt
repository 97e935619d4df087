-- The hwcaps in the order in which reports list them. Their names and bits are those of Linux
-- (arch/arm64/include/uapi/asm/hwcap.h); the least values of the fields are this project's profile after
-- arch/arm64/kernel/cpufeature.c, `arm64_elf_hwcaps`. A line has the word, the name, the bit and the fields. Fields are
-- named as in the tables of the registers.
use Rattle.std.specs.Prelude.{ℕ, pos, Bool, true, false, List, [], ◌∷◌, codes}
use Prim.Native.String.{String}
use Rattle.armcaps_tables.specs.declared.fields.FieldPlace.{FieldPlace}
use Rattle.armcaps_tables.specs.FieldNames.{ID_AA64ISAR0_AES, ID_AA64ISAR0_ATOMIC, ID_AA64ISAR0_CRC32, ID_AA64ISAR0_DP, ID_AA64ISAR0_FHM, ID_AA64ISAR0_RDM, ID_AA64ISAR0_RNDR, ID_AA64ISAR0_SHA1, ID_AA64ISAR0_SHA2, ID_AA64ISAR0_SHA3, ID_AA64ISAR0_SM3, ID_AA64ISAR0_SM4, ID_AA64ISAR0_TS, ID_AA64ISAR1_APA, ID_AA64ISAR1_API, ID_AA64ISAR1_BF16, ID_AA64ISAR1_DGH, ID_AA64ISAR1_DPB, ID_AA64ISAR1_FCMA, ID_AA64ISAR1_FRINTTS, ID_AA64ISAR1_GPA, ID_AA64ISAR1_GPI, ID_AA64ISAR1_I8MM, ID_AA64ISAR1_JSCVT, ID_AA64ISAR1_LRCPC, ID_AA64ISAR1_SB, ID_AA64ISAR2_APA3, ID_AA64ISAR2_GPA3, ID_AA64ISAR2_MOPS, ID_AA64ISAR2_RPRES, ID_AA64ISAR2_WFXT, ID_AA64MMFR0_ECV, ID_AA64MMFR1_AFP, ID_AA64MMFR2_AT, ID_AA64PFR0_ADVSIMD, ID_AA64PFR0_DIT, ID_AA64PFR0_FP, ID_AA64PFR0_SVE, ID_AA64PFR1_BT, ID_AA64PFR1_MTE, ID_AA64PFR1_SME, ID_AA64PFR1_SSBS, ID_AA64ZFR0_AES, ID_AA64ZFR0_BF16, ID_AA64ZFR0_BITPERM, ID_AA64ZFR0_F32MM, ID_AA64ZFR0_F64MM, ID_AA64ZFR0_I8MM, ID_AA64ZFR0_SHA3, ID_AA64ZFR0_SM4, ID_AA64ZFR0_SVEVER}
use Rattle.armcaps_hwcap.specs.declared.row.HwField.{HwField}
use Rattle.armcaps_hwcap.specs.Row.{Row}

-- a row stands in the first word, AT_HWCAP
abbrev hwcap : Bool
hwcap = false

-- a row stands in the second word, AT_HWCAP2
abbrev hwcap2 : Bool
hwcap2 = true

-- a field, and the least value of it that counts
abbrev field : FieldPlace → ℕ → HwField
field place minimum = record { reg = place.reg; index = place.index; min = pos minimum }

-- a row of its parts
abbrev row : Bool → String → ℕ → List HwField → Row
row second name bit fields = record { name = codes name; second = second; bit = bit; always = false; fields = fields }

-- a row that every machine has
abbrev always : Bool → String → ℕ → Row
always second name bit = record { name = codes name; second = second; bit = bit; always = true; fields = [] }

-- how many hwcaps there are
abbrev pub hwcap_count : ℕ
hwcap_count = 57

-- the hwcaps in their order
unfoldable pub hwcap_rows : List Row
hwcap_rows =
    row hwcap "fp" 0 (field ID_AA64PFR0_FP 0 ∷ [])
    ∷ row hwcap "asimd" 1 (field ID_AA64PFR0_ADVSIMD 0 ∷ [])
    ∷ row hwcap "aes" 3 (field ID_AA64ISAR0_AES 1 ∷ [])
    ∷ row hwcap "pmull" 4 (field ID_AA64ISAR0_AES 2 ∷ [])
    ∷ row hwcap "sha1" 5 (field ID_AA64ISAR0_SHA1 1 ∷ [])
    ∷ row hwcap "sha2" 6 (field ID_AA64ISAR0_SHA2 1 ∷ [])
    ∷ row hwcap "crc32" 7 (field ID_AA64ISAR0_CRC32 1 ∷ [])
    ∷ row hwcap "atomics" 8 (field ID_AA64ISAR0_ATOMIC 2 ∷ [])
    ∷ row hwcap "fphp" 9 (field ID_AA64PFR0_FP 1 ∷ [])
    ∷ row hwcap "asimdhp" 10 (field ID_AA64PFR0_ADVSIMD 1 ∷ [])
    ∷ always hwcap "cpuid" 11
    ∷ row hwcap "asimdrdm" 12 (field ID_AA64ISAR0_RDM 1 ∷ [])
    ∷ row hwcap "jscvt" 13 (field ID_AA64ISAR1_JSCVT 1 ∷ [])
    ∷ row hwcap "fcma" 14 (field ID_AA64ISAR1_FCMA 1 ∷ [])
    ∷ row hwcap "lrcpc" 15 (field ID_AA64ISAR1_LRCPC 1 ∷ [])
    ∷ row hwcap "dcpop" 16 (field ID_AA64ISAR1_DPB 1 ∷ [])
    ∷ row hwcap "sha3" 17 (field ID_AA64ISAR0_SHA3 1 ∷ [])
    ∷ row hwcap "sm3" 18 (field ID_AA64ISAR0_SM3 1 ∷ [])
    ∷ row hwcap "sm4" 19 (field ID_AA64ISAR0_SM4 1 ∷ [])
    ∷ row hwcap "asimddp" 20 (field ID_AA64ISAR0_DP 1 ∷ [])
    ∷ row hwcap "sha512" 21 (field ID_AA64ISAR0_SHA2 2 ∷ [])
    ∷ row hwcap "sve" 22 (field ID_AA64PFR0_SVE 1 ∷ [])
    ∷ row hwcap "asimdfhm" 23 (field ID_AA64ISAR0_FHM 1 ∷ [])
    ∷ row hwcap "dit" 24 (field ID_AA64PFR0_DIT 1 ∷ [])
    ∷ row hwcap "uscat" 25 (field ID_AA64MMFR2_AT 1 ∷ [])
    ∷ row hwcap "ilrcpc" 26 (field ID_AA64ISAR1_LRCPC 2 ∷ [])
    ∷ row hwcap "flagm" 27 (field ID_AA64ISAR0_TS 1 ∷ [])
    ∷ row hwcap "ssbs" 28 (field ID_AA64PFR1_SSBS 2 ∷ [])
    ∷ row hwcap "sb" 29 (field ID_AA64ISAR1_SB 1 ∷ [])
    ∷ row hwcap "paca" 30 (field ID_AA64ISAR1_APA 1 ∷ field ID_AA64ISAR2_APA3 1 ∷ field ID_AA64ISAR1_API 1 ∷ [])
    ∷ row hwcap "pacg" 31 (field ID_AA64ISAR1_GPA 1 ∷ field ID_AA64ISAR2_GPA3 1 ∷ field ID_AA64ISAR1_GPI 1 ∷ [])
    ∷ row hwcap2 "dcpodp" 0 (field ID_AA64ISAR1_DPB 2 ∷ [])
    ∷ row hwcap2 "sve2" 1 (field ID_AA64ZFR0_SVEVER 1 ∷ [])
    ∷ row hwcap2 "sveaes" 2 (field ID_AA64ZFR0_AES 1 ∷ [])
    ∷ row hwcap2 "svepmull" 3 (field ID_AA64ZFR0_AES 2 ∷ [])
    ∷ row hwcap2 "svebitperm" 4 (field ID_AA64ZFR0_BITPERM 1 ∷ [])
    ∷ row hwcap2 "svesha3" 5 (field ID_AA64ZFR0_SHA3 1 ∷ [])
    ∷ row hwcap2 "svesm4" 6 (field ID_AA64ZFR0_SM4 1 ∷ [])
    ∷ row hwcap2 "flagm2" 7 (field ID_AA64ISAR0_TS 2 ∷ [])
    ∷ row hwcap2 "frint" 8 (field ID_AA64ISAR1_FRINTTS 1 ∷ [])
    ∷ row hwcap2 "svei8mm" 9 (field ID_AA64ZFR0_I8MM 1 ∷ [])
    ∷ row hwcap2 "svef32mm" 10 (field ID_AA64ZFR0_F32MM 1 ∷ [])
    ∷ row hwcap2 "svef64mm" 11 (field ID_AA64ZFR0_F64MM 1 ∷ [])
    ∷ row hwcap2 "svebf16" 12 (field ID_AA64ZFR0_BF16 1 ∷ [])
    ∷ row hwcap2 "i8mm" 13 (field ID_AA64ISAR1_I8MM 1 ∷ [])
    ∷ row hwcap2 "bf16" 14 (field ID_AA64ISAR1_BF16 1 ∷ [])
    ∷ row hwcap2 "dgh" 15 (field ID_AA64ISAR1_DGH 1 ∷ [])
    ∷ row hwcap2 "rng" 16 (field ID_AA64ISAR0_RNDR 1 ∷ [])
    ∷ row hwcap2 "bti" 17 (field ID_AA64PFR1_BT 1 ∷ [])
    ∷ row hwcap2 "mte" 18 (field ID_AA64PFR1_MTE 2 ∷ [])
    ∷ row hwcap2 "ecv" 19 (field ID_AA64MMFR0_ECV 1 ∷ [])
    ∷ row hwcap2 "afp" 20 (field ID_AA64MMFR1_AFP 1 ∷ [])
    ∷ row hwcap2 "rpres" 21 (field ID_AA64ISAR2_RPRES 1 ∷ [])
    ∷ row hwcap2 "mte3" 22 (field ID_AA64PFR1_MTE 3 ∷ [])
    ∷ row hwcap2 "sme" 23 (field ID_AA64PFR1_SME 1 ∷ [])
    ∷ row hwcap2 "wfxt" 31 (field ID_AA64ISAR2_WFXT 2 ∷ [])
    ∷ row hwcap2 "mops" 43 (field ID_AA64ISAR2_MOPS 1 ∷ [])
    ∷ []
