-- The fields that capabilities and hwcaps ask for, by the names that Linux has for them (arch/arm64/tools/sysreg).
use Prim.Native.String.{String}
use Rattle.std.specs.Prelude.{codes}
use Rattle.std.specs.List.{position_or_len}
use Rattle.armcaps_enc.specs.declared.register.SysReg.{SysReg}
use Rattle.armcaps_enc.specs.declared.register.SysReg.TheVariants.{IdAa64Pfr0El1, IdAa64Pfr1El1, IdAa64Zfr0El1, IdAa64Smfr0El1, IdAa64Isar0El1, IdAa64Isar1El1, IdAa64Isar2El1, IdAa64Mmfr0El1, IdAa64Mmfr1El1, IdAa64Mmfr2El1, IdAa64Mmfr3El1}
use Rattle.armcaps_tables.specs.declared.fields.FieldPlace.{FieldPlace}
use Rattle.armcaps_tables.specs.Facts.{has_name}
use Rattle.armcaps_tables.specs.Rows.{rows_of}

-- the field of a register that has the name: its place in the register's table, past the end where no field has it
abbrev named : SysReg → String → FieldPlace
named reg name = record { reg = reg; index = position_or_len (has_name (codes name)) (rows_of reg) }

-- FP of ID_AA64PFR0_EL1
abbrev pub ID_AA64PFR0_FP : FieldPlace
ID_AA64PFR0_FP = named IdAa64Pfr0El1 "fp"

-- ADVSIMD of ID_AA64PFR0_EL1
abbrev pub ID_AA64PFR0_ADVSIMD : FieldPlace
ID_AA64PFR0_ADVSIMD = named IdAa64Pfr0El1 "advsimd"

-- RAS of ID_AA64PFR0_EL1
abbrev pub ID_AA64PFR0_RAS : FieldPlace
ID_AA64PFR0_RAS = named IdAa64Pfr0El1 "ras"

-- SVE of ID_AA64PFR0_EL1
abbrev pub ID_AA64PFR0_SVE : FieldPlace
ID_AA64PFR0_SVE = named IdAa64Pfr0El1 "sve"

-- DIT of ID_AA64PFR0_EL1
abbrev pub ID_AA64PFR0_DIT : FieldPlace
ID_AA64PFR0_DIT = named IdAa64Pfr0El1 "dit"

-- BT of ID_AA64PFR1_EL1
abbrev pub ID_AA64PFR1_BT : FieldPlace
ID_AA64PFR1_BT = named IdAa64Pfr1El1 "bt"

-- SSBS of ID_AA64PFR1_EL1
abbrev pub ID_AA64PFR1_SSBS : FieldPlace
ID_AA64PFR1_SSBS = named IdAa64Pfr1El1 "ssbs"

-- MTE of ID_AA64PFR1_EL1
abbrev pub ID_AA64PFR1_MTE : FieldPlace
ID_AA64PFR1_MTE = named IdAa64Pfr1El1 "mte"

-- SME of ID_AA64PFR1_EL1
abbrev pub ID_AA64PFR1_SME : FieldPlace
ID_AA64PFR1_SME = named IdAa64Pfr1El1 "sme"

-- SVEVER of ID_AA64ZFR0_EL1
abbrev pub ID_AA64ZFR0_SVEVER : FieldPlace
ID_AA64ZFR0_SVEVER = named IdAa64Zfr0El1 "svever"

-- AES of ID_AA64ZFR0_EL1
abbrev pub ID_AA64ZFR0_AES : FieldPlace
ID_AA64ZFR0_AES = named IdAa64Zfr0El1 "aes"

-- BITPERM of ID_AA64ZFR0_EL1
abbrev pub ID_AA64ZFR0_BITPERM : FieldPlace
ID_AA64ZFR0_BITPERM = named IdAa64Zfr0El1 "bitperm"

-- BF16 of ID_AA64ZFR0_EL1
abbrev pub ID_AA64ZFR0_BF16 : FieldPlace
ID_AA64ZFR0_BF16 = named IdAa64Zfr0El1 "bf16"

-- SHA3 of ID_AA64ZFR0_EL1
abbrev pub ID_AA64ZFR0_SHA3 : FieldPlace
ID_AA64ZFR0_SHA3 = named IdAa64Zfr0El1 "sha3"

-- SM4 of ID_AA64ZFR0_EL1
abbrev pub ID_AA64ZFR0_SM4 : FieldPlace
ID_AA64ZFR0_SM4 = named IdAa64Zfr0El1 "sm4"

-- I8MM of ID_AA64ZFR0_EL1
abbrev pub ID_AA64ZFR0_I8MM : FieldPlace
ID_AA64ZFR0_I8MM = named IdAa64Zfr0El1 "i8mm"

-- F32MM of ID_AA64ZFR0_EL1
abbrev pub ID_AA64ZFR0_F32MM : FieldPlace
ID_AA64ZFR0_F32MM = named IdAa64Zfr0El1 "f32mm"

-- F64MM of ID_AA64ZFR0_EL1
abbrev pub ID_AA64ZFR0_F64MM : FieldPlace
ID_AA64ZFR0_F64MM = named IdAa64Zfr0El1 "f64mm"

-- FA64 of ID_AA64SMFR0_EL1
abbrev pub ID_AA64SMFR0_FA64 : FieldPlace
ID_AA64SMFR0_FA64 = named IdAa64Smfr0El1 "fa64"

-- AES of ID_AA64ISAR0_EL1
abbrev pub ID_AA64ISAR0_AES : FieldPlace
ID_AA64ISAR0_AES = named IdAa64Isar0El1 "aes"

-- SHA1 of ID_AA64ISAR0_EL1
abbrev pub ID_AA64ISAR0_SHA1 : FieldPlace
ID_AA64ISAR0_SHA1 = named IdAa64Isar0El1 "sha1"

-- SHA2 of ID_AA64ISAR0_EL1
abbrev pub ID_AA64ISAR0_SHA2 : FieldPlace
ID_AA64ISAR0_SHA2 = named IdAa64Isar0El1 "sha2"

-- CRC32 of ID_AA64ISAR0_EL1
abbrev pub ID_AA64ISAR0_CRC32 : FieldPlace
ID_AA64ISAR0_CRC32 = named IdAa64Isar0El1 "crc32"

-- ATOMIC of ID_AA64ISAR0_EL1
abbrev pub ID_AA64ISAR0_ATOMIC : FieldPlace
ID_AA64ISAR0_ATOMIC = named IdAa64Isar0El1 "atomic"

-- RDM of ID_AA64ISAR0_EL1
abbrev pub ID_AA64ISAR0_RDM : FieldPlace
ID_AA64ISAR0_RDM = named IdAa64Isar0El1 "rdm"

-- SHA3 of ID_AA64ISAR0_EL1
abbrev pub ID_AA64ISAR0_SHA3 : FieldPlace
ID_AA64ISAR0_SHA3 = named IdAa64Isar0El1 "sha3"

-- SM3 of ID_AA64ISAR0_EL1
abbrev pub ID_AA64ISAR0_SM3 : FieldPlace
ID_AA64ISAR0_SM3 = named IdAa64Isar0El1 "sm3"

-- SM4 of ID_AA64ISAR0_EL1
abbrev pub ID_AA64ISAR0_SM4 : FieldPlace
ID_AA64ISAR0_SM4 = named IdAa64Isar0El1 "sm4"

-- DP of ID_AA64ISAR0_EL1
abbrev pub ID_AA64ISAR0_DP : FieldPlace
ID_AA64ISAR0_DP = named IdAa64Isar0El1 "dp"

-- FHM of ID_AA64ISAR0_EL1
abbrev pub ID_AA64ISAR0_FHM : FieldPlace
ID_AA64ISAR0_FHM = named IdAa64Isar0El1 "fhm"

-- TS of ID_AA64ISAR0_EL1
abbrev pub ID_AA64ISAR0_TS : FieldPlace
ID_AA64ISAR0_TS = named IdAa64Isar0El1 "ts"

-- TLB of ID_AA64ISAR0_EL1
abbrev pub ID_AA64ISAR0_TLB : FieldPlace
ID_AA64ISAR0_TLB = named IdAa64Isar0El1 "tlb"

-- RNDR of ID_AA64ISAR0_EL1
abbrev pub ID_AA64ISAR0_RNDR : FieldPlace
ID_AA64ISAR0_RNDR = named IdAa64Isar0El1 "rndr"

-- DPB of ID_AA64ISAR1_EL1
abbrev pub ID_AA64ISAR1_DPB : FieldPlace
ID_AA64ISAR1_DPB = named IdAa64Isar1El1 "dpb"

-- APA of ID_AA64ISAR1_EL1
abbrev pub ID_AA64ISAR1_APA : FieldPlace
ID_AA64ISAR1_APA = named IdAa64Isar1El1 "apa"

-- API of ID_AA64ISAR1_EL1
abbrev pub ID_AA64ISAR1_API : FieldPlace
ID_AA64ISAR1_API = named IdAa64Isar1El1 "api"

-- JSCVT of ID_AA64ISAR1_EL1
abbrev pub ID_AA64ISAR1_JSCVT : FieldPlace
ID_AA64ISAR1_JSCVT = named IdAa64Isar1El1 "jscvt"

-- FCMA of ID_AA64ISAR1_EL1
abbrev pub ID_AA64ISAR1_FCMA : FieldPlace
ID_AA64ISAR1_FCMA = named IdAa64Isar1El1 "fcma"

-- LRCPC of ID_AA64ISAR1_EL1
abbrev pub ID_AA64ISAR1_LRCPC : FieldPlace
ID_AA64ISAR1_LRCPC = named IdAa64Isar1El1 "lrcpc"

-- GPA of ID_AA64ISAR1_EL1
abbrev pub ID_AA64ISAR1_GPA : FieldPlace
ID_AA64ISAR1_GPA = named IdAa64Isar1El1 "gpa"

-- GPI of ID_AA64ISAR1_EL1
abbrev pub ID_AA64ISAR1_GPI : FieldPlace
ID_AA64ISAR1_GPI = named IdAa64Isar1El1 "gpi"

-- FRINTTS of ID_AA64ISAR1_EL1
abbrev pub ID_AA64ISAR1_FRINTTS : FieldPlace
ID_AA64ISAR1_FRINTTS = named IdAa64Isar1El1 "frintts"

-- SB of ID_AA64ISAR1_EL1
abbrev pub ID_AA64ISAR1_SB : FieldPlace
ID_AA64ISAR1_SB = named IdAa64Isar1El1 "sb"

-- BF16 of ID_AA64ISAR1_EL1
abbrev pub ID_AA64ISAR1_BF16 : FieldPlace
ID_AA64ISAR1_BF16 = named IdAa64Isar1El1 "bf16"

-- DGH of ID_AA64ISAR1_EL1
abbrev pub ID_AA64ISAR1_DGH : FieldPlace
ID_AA64ISAR1_DGH = named IdAa64Isar1El1 "dgh"

-- I8MM of ID_AA64ISAR1_EL1
abbrev pub ID_AA64ISAR1_I8MM : FieldPlace
ID_AA64ISAR1_I8MM = named IdAa64Isar1El1 "i8mm"

-- WFXT of ID_AA64ISAR2_EL1
abbrev pub ID_AA64ISAR2_WFXT : FieldPlace
ID_AA64ISAR2_WFXT = named IdAa64Isar2El1 "wfxt"

-- RPRES of ID_AA64ISAR2_EL1
abbrev pub ID_AA64ISAR2_RPRES : FieldPlace
ID_AA64ISAR2_RPRES = named IdAa64Isar2El1 "rpres"

-- GPA3 of ID_AA64ISAR2_EL1
abbrev pub ID_AA64ISAR2_GPA3 : FieldPlace
ID_AA64ISAR2_GPA3 = named IdAa64Isar2El1 "gpa3"

-- APA3 of ID_AA64ISAR2_EL1
abbrev pub ID_AA64ISAR2_APA3 : FieldPlace
ID_AA64ISAR2_APA3 = named IdAa64Isar2El1 "apa3"

-- MOPS of ID_AA64ISAR2_EL1
abbrev pub ID_AA64ISAR2_MOPS : FieldPlace
ID_AA64ISAR2_MOPS = named IdAa64Isar2El1 "mops"

-- FGT of ID_AA64MMFR0_EL1
abbrev pub ID_AA64MMFR0_FGT : FieldPlace
ID_AA64MMFR0_FGT = named IdAa64Mmfr0El1 "fgt"

-- ECV of ID_AA64MMFR0_EL1
abbrev pub ID_AA64MMFR0_ECV : FieldPlace
ID_AA64MMFR0_ECV = named IdAa64Mmfr0El1 "ecv"

-- HAFDBS of ID_AA64MMFR1_EL1
abbrev pub ID_AA64MMFR1_HAFDBS : FieldPlace
ID_AA64MMFR1_HAFDBS = named IdAa64Mmfr1El1 "hafdbs"

-- PAN of ID_AA64MMFR1_EL1
abbrev pub ID_AA64MMFR1_PAN : FieldPlace
ID_AA64MMFR1_PAN = named IdAa64Mmfr1El1 "pan"

-- HCX of ID_AA64MMFR1_EL1
abbrev pub ID_AA64MMFR1_HCX : FieldPlace
ID_AA64MMFR1_HCX = named IdAa64Mmfr1El1 "hcx"

-- AFP of ID_AA64MMFR1_EL1
abbrev pub ID_AA64MMFR1_AFP : FieldPlace
ID_AA64MMFR1_AFP = named IdAa64Mmfr1El1 "afp"

-- TIDCP1 of ID_AA64MMFR1_EL1
abbrev pub ID_AA64MMFR1_TIDCP1 : FieldPlace
ID_AA64MMFR1_TIDCP1 = named IdAa64Mmfr1El1 "tidcp1"

-- CNP of ID_AA64MMFR2_EL1
abbrev pub ID_AA64MMFR2_CNP : FieldPlace
ID_AA64MMFR2_CNP = named IdAa64Mmfr2El1 "cnp"

-- AT of ID_AA64MMFR2_EL1
abbrev pub ID_AA64MMFR2_AT : FieldPlace
ID_AA64MMFR2_AT = named IdAa64Mmfr2El1 "at"

-- FWB of ID_AA64MMFR2_EL1
abbrev pub ID_AA64MMFR2_FWB : FieldPlace
ID_AA64MMFR2_FWB = named IdAa64Mmfr2El1 "fwb"

-- TTL of ID_AA64MMFR2_EL1
abbrev pub ID_AA64MMFR2_TTL : FieldPlace
ID_AA64MMFR2_TTL = named IdAa64Mmfr2El1 "ttl"

-- EVT of ID_AA64MMFR2_EL1
abbrev pub ID_AA64MMFR2_EVT : FieldPlace
ID_AA64MMFR2_EVT = named IdAa64Mmfr2El1 "evt"

-- E0PD of ID_AA64MMFR2_EL1
abbrev pub ID_AA64MMFR2_E0PD : FieldPlace
ID_AA64MMFR2_E0PD = named IdAa64Mmfr2El1 "e0pd"

-- TCRX of ID_AA64MMFR3_EL1
abbrev pub ID_AA64MMFR3_TCRX : FieldPlace
ID_AA64MMFR3_TCRX = named IdAa64Mmfr3El1 "tcrx"

-- S1PIE of ID_AA64MMFR3_EL1
abbrev pub ID_AA64MMFR3_S1PIE : FieldPlace
ID_AA64MMFR3_S1PIE = named IdAa64Mmfr3El1 "s1pie"
