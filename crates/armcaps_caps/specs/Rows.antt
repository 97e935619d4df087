-- The capabilities in the order of their numbers. Which are listed, their numbers, classes and least values are this
-- project's profile after Linux, arch/arm64/kernel/cpufeature.c, `arm64_features`, and arch/arm64/kernel/cpu_errata.c,
-- `arm64_errata`. A line has the number, the name, the class and the test. Fields are named as in the tables of the
-- registers.
use Rattle.std.specs.Prelude.{ℕ, pos, List, [], ◌∷◌, codes}
use Prim.Native.String.{String}
use Rattle.armcaps_tables.specs.declared.fields.FieldPlace.{FieldPlace}
use Rattle.armcaps_tables.specs.FieldNames.{ID_AA64ISAR0_ATOMIC, ID_AA64ISAR0_CRC32, ID_AA64ISAR0_RNDR, ID_AA64ISAR0_TLB, ID_AA64ISAR1_APA, ID_AA64ISAR1_API, ID_AA64ISAR1_DPB, ID_AA64ISAR1_GPA, ID_AA64ISAR1_GPI, ID_AA64ISAR1_LRCPC, ID_AA64ISAR1_SB, ID_AA64ISAR2_APA3, ID_AA64ISAR2_GPA3, ID_AA64ISAR2_MOPS, ID_AA64ISAR2_WFXT, ID_AA64MMFR0_ECV, ID_AA64MMFR0_FGT, ID_AA64MMFR1_HAFDBS, ID_AA64MMFR1_HCX, ID_AA64MMFR1_PAN, ID_AA64MMFR1_TIDCP1, ID_AA64MMFR2_CNP, ID_AA64MMFR2_E0PD, ID_AA64MMFR2_EVT, ID_AA64MMFR2_FWB, ID_AA64MMFR2_TTL, ID_AA64MMFR3_S1PIE, ID_AA64MMFR3_TCRX, ID_AA64PFR0_DIT, ID_AA64PFR0_FP, ID_AA64PFR0_RAS, ID_AA64PFR0_SVE, ID_AA64PFR1_BT, ID_AA64PFR1_MTE, ID_AA64PFR1_SME, ID_AA64PFR1_SSBS, ID_AA64SMFR0_FA64}
use Rattle.armcaps_caps.specs.declared.cap_row.Test.{Test}
use Rattle.armcaps_caps.specs.declared.cap_row.Test.TheVariants.{Always, AtLeast, SameAsBoot, Erratum, CacheType}
use Rattle.armcaps_caps.specs.Class.{Class, system_feature, erratum, weak_local_feature, boot_feature, strict_boot_feature}
use Rattle.armcaps_caps.specs.Row.{Row}

-- every core has it
abbrev always : Test
always = Always

-- a core has it where its field is at least the minimum
abbrev at_least : FieldPlace → ℕ → Test
at_least field minimum = AtLeast field.reg field.index (pos minimum)

-- a core has it where its field is at least the minimum and as the boot core's
abbrev same_as_boot : FieldPlace → ℕ → Test
same_as_boot field minimum = SameAsBoot field.reg field.index (pos minimum)

-- a core has it where it has the erratum at this place of the table of errata
abbrev erratum_at : ℕ → Test
erratum_at index = Erratum index

-- a core has it where its cache type is not the one compared with
abbrev cache_type : Test
cache_type = CacheType

-- a row of its parts
abbrev row : ℕ → String → Class → Test → Row
row number name class test = record { number = number; name = codes name; class = class; test = test }

-- how many capabilities there are
abbrev pub capability_count : ℕ
capability_count = 53

-- the capabilities in the order of their numbers
unfoldable pub capability_rows : List Row
capability_rows =
    row 0 "ALWAYS_BOOT" boot_feature always
    ∷ row 1 "ALWAYS_SYSTEM" system_feature always
    ∷ row 2 "HAS_ADDRESS_AUTH_ARCH_QARMA5" boot_feature (same_as_boot ID_AA64ISAR1_APA 1)
    ∷ row 3 "HAS_ADDRESS_AUTH_ARCH_QARMA3" boot_feature (same_as_boot ID_AA64ISAR2_APA3 1)
    ∷ row 4 "HAS_ADDRESS_AUTH_IMP_DEF" boot_feature (same_as_boot ID_AA64ISAR1_API 1)
    ∷ row 5 "MTE" strict_boot_feature (at_least ID_AA64PFR1_MTE 2)
    ∷ row 6 "MTE_ASYMM" boot_feature (at_least ID_AA64PFR1_MTE 3)
    ∷ row 7 "HAS_LSE_ATOMICS" system_feature (at_least ID_AA64ISAR0_ATOMIC 2)
    ∷ row 8 "HAS_CRC32" system_feature (at_least ID_AA64ISAR0_CRC32 1)
    ∷ row 9 "HAS_RNG" system_feature (at_least ID_AA64ISAR0_RNDR 1)
    ∷ row 10 "HAS_TLB_RANGE" system_feature (at_least ID_AA64ISAR0_TLB 2)
    ∷ row 11 "HAS_DCPOP" system_feature (at_least ID_AA64ISAR1_DPB 1)
    ∷ row 12 "HAS_DCPODP" system_feature (at_least ID_AA64ISAR1_DPB 2)
    ∷ row 13 "HAS_LDAPR" system_feature (at_least ID_AA64ISAR1_LRCPC 1)
    ∷ row 14 "HAS_SB" system_feature (at_least ID_AA64ISAR1_SB 1)
    ∷ row 15 "HAS_GENERIC_AUTH_ARCH_QARMA5" system_feature (at_least ID_AA64ISAR1_GPA 1)
    ∷ row 16 "HAS_GENERIC_AUTH_ARCH_QARMA3" system_feature (at_least ID_AA64ISAR2_GPA3 1)
    ∷ row 17 "HAS_GENERIC_AUTH_IMP_DEF" system_feature (at_least ID_AA64ISAR1_GPI 1)
    ∷ row 18 "HAS_WFXT" system_feature (at_least ID_AA64ISAR2_WFXT 2)
    ∷ row 19 "HAS_MOPS" system_feature (at_least ID_AA64ISAR2_MOPS 1)
    ∷ row 20 "HAS_PAN" system_feature (at_least ID_AA64MMFR1_PAN 1)
    ∷ row 21 "HAS_EPAN" system_feature (at_least ID_AA64MMFR1_PAN 3)
    ∷ row 22 "HW_DBM" weak_local_feature (at_least ID_AA64MMFR1_HAFDBS 2)
    ∷ row 23 "HAS_CNP" system_feature (at_least ID_AA64MMFR2_CNP 1)
    ∷ row 24 "HAS_ARMv8_4_TTL" system_feature (at_least ID_AA64MMFR2_TTL 1)
    ∷ row 25 "HAS_STAGE2_FWB" system_feature (at_least ID_AA64MMFR2_FWB 1)
    ∷ row 26 "HAS_EVT" system_feature (at_least ID_AA64MMFR2_EVT 2)
    ∷ row 27 "HAS_E0PD" system_feature (at_least ID_AA64MMFR2_E0PD 1)
    ∷ row 28 "HAS_FGT" system_feature (at_least ID_AA64MMFR0_FGT 1)
    ∷ row 29 "HAS_ECV_CNTPOFF" system_feature (at_least ID_AA64MMFR0_ECV 2)
    ∷ row 30 "HAS_HCX" strict_boot_feature (at_least ID_AA64MMFR1_HCX 1)
    ∷ row 31 "HAS_TIDCP1" system_feature (at_least ID_AA64MMFR1_TIDCP1 1)
    ∷ row 32 "HAS_TCR2" system_feature (at_least ID_AA64MMFR3_TCRX 1)
    ∷ row 33 "HAS_S1PIE" boot_feature (at_least ID_AA64MMFR3_S1PIE 1)
    ∷ row 34 "HAS_RAS_EXTN" system_feature (at_least ID_AA64PFR0_RAS 1)
    ∷ row 35 "HAS_DIT" system_feature (at_least ID_AA64PFR0_DIT 1)
    ∷ row 36 "SVE" system_feature (at_least ID_AA64PFR0_SVE 1)
    ∷ row 37 "SME" system_feature (at_least ID_AA64PFR1_SME 1)
    ∷ row 38 "SME_FA64" system_feature (at_least ID_AA64SMFR0_FA64 1)
    ∷ row 39 "BTI" strict_boot_feature (at_least ID_AA64PFR1_BT 1)
    ∷ row 40 "SSBS" system_feature (at_least ID_AA64PFR1_SSBS 1)
    ∷ row 41 "HAS_FPSIMD" system_feature (at_least ID_AA64PFR0_FP 0)
    ∷ row 42 "MISMATCHED_CACHE_TYPE" erratum cache_type
    ∷ row 43 "WORKAROUND_843419" erratum (erratum_at 0)
    ∷ row 44 "WORKAROUND_845719" erratum (erratum_at 1)
    ∷ row 45 "WORKAROUND_CLEAN_CACHE" erratum (erratum_at 2)
    ∷ row 46 "WORKAROUND_832075" erratum (erratum_at 3)
    ∷ row 47 "WORKAROUND_834220" erratum (erratum_at 4)
    ∷ row 48 "WORKAROUND_858921" erratum (erratum_at 5)
    ∷ row 49 "WORKAROUND_REPEAT_TLBI" erratum (erratum_at 6)
    ∷ row 50 "WORKAROUND_SPECULATIVE_AT" erratum (erratum_at 7)
    ∷ row 51 "WORKAROUND_1463225" erratum (erratum_at 8)
    ∷ row 52 "WORKAROUND_1508412" erratum (erratum_at 9)
    ∷ []
