-- Why a core is not admitted, and what is decided over the cores that came before finalisation (Linux,
-- arch/arm64/kernel/cpufeature.c, `check_early_cpu_features`, `verify_local_cpu_capabilities` and
-- `setup_cpu_features`).
use Rattle.std.specs.Prelude.{ℕ, ◌-◌, ◌<◌, ◌==◌, Bool, not, ◌&&◌, if◌then◌else◌, nat_lt, List, Option, Some}
use Rattle.std.specs.List.{list_any, list_all}
use Rattle.std.specs.Option.{option_map, option_or}
use Rattle.std.specs.Int.{bit_at}
use Rattle.armcaps_bits.specs.Field.{unsigned_field}
use Rattle.armcaps_enc.specs.declared.register.SysReg.TheVariants.{IdAa64Mmfr0El1, CtrEl0}
use Rattle.armcaps_tables.specs.Core.{Core, core_word}
use Rattle.armcaps_board.specs.Board.{Board, boot_core, core_at}
use Rattle.armcaps_caps.specs.Capabilities.{core_has_capability, capability_over, conflicts, is_boot_scope, is_local_scope}
use Rattle.armcaps_hwcap.specs.Hwcaps.{core_has_hwcap, hwcap_over}
use Rattle.armcaps_caps.specs.Rows.{capability_count}
use Rattle.armcaps_hwcap.specs.Rows.{hwcap_count}
use Rattle.armcaps_boot.specs.declared.cause.Cause.{Cause}
use Rattle.armcaps_boot.specs.declared.cause.Cause.TheVariants.{Asid, Cap, Hwcap, Vector}
use Rattle.armcaps_boot.specs.Numbers.{first_of}

-- the number of a core's ASID bits (Arm ARM DDI 0487, ID_AA64MMFR0_EL1, ASIDBits): 2 means 16, and any other value
-- counts as 8, which is this project's own rule
abbrev pub asid_bits : Core → ℕ
asid_bits core = if unsigned_field 4 4 (core_word core IdAa64Mmfr0El1) == 2 then 16 else 8

-- whether a core has a capability; its cache type is compared with the boot core's
abbrev pub has_capability : Board → Core → ℕ → Bool
has_capability board core number =
    core_has_capability board.overrides (boot_core board) (core_word (boot_core board) CtrEl0) core number

-- whether a capability is enabled: where it is of boot scope by the boot core alone, where it is local by some early
-- core, and else by what all early cores have in common
unfoldable pub capability_enabled : Board → List Core → ℕ → Bool
capability_enabled board early number =
    if is_boot_scope number then has_capability board (boot_core board) number
    else if is_local_scope number then list_any (λ core. has_capability board core number) early
    else capability_over board.overrides early number

-- whether a hwcap is advertised: by what all early cores have in common
abbrev pub hwcap_advertised : Board → List Core → ℕ → Bool
hwcap_advertised board early index = hwcap_over board.overrides early index

-- whether vectors of `length` times 128 bits are among some lengths, where bit 0 stands for 1: asked of 1 to 16 alone
abbrev pub has_length : ℕ → ℕ → Bool
has_length lengths length = bit_at lengths (length - 1) == 1

-- the number of the capability SVE
abbrev pub sve_capability : ℕ
sve_capability = 36

-- whether vectors of `length` times 128 bits are told to programs: where SVE is enabled and every early core has
-- them: a rule of this project's own, in outline after Linux's
abbrev pub is_system_length : Board → List Core → ℕ → Bool
is_system_length board early length =
    capability_enabled board early sve_capability && list_all (λ core. has_length core.lengths length) early

-- the first capability of those in a scope with which a core is in conflict
abbrev pub first_conflict : (ℕ → Bool) → (ℕ → Bool) → (ℕ → Bool) → Option ℕ
first_conflict scope enabled has =
    first_of 0 capability_count (λ number. scope number && conflicts number (enabled number) (has number))

-- fewer ASID bits than the boot core's, or else the capability with which a core is in conflict
abbrev pub cause_of_check : Core → Core → Option ℕ → Option Cause
cause_of_check boot core conflict =
    if nat_lt (asid_bits core) (asid_bits boot) then Some Asid else option_map Cap conflict

-- the cause at the check: why a core is held back at its check, by the boot core alone: it has fewer ASID bits, or
-- else there is a first capability of boot scope with which it is in conflict
unfoldable pub cause_at_check : Board → ℕ → Option Cause
cause_at_check board number =
    cause_of_check (boot_core board) (core_at board.cores number)
    (first_conflict is_boot_scope
    (has_capability board (boot_core board)) (has_capability board (core_at board.cores number)))

-- a capability with which a core is in conflict, or else a hwcap that it lacks, or else a vector length that it lacks
abbrev pub cause_of_lack : Option ℕ → Option ℕ → Option ℕ → Option Cause
cause_of_lack conflict hwcap length =
    option_or (option_map Cap conflict) (option_or (option_map Hwcap hwcap) (option_map Vector length))

-- the first number, of so many from one on, of which programs are told and which a core does not have
abbrev pub first_lacking : ℕ → ℕ → (ℕ → Bool) → (ℕ → Bool) → Option ℕ
first_lacking from count told has = first_of from count (λ number. told number && not (has number))

-- why a core that is verified does not fit a system that has these capabilities, hwcaps and vector lengths: the first
-- capability of another scope than boot with which it is in conflict, or else the first hwcap that it lacks, or else
-- the first vector length
unfoldable pub misfit : (ℕ → Bool) → (ℕ → Bool) → (ℕ → Bool) → Board → Core → Option Cause
misfit enabled advertised told board core =
    cause_of_lack (first_conflict (λ number. not (is_boot_scope number)) enabled (has_capability board core))
    (first_lacking 0 hwcap_count advertised (core_has_hwcap board.overrides core))
    (first_lacking 1 16 told (has_length core.lengths))

-- the cause at verification: why a core is held back that is verified after finalisation, by what the early cores
-- decided
abbrev pub cause_at_verification : Board → List Core → ℕ → Option Cause
cause_at_verification board early number =
    misfit (capability_enabled board early) (hwcap_advertised board early) (is_system_length board early)
    board (core_at board.cores number)

-- a capability that a cause names is in the table
abbrev pub IsNumbered : Cause → Type 0
IsNumbered (Cap number) = number < capability_count
IsNumbered _ = Unit {0}
