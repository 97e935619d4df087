-- What can be relied on once the steps of a board are made (Linux, arch/arm64/kernel/cpufeature.c,
-- `verify_local_cpu_caps`).
use Rattle.std.specs.Prelude.{◌≡◌, ◌<◌, ◌⊎◌, ℕ, Bool, true, false, List, length, Some, None, is_some}
use Rattle.armcaps_caps.specs.Capabilities.{is_workaround, is_system_scope}
use Rattle.armcaps_boot.specs.declared.cause.Cause.{Cause}
use Rattle.armcaps_boot.specs.declared.core_state.CoreState.TheVariants.{Parked}
use Rattle.armcaps_board.specs.declared.event.Event.{Event}
use Rattle.armcaps_board.specs.Board.{Board, core_at}
use Rattle.armcaps_boot.specs.Admission.{came_early, early_cores_after, has_come, is_among_admitted}
use Rattle.armcaps_boot.specs.After.{state_of}
use Rattle.armcaps_boot.specs.Causes.{capability_enabled, cause_at_check, cause_at_verification, has_capability}
use Rattle.armcaps_board.specs.Steps.{last_step}

-- whether a capability is enabled over the early cores after these steps
abbrev pub is_enabled_after : Board → List Event → ℕ → Bool
is_enabled_after board steps number = capability_enabled board (early_cores_after board steps) number

-- a core that came late has no cause at its check, and this is its cause at verification
pub record IsFirstAtVerification (board : Board) (steps : List Event) (core : ℕ) (cause : Cause) : Type 0 where
  pub came : has_come core steps ≡ true
  pub late : came_early core steps ≡ false
  pub none_at_check : cause_at_check board core ≡ None
  pub at_verification : cause_at_verification board (early_cores_after board steps) core ≡ Some cause

-- the first cause of a core: its cause at the check, or where it has none and came late its cause at verification
abbrev pub IsFirstCause : Board → List Event → ℕ → Cause → Type 0
IsFirstCause board steps core cause =
    (cause_at_check board core ≡ Some cause) ⊎ IsFirstAtVerification board steps core cause

-- a core is parked for its first cause
pub record IsParkedRightly (board : Board) (steps : List Event) (core : ℕ) (cause : Cause) : Type 0 where
  pub parked : state_of board steps core ≡ Parked cause
  pub first : IsFirstCause board steps core cause

-- a core that has made a step is admitted, or is parked for its first cause
abbrev pub IsAdmittedOrParked : Board → List Event → ℕ → Type 0
IsAdmittedOrParked board steps core =
    (is_among_admitted board steps core ≡ true) ⊎ ((cause : Cause) × IsParkedRightly board steps core cause)

-- what can be relied on: each system feature that is enabled is had by each admitted core; each workaround that an
-- admitted core needs is enabled; a core that made a step is admitted or parked, and each parked core is parked by
-- its first cause
pub record IsSafe (board : Board) (steps : List Event) : Type 0 where
  pub supported : (number core : ℕ) → is_system_scope number ≡ true → is_enabled_after board steps number ≡ true
      → is_among_admitted board steps core ≡ true → has_capability board (core_at board.cores core) number ≡ true
  pub needed : (number core : ℕ) → is_workaround number ≡ true → is_among_admitted board steps core ≡ true
      → has_capability board (core_at board.cores core) number ≡ true → is_enabled_after board steps number ≡ true
  pub held : (core : ℕ) → core < length board.cores → is_some (last_step core steps) ≡ true
      → IsAdmittedOrParked board steps core
  pub parked : (core : ℕ) (cause : Cause) → core < length board.cores → state_of board steps core ≡ Parked cause
      → IsFirstCause board steps core cause
