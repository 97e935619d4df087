-- What holds of a machine after each step.
use Rattle.std.specs.Prelude.{◌≡◌, ◌<◌, ◌≤◌, ◌⊎◌, ℕ, Bool, true, false, ◌&&◌, ◌||◌, List, length, Option, Some, None}
use Rattle.std.specs.List.{list_any, list_all}
use Rattle.armcaps_enc.specs.declared.register.SysReg.TheVariants.{CtrEl0}
use Rattle.armcaps_tables.specs.Core.{Core, word_at}
use Rattle.armcaps_sanit.specs.System.{IsSystemOf, system_words}
use Rattle.armcaps_caps.specs.Capabilities.{is_boot_scope, is_local_scope}
use Rattle.armcaps_caps.specs.Rows.{capability_count}
use Rattle.armcaps_board.specs.Board.{IsCtrPlain, boot_core}
use Rattle.armcaps_boot.specs.declared.cause.Cause.{Cause}
use Rattle.armcaps_boot.specs.declared.core_state.CoreState.{CoreState}
use Rattle.armcaps_boot.specs.declared.core_state.CoreState.TheVariants.{Admitted, Parked, Panicked}
use Rattle.armcaps_boot.specs.declared.park_or_panic.Halt.{Halt}
use Rattle.armcaps_boot.specs.Causes.{cause_at_check, cause_at_verification, has_capability, capability_enabled, is_system_length, has_length}
use Rattle.armcaps_boot.specs.ParkOrPanic.{stops_machine}
use Rattle.armcaps_boot.specs.Changes.{hwcaps_over}
use Rattle.armcaps_boot.specs.Choosing.{chosen}
use Rattle.armcaps_boot.specs.Numbers.{numbers}
use Rattle.armcaps_boot.specs.States.{is_admitted, is_early, is_late, is_updated, has_passed}
use Rattle.armcaps_boot.specs.World.{World, state_at, admitted_cores, early_cores}

-- the early cores, and those whose own capabilities were noted and that haven't made their store yet
abbrev pub noted_cores : World → List Core
noted_cores world =
    chosen (λ number. is_early (state_at world.states number) || is_updated (state_at world.states number))
    world.board.cores

-- a core is parked for this cause, by its cause at the check and its cause at verification: it is the first, and one
-- that does not stop the machine; or there is no first, finalisation was done, and it is the second
abbrev pub IsParkedFor : Bool → Option Cause → Option Cause → Cause → Type 0
IsParkedFor final at_check at_verification cause =
    ((at_check ≡ Some cause) × (stops_machine cause ≡ false))
    ⊎ ((at_check ≡ None) × (final ≡ true) × (at_verification ≡ Some cause))

-- what holds of a core in this state, by whether finalisation was done, and by its causes at the check and at
-- verification
pub record IsStateOf (final : Bool) (at_check at_verification : Option Cause) (state : CoreState) : Type 0 where
  pub passed : has_passed state ≡ true → at_check ≡ None
  pub verified : final ≡ true → is_admitted state ≡ true → at_verification ≡ None
  pub updated : final ≡ true → is_updated state ≡ true → at_verification ≡ None
  pub after_finalise : is_late state ≡ true → final ≡ true
  pub parked : (cause : Cause) → state ≡ Parked cause → IsParkedFor final at_check at_verification cause
  pub panicked : (cause : Cause) → state ≡ Panicked cause → (at_check ≡ Some cause) × (stops_machine cause ≡ true)

-- what holds of each core of a machine
abbrev pub StateFits : World → ℕ → Type 0
StateFits world number =
    IsStateOf world.final (cause_at_check world.board number)
    (cause_at_verification world.board (early_cores world.board world.states) number) (state_at world.states number)

-- the machine is stopped exactly where a core has panicked, and by that core
pub record IsHalt (halted : Option Halt) (states : List CoreState) : Type 0 where
  pub by : (halt : Halt) → halted ≡ Some halt → state_at states halt.core ≡ Panicked halt.cause
  pub only : halted ≡ None → (number : ℕ) (cause : Cause) → state_at states number ≡ Panicked cause → ⊥

-- before finalisation the local capabilities of the cores that came are noted, those of boot scope are enabled, no
-- hwcap and no vector length is told, and the lengths that all early cores have are kept
pub record IsGathering (world : World) : Type 0 where
  pub noted : world.noted
      ≡ numbers capability_count
      (λ n. is_local_scope n && list_any (λ core. has_capability world.board core n) (noted_cores world))
  pub enabled : world.enabled
      ≡ numbers capability_count (λ n. is_boot_scope n && has_capability world.board (boot_core world.board) n)
  pub hwcaps : world.hwcaps ≡ record { hwcap = 0; hwcap2 = 0 }
  pub common_lengths : (length : ℕ) → has_length world.common_lengths length
      ≡ list_all (λ core. has_length core.lengths length) (early_cores world.board world.states)
  pub lengths : world.lengths ≡ 0

-- after finalisation capabilities, hwcaps, the word of CTR_EL0 and vector lengths are those over the early cores
pub record IsDecided (world : World) : Type 0 where
  pub enabled : world.enabled
      ≡ numbers capability_count (capability_enabled world.board (early_cores world.board world.states))
  pub hwcaps : world.hwcaps ≡ hwcaps_over world.board (early_cores world.board world.states)
  pub final_ctr : world.final_ctr
      ≡ word_at (system_words world.board.overrides (early_cores world.board world.states)) CtrEl0
  pub lengths : (length : ℕ) → has_length world.lengths length
      ≡ is_system_length world.board (early_cores world.board world.states) length

-- what holds after each step
pub record Facts (world : World) : Type 0 where
  pub sizes : length world.states ≡ length world.board.cores
  pub few : length world.board.cores ≤ 512
  pub within : world.board.boot < length world.board.cores
  pub plain_ctr : IsCtrPlain world.board.overrides
  pub system : IsSystemOf world.board.overrides (admitted_cores world.board world.states) world.system
  pub boot : state_at world.states world.board.boot ≡ Admitted false
  pub states : (number : ℕ) → StateFits world number
  pub halted : IsHalt world.halted world.states
  pub gathering : world.final ≡ false → IsGathering world
  pub decided : world.final ≡ true → IsDecided world
