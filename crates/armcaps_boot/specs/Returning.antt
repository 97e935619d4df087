-- Cores that were admitted and come back.
use Rattle.std.specs.Prelude.{◌≡◌, ℕ, Bool, true, false, ◌&&◌}
use Rattle.armcaps_boot.specs.declared.core_state.CoreState.{CoreState}
use Rattle.armcaps_boot.specs.declared.core_state.CoreState.TheVariants.{Checked, Offline as Gone}
use Rattle.armcaps_board.specs.declared.event.Event.{Event}
use Rattle.armcaps_board.specs.declared.event.Event.TheVariants.{Check, Local, Store}
use Rattle.armcaps_boot.specs.Causes.{has_length}
use Rattle.armcaps_boot.specs.States.{is_admitted, is_updated}
use Rattle.armcaps_boot.specs.World.{World, state_at}

-- the core ran, and went
abbrev pub is_gone : CoreState → Bool
is_gone (Gone late) = true
is_gone _ = false

-- the core has made its check, and no further step
abbrev pub is_checked : CoreState → Bool
is_checked (Checked was) = true
is_checked _ = false

-- whether a step is the next one of a core that was admitted, went, and comes back
abbrev pub comes_back : World → Event → Bool
comes_back world (Check number) = is_gone (state_at world.states number)
comes_back world (Local number) =
    is_checked (state_at world.states number) && is_admitted (state_at world.states number)
comes_back world (Store number) =
    is_updated (state_at world.states number) && is_admitted (state_at world.states number)
comes_back world _ = false

-- what the system is stays as it was
pub record KeepsSystem (old new : World) : Type 0 where
  pub system : new.system ≡ old.system
  pub noted : new.noted ≡ old.noted
  pub enabled : new.enabled ≡ old.enabled
  pub hwcaps : new.hwcaps ≡ old.hwcaps
  pub final_ctr : new.final_ctr ≡ old.final_ctr
  pub common_lengths : (length : ℕ) → has_length new.common_lengths length ≡ has_length old.common_lengths length
  pub lengths : new.lengths ≡ old.lengths
