-- Which machines have a report.
use Rattle.std.specs.Prelude.{◌≡◌, ℕ, Bool, true, false, List}
use Rattle.armcaps_boot.specs.declared.core_state.CoreState.{CoreState}
use Rattle.armcaps_boot.specs.declared.core_state.CoreState.TheVariants.{Checked, Updated, Panicked}
use Rattle.armcaps_boot.specs.World.{state_at}

-- the core is neither on its way up nor has it stopped the machine
abbrev pub is_settled : CoreState → Bool
is_settled (Checked past) = false
is_settled (Updated past) = false
is_settled (Panicked cause) = false
is_settled _ = true

-- no core is on its way up, and none has stopped the machine
abbrev pub AreSettled : List CoreState → Type 0
AreSettled states = (number : ℕ) → is_settled (state_at states number) ≡ true
