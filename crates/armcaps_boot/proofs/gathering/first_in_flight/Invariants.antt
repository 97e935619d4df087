use Rattle.std.proofs.Common.{◌≡◌, ℕ, ◌<◌, false}
use Rattle.armcaps_boot.specs.States.{is_in_flight}
use Rattle.armcaps_boot.specs.World.{state_at}
use Rattle.armcaps_boot.proofs.gathering.first_in_flight.Given as goal

abbrev pub invariant-loop-number : goal.invariant-loop-number
invariant-loop-number l = (k : ℕ) → k < l.number → is_in_flight (state_at l.states k) ≡ false
