use Rattle.std.proofs.Common.{◌≡◌, ℕ, ◌<◌, true}
use Rattle.armcaps_boot.specs.World.{state_at}
use Rattle.armcaps_report.specs.Settled.{is_settled}
use Rattle.armcaps_report.proofs.settled.are_settled.Given as goal

abbrev pub invariant-loop-number : goal.invariant-loop-number
invariant-loop-number l = (k : ℕ) → k < l.number → is_settled (state_at l.boot.states k) ≡ true
