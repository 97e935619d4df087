use Rattle.std.proofs.Common.{◌≡◌, ℕ, ◌<◌, ◌≤◌, ◌&&◌, ◌||◌}
use Rattle.armcaps_caps.specs.Set.{holds}
use Rattle.armcaps_boot.specs.Scopes.{has_by, own_scope}
use Rattle.armcaps_boot.proofs.gathering.with_own.Given as goal

abbrev pub invariant-loop-number : goal.invariant-loop-number
invariant-loop-number l = record {
  done : (k : ℕ) → k < l.number → holds l.set k ≡ (holds l.fn.given k || (own_scope l.of_boot_scope k && has_by l.board l.ctr l.core k));
  rest : (k : ℕ) → l.number ≤ k → holds l.set k ≡ holds l.fn.given k;
}
