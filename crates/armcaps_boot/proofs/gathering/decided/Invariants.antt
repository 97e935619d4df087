use Rattle.std.proofs.Common.{◌≡◌, ℕ, ◌<◌, ◌≤◌, false}
use Rattle.armcaps_caps.specs.Set.{holds}
use Rattle.armcaps_boot.specs.Scopes.{enabled_by}
use Rattle.armcaps_boot.proofs.gathering.decided.Given as goal

abbrev pub invariant-loop-number : goal.invariant-loop-number
invariant-loop-number l = record {
  done : (k : ℕ) → k < l.number → holds l.set k ≡ enabled_by l.enabled l.noted l.system k;
  rest : (k : ℕ) → l.number ≤ k → holds l.set k ≡ false;
}
