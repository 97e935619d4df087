use Rattle.std.proofs.Common.{◌≡◌, ℕ, ◌<◌, ◌≤◌, false}
use Rattle.armcaps_boot.specs.Safety.{is_enabled}
use Rattle.armcaps_caps.specs.Set.{holds}
use Rattle.armcaps_patch.proofs.selecting.enabled_on.Given as goal

-- the capabilities below the number are in the set where they are enabled, and none from it on is
abbrev pub invariant-loop-number : goal.invariant-loop-number
invariant-loop-number l = record {
  done : (k : ℕ) → k < l.number → holds l.set k ≡ is_enabled l.boot k;
  rest : (k : ℕ) → l.number ≤ k → holds l.set k ≡ false;
}
