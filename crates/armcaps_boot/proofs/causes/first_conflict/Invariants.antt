use Rattle.std.proofs.Common.{◌≡◌, ℕ, ◌<◌, ◌&&◌, false}
use Rattle.armcaps_caps.specs.Capabilities.{conflicts}
use Rattle.armcaps_caps.specs.Set.{holds}
use Rattle.armcaps_boot.specs.Scopes.{has_by, in_scope}
use Rattle.armcaps_boot.proofs.causes.first_conflict.Given as goal

abbrev pub invariant-loop-number : goal.invariant-loop-number
invariant-loop-number l = (k : ℕ) → k < l.number
    → (in_scope l.of_boot_scope k && conflicts k (holds l.enabled k) (has_by l.board l.ctr l.core k)) ≡ false
