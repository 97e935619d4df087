use Rattle.std.proofs.Common.{◌≡◌, ℕ, ◌<◌, false, get_or}
use Rattle.armcaps_caps.specs.Facts.{has_name}
use Rattle.armcaps_caps.specs.Row.{Row}
use Rattle.armcaps_caps.specs.Rows.{capability_rows}
use Rattle.armcaps_caps.proofs.table.of_name.Given as goal

abbrev pub invariant-loop-number : goal.invariant-loop-number
invariant-loop-number l = (k : ℕ) (other : Row) → k < l.number
    → has_name l.name (get_or capability_rows k other) ≡ false
