use Rattle.std.proofs.Common.{◌≡◌, ℕ, ◌<◌, false, get_or}
use Rattle.armcaps_tables.specs.Row.{Row}
use Rattle.armcaps_tables.specs.Rows.{rows_of}
use Rattle.armcaps_tables.specs.Facts.{has_name}
use Rattle.armcaps_tables.proofs.table.find.Given as goal

abbrev pub invariant-loop-index : goal.invariant-loop-index
invariant-loop-index l = (k : ℕ) (other : Row) → k < l.index → has_name l.name (get_or (rows_of l.reg) k other) ≡ false
