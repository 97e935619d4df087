use Rattle.std.proofs.Common.{◌≡◌, ◌+◌, ◌<◌, ℕ, false, take}
use Rattle.armcaps_tables.specs.RowOf.{row_of}
use Rattle.armcaps_baseline.specs.Baselines.{baseline_field, is_reached}
use Rattle.armcaps_baseline.proofs.pool_baseline.limit_in.Given as goal

-- the value over the machines passed, none of which gives the whole's with those before it
abbrev pub invariant-loop-number : goal.invariant-loop-number
invariant-loop-number l =
    (l.so_far ≡ baseline_field (take l.number l.machines) l.row.reg (row_of l.row))
    × ((before : ℕ) → before + 1 < l.number → is_reached l.machines l.row.reg (row_of l.row) before ≡ false)
