use Rattle.std.proofs.Common.{◌≡◌, ◌++◌, take, string_bytes}
use Rattle.std.specs.List.{flat_map}
use Rattle.armcaps_tables.specs.Rows.{rows_of}
use Rattle.armcaps_report.specs.Pooled.{field_limit}
use Rattle.armcaps_report.proofs.pooled.push_limits_of.Given as goal

-- the lines of the fields passed
abbrev pub invariant-loop-index : goal.invariant-loop-index
invariant-loop-index l =
    string_bytes l.text ≡ string_bytes l.initial.text
    ++ flat_map (field_limit l.baseline l.register) (take l.index (rows_of l.register))
