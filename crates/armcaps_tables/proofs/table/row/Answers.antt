use Rattle.std.proofs.Common.{◌≡◌, IsTrue, false}
use Rattle.armcaps_bits.specs.Field.{field_fits}
use Rattle.armcaps_rule.specs.declared.rule.Rule.TheVariants.{HigherOrZero}
use Rattle.armcaps_tables.specs.Row.{Row}
use Rattle.armcaps_tables.specs.RowOf.{row_of}
use Rattle.armcaps_logic.proofs.Options.{IfSome-option_map}
use Rattle.armcaps_tables.proofs.Places.{found_safe, found_unsigned}
use Rattle.armcaps_tables.proofs.table.row.Goals as goal

pub returns-clause-safe : goal.returns-clause-safe
returns-clause-safe c =
    IfSome-option_map row_of (λ (row : Row). IsTrue (field_fits row.signed row.width row.safe)) c.row_of_table.result
    (found_safe c.args.reg c.args.index _ c.row_of_table.ensures.row)

pub returns-clause-unsigned : goal.returns-clause-unsigned
returns-clause-unsigned c =
    IfSome-option_map row_of (λ (row : Row). row.rule ≡ HigherOrZero → row.signed ≡ false) c.row_of_table.result
    (found_unsigned c.args.reg c.args.index _ c.row_of_table.ensures.row)
