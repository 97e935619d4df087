use Rattle.std.proofs.Common.{◌≤◌, ap, sym, arith}
use Rattle.std.specs.Option.{option_map}
use Rattle.std.proofs.lemmas.Option.{slice_get_past}
use Rattle.armcaps_caps.specs.RowOf.{columns_listed}
use Rattle.armcaps_caps.specs.Rows.{capability_rows}
use Rattle.armcaps_caps.proofs.Listing.{all_listed}
use Rattle.armcaps_caps.proofs.table.row_of_table.Goals as goal

pub returns-in_default : goal.returns-in_default
returns-in_default c =
    let past : 53 ≤ c.args.number = omega arith in
    sym (ap (option_map columns_listed) (slice_get_past capability_rows c.args.number (omega (arith, all_listed))))
