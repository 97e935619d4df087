use Rattle.std.proofs.Common.{◌≡◌, ◌∙◌, Some, slice_get, ap, sym}
use Rattle.std.specs.Option.{option_map}
use Rattle.armcaps_hwcap.specs.RowOf.{row_of_line}
use Rattle.armcaps_hwcap.specs.Rows.{hwcap_rows}
use Rattle.armcaps_hwcap.proofs.Listing.{bit_below, line_found, row_at}
use Rattle.armcaps_hwcap.proofs.table.line_at.Goals as goal

pub unwrap-requires : goal.unwrap-requires
unwrap-requires c = line_found c.args.index c.line_of_table.result c.requires c.line_of_table.ensures

pub returns-clause-bit : goal.returns-clause-bit
returns-clause-bit c =
    let at : slice_get hwcap_rows c.args.index ≡ Some (row_of_line c.unwrap.result) =
    sym c.line_of_table.ensures ∙ ap (option_map row_of_line) c.unwrap.ensures in
    bit_below c.args.index (row_of_line c.unwrap.result) at

pub returns-clause-fields : goal.returns-clause-fields
returns-clause-fields c =
    let at : slice_get hwcap_rows c.args.index ≡ Some (row_of_line c.unwrap.result) =
    sym c.line_of_table.ensures ∙ ap (option_map row_of_line) c.unwrap.ensures in
    (row_at c.args.index (row_of_line c.unwrap.result) at).1
