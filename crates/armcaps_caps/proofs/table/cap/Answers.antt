use Rattle.armcaps_caps.proofs.Listing.{found_exactly, found_flags, found_name, found_number, found_test}
use Rattle.armcaps_caps.proofs.table.cap.Goals as goal

pub returns-clause-some : goal.returns-clause-some
returns-clause-some c = found_exactly c.args.number c.row_of_table.result c.row_of_table.ensures

pub returns-clause-number : goal.returns-clause-number
returns-clause-number c = found_number c.args.number c.row_of_table.result c.row_of_table.ensures

pub returns-clause-name : goal.returns-clause-name
returns-clause-name c = found_name c.args.number c.row_of_table.result c.row_of_table.ensures

pub returns-clause-test : goal.returns-clause-test
returns-clause-test c = found_test c.args.number c.row_of_table.result c.row_of_table.ensures

pub returns-clause-flags : goal.returns-clause-flags
returns-clause-flags c = found_flags c.args.number c.row_of_table.result c.row_of_table.ensures
