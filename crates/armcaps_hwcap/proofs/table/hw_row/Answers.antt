use Rattle.std.proofs.Common.{sym, arith}
use Rattle.std.proofs.lemmas.Option.{slice_get_past}
use Rattle.armcaps_hwcap.specs.Rows.{hwcap_rows}
use Rattle.armcaps_hwcap.proofs.Listing.{all_listed}
use Rattle.armcaps_hwcap.proofs.table.hw_row.Goals as goal

pub returns-else-index-lt-HWCAPS-clause-row : goal.returns-else-index-lt-HWCAPS-clause-row
returns-else-index-lt-HWCAPS-clause-row c = sym (slice_get_past hwcap_rows c.args.index (omega (arith, all_listed)))
