use Rattle.std.proofs.Common.{◌≤◌, sym, arith}
use Rattle.std.proofs.lemmas.Option.{slice_get_past}
use Rattle.armcaps_hwcap.specs.Rows.{hwcap_rows}
use Rattle.armcaps_hwcap.proofs.Listing.{all_listed}
use Rattle.armcaps_hwcap.proofs.table.line_of_table.Goals as goal

pub returns-in_default : goal.returns-in_default
returns-in_default c =
    let past : 57 ≤ c.args.index = omega arith in
    sym (slice_get_past hwcap_rows c.args.index (omega (arith, all_listed)))
