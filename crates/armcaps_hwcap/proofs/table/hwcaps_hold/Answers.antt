use Rattle.armcaps_hwcap.proofs.Listing.{all_listed, first_rises, names, rows_hold, second_rises}
use Rattle.armcaps_hwcap.proofs.table.hwcaps_hold.Goals as goal

pub returns-clause-count : goal.returns-clause-count
returns-clause-count c = all_listed

pub returns-clause-holds : goal.returns-clause-holds
returns-clause-holds c = rows_hold

pub returns-clause-first : goal.returns-clause-first
returns-clause-first c = first_rises

pub returns-clause-second : goal.returns-clause-second
returns-clause-second c = second_rises

pub returns-clause-names : goal.returns-clause-names
returns-clause-names c = names
