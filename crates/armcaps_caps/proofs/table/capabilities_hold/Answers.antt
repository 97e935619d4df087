use Rattle.armcaps_caps.proofs.Listing.{numbers, rows_hold}
use Rattle.armcaps_caps.proofs.table.capabilities_hold.Goals as goal

pub returns-clause-numbers : goal.returns-clause-numbers
returns-clause-numbers c = numbers

pub returns-clause-holds : goal.returns-clause-holds
returns-clause-holds c = rows_hold
