use Rattle.std.proofs.Common.{length}
use Rattle.std.proofs.lemmas.List.FromFn.{length-map-range_with_len}
use Rattle.armcaps_jump.proofs.Choosing.{chosen, elsewhere}
use Rattle.armcaps_jump.proofs.laws.the_last_entry_chooses.Goals as goal

pub returns-clause-length : goal.returns-clause-length
returns-clause-length c = λ image table count. length-map-range_with_len _ 0 (length image)

pub returns-clause-chosen : goal.returns-clause-chosen
returns-clause-chosen c = λ image table count number accepted is. chosen image table count accepted number is

pub returns-clause-others : goal.returns-clause-others
returns-clause-others c = λ image table count place accepted inside none. elsewhere image table count accepted place inside none
