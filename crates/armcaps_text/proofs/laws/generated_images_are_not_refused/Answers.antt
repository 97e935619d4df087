use Rattle.armcaps_text.proofs.GeneratedEntries.{length-generated, none_refused}
use Rattle.armcaps_text.proofs.laws.generated_images_are_not_refused.Goals as goal

pub returns-clause-length : goal.returns-clause-length
returns-clause-length c = length-generated

pub returns-clause-none : goal.returns-clause-none
returns-clause-none c = none_refused
