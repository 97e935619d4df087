use Rattle.armcaps_tables.proofs.FieldWords.{made_of, only_one}
use Rattle.armcaps_sanit.proofs.SystemWords.{system_word_made}
use Rattle.armcaps_sanit.proofs.UserWords.{user_word_made}
use Rattle.armcaps_sanit.proofs.laws.fields_make_one_word.Goals as goal

pub returns-clause-made : goal.returns-clause-made
returns-clause-made c = made_of c.args.reg

pub returns-clause-only : goal.returns-clause-only
returns-clause-only c = only_one c.args.reg

pub returns-clause-system : goal.returns-clause-system
returns-clause-system c = λ overrides cores fit some. system_word_made overrides cores c.args.reg fit some

pub returns-clause-users : goal.returns-clause-users
returns-clause-users c = λ overrides cores fit some. user_word_made overrides cores c.args.reg fit some
