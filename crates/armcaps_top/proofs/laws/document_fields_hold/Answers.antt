use Rattle.armcaps_sanit.proofs.SystemWords.{system_word_made}
use Rattle.armcaps_sanit.proofs.UserWords.{user_word_made}
use Rattle.armcaps_top.specs.Answer.{admitted_in}
use Rattle.armcaps_top.proofs.DocumentFields.{document_sound, some_admitted, unsafe_override}
use Rattle.armcaps_top.proofs.laws.document_fields_hold.Goals as goal

pub returns-clause-inputs : goal.returns-clause-inputs
returns-clause-inputs c = document_sound c.readings_are_sound.ensures.sound

pub returns-clause-generated : goal.returns-clause-generated
returns-clause-generated c = c.generated_machines_are_sound.ensures.sound

pub returns-clause-system : goal.returns-clause-system
returns-clause-system c = λ found reg sound.
    system_word_made found.reading.board.overrides (admitted_in found) reg sound.board.fit (some_admitted found sound)

pub returns-clause-users : goal.returns-clause-users
returns-clause-users c = λ found reg sound.
    user_word_made found.reading.board.overrides (admitted_in found) reg sound.board.fit (some_admitted found sound)

pub returns-clause-ignored : goal.returns-clause-ignored
returns-clause-ignored c = λ found reg index row value sound at given unsafe. unsafe_override found reg index row value sound given unsafe
