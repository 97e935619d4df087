use Rattle.armcaps_text.proofs.Readings.{sound_reading}
use Rattle.armcaps_text.proofs.laws.readings_are_sound.Goals as goal

pub returns-clause-sound : goal.returns-clause-sound
returns-clause-sound c = λ input reading place h. (sound_reading input reading place h).0

pub returns-clause-place : goal.returns-clause-place
returns-clause-place c = λ input reading place h. (sound_reading input reading place h).1
