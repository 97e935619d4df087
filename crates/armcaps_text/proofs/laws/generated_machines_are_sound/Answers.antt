use Rattle.armcaps_text.proofs.GeneratedReading.{generated_sound, generated_up}
use Rattle.armcaps_text.proofs.laws.generated_machines_are_sound.Goals as goal

pub returns-clause-sound : goal.returns-clause-sound
returns-clause-sound c = generated_sound

pub returns-clause-up : goal.returns-clause-up
returns-clause-up c = generated_up
