use Rattle.armcaps_boot.proofs.AnySteps.{step_after, step_answered}
use Rattle.armcaps_boot.proofs.laws.steps_are_answered.Goals as goal

pub returns : goal.returns
returns c = record {
  answer = λ board past event world facts after order next running. step_answered board past event world facts after order next running;
  after = λ board past event world facts after order next running. step_after board past event world facts after order next running;
}
