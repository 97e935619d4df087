use Rattle.std.proofs.Common.{List, ap, ◌∙◌}
use Rattle.armcaps_board.specs.Order.{is_some_in_flight}
use Rattle.armcaps_board.specs.Steps.{history}
use Rattle.armcaps_board.specs.declared.step_line.StepLine.{StepLine}
use Rattle.armcaps_text.proofs.StepsInTurn.{flight_known}
use Rattle.armcaps_text.proofs.steps.Steps.is_some_in_flight.Goals as goal

pub returns : goal.returns
returns c = flight_known _ _ _ _ c.self.invariant ∙ ap (λ (lines : List StepLine). is_some_in_flight (history lines)) c.self.view_is
