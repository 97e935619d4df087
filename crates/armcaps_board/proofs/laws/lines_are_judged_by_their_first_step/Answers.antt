use Rattle.armcaps_board.proofs.Lines.{order-line}
use Rattle.armcaps_board.proofs.laws.lines_are_judged_by_their_first_step.Goals as goal

pub returns : goal.returns
returns c board lines line = order-line board lines line
