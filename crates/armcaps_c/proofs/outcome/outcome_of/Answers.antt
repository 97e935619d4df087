use Rattle.armcaps_c.proofs.Coming.{came_from}
use Rattle.armcaps_c.proofs.outcome.outcome_of.Goals as goal

pub returns : goal.returns
returns c =
    came_from _ _ _ _ _ _ _ _ _ _ _ _ _ _ _ _ c.run-status.ensures.promises c.new-source.ensures
    c.new-out.ensures.bytes c.new-err.ensures.bytes c.new-out.ensures.refused c.new-err.ensures.refused
    c.in_ok-output.ensures c.in_ok-line.ensures
