use Rattle.armcaps_boot.proofs.WholeRuns.{safe}
use Rattle.armcaps_boot.proofs.laws.documents_are_safe.Goals as goal

pub returns : goal.returns
returns c = λ board past is_board order complete running. safe board past is_board order complete running
