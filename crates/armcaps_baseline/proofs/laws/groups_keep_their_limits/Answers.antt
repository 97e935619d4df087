use Rattle.armcaps_baseline.proofs.GroupLimits.{limit_beyond, limit_within}
use Rattle.armcaps_baseline.proofs.laws.groups_keep_their_limits.Goals as goal

pub returns-clause-within : goal.returns-clause-within
returns-clause-within c = limit_within

pub returns-clause-beyond : goal.returns-clause-beyond
returns-clause-beyond c = λ before after reg index number row some at found.
    limit_beyond before after reg index row number some at found
