use Rattle.armcaps_alt.proofs.Accepting.{selected_accepted}
use Rattle.armcaps_alt.proofs.ReplacedSites.{replaces_sites}
use Rattle.armcaps_alt.proofs.laws.the_last_entry_replaces.Goals as goal

pub returns-clause-accepted : goal.returns-clause-accepted
returns-clause-accepted c = λ features image layout number none within selected.
    selected_accepted features image layout number none within selected

pub returns-clause-replaced : goal.returns-clause-replaced
returns-clause-replaced c = λ features image layout bytes small none.
    replaces_sites features image bytes small layout none
