use Rattle.armcaps_alt.proofs.KnownCapabilities.{patched_alike, refused_alike}
use Rattle.armcaps_alt.proofs.laws.known_capabilities_decide.Goals as goal

pub returns-clause-refused : goal.returns-clause-refused
returns-clause-refused c = λ names one other ctr image layout known agree.
    refused_alike one other agree names known ctr image layout

pub returns-clause-patched : goal.returns-clause-patched
returns-clause-patched c = λ names one other ctr image layout known agree.
    patched_alike one other agree names known ctr image layout
