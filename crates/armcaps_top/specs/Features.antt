-- What the machine of a document has, by which its image is patched.
use Rattle.armcaps_alt.specs.Entries.{Features}
use Rattle.armcaps_boot.specs.Findings.{findings_after}
use Rattle.armcaps_patch.specs.Features.{features_of_findings}
use Rattle.armcaps_top.specs.Answer.{steps_of}
use Rattle.armcaps_top.specs.Document.{Document}

-- what the machine of a document has once all its steps are made
abbrev pub features_in : Document → Features
features_in found =
    features_of_findings (findings_after found.reading.board (steps_of found)) found.reading.names
