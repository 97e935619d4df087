-- What `audit` writes: a line where the second image is the patched one, or why it writes nothing. The texts are this
-- project's own.
use Rattle.std.specs.Prelude.{ℕ, ◌++◌, List, [], ◌∷◌, Option, Result, codes, drop, take}
use Rattle.std.specs.Option.{option_map, option_or}
use Rattle.armcaps_alt.specs.declared.table_place.Layout.{Layout}
use Rattle.armcaps_alt.specs.Entries.{Features}
use Rattle.armcaps_alt.specs.Patched.{patched_image}
use Rattle.armcaps_board.specs.declared.event.Event.{Event}
use Rattle.armcaps_board.specs.Board.{Board}
use Rattle.armcaps_boot.specs.Findings.{findings_after}
use Rattle.armcaps_patch.specs.Features.{features_of_findings}
use Rattle.armcaps_pool.specs.Audits.{first_difference}
use Rattle.armcaps_text.specs.Document.{Reading}
use Rattle.armcaps_top.specs.Patch.{refused_entry, unless}
use Rattle.armcaps_top.specs.declared.reason.Reason.{Reason}
use Rattle.armcaps_top.specs.declared.reason.Reason.TheVariants.{Differs}

-- the line of an image that is the patched one
abbrev pub yes_line : List ℕ
yes_line = codes "yes" ++ 10 ∷ []

-- why an image is not taken as the patched one of another: an entry of that one's table is refused, or a byte, the
-- first that differs from the patched image's
unfoldable pub audit_reason : Features → Layout → List ℕ → List ℕ → Option Reason
audit_reason features layout image judged =
    option_or (refused_entry features image layout)
    (option_map Differs (first_difference judged (patched_image features image layout)))

-- what is written of two images, the document's and the one that is judged, each as long as the reading says, once all
-- steps of a board are made
abbrev pub audit_output : Board → List Event → Reading → List ℕ → Result (List ℕ) Reason
audit_output board steps reading images =
    let features = features_of_findings (findings_after board steps) reading.names in
    unless (audit_reason features reading.layout (take reading.image images) (drop reading.image images)) yes_line
