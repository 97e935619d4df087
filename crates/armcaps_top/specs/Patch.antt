-- What `patch` writes: the image with its selected alternatives, or why it writes none.
use Rattle.std.specs.Prelude.{ℕ, List, Option, Some, None, Result, Ok, Err}
use Rattle.std.specs.Option.{option_map}
use Rattle.armcaps_alt.specs.declared.table_place.Layout.{Layout}
use Rattle.armcaps_alt.specs.Entries.{Features}
use Rattle.armcaps_alt.specs.Patched.{patched_image}
use Rattle.armcaps_alt.specs.Refusals as alternatives
use Rattle.armcaps_alt.specs.Refusals.{first_refusal}
use Rattle.armcaps_board.specs.declared.event.Event.{Event}
use Rattle.armcaps_board.specs.Board.{Board}
use Rattle.armcaps_boot.specs.Findings.{findings_after}
use Rattle.armcaps_patch.specs.Features.{features_of_findings}
use Rattle.armcaps_text.specs.Document.{Reading}
use Rattle.armcaps_top.specs.declared.reason.Reason.{Reason}
use Rattle.armcaps_top.specs.declared.reason.Reason.TheVariants.{NotPatched}

-- why no image is written, where this entry is refused
abbrev pub not_patched : alternatives.Refusal → Reason
not_patched refusal = NotPatched refusal.entry refusal.kind

-- the same of the first entry of an image's table that is refused
abbrev pub refused_entry : Features → List ℕ → Layout → Option Reason
refused_entry features image layout = option_map not_patched (first_refusal features image layout)

-- what is written, unless there is a reason why it isn't
abbrev pub unless : Option Reason → List ℕ → Result (List ℕ) Reason
unless None written = Ok written
unless (Some reason) written = Err reason

-- the image, unless an entry is refused
abbrev pub unless_entry_refused : Option alternatives.Refusal → List ℕ → Result (List ℕ) Reason
unless_entry_refused refusal image = unless (option_map not_patched refusal) image

-- the image patched by what the machine has
abbrev pub patched_by : Features → Reading → List ℕ → Result (List ℕ) Reason
patched_by features reading image =
    unless_entry_refused (first_refusal features image reading.layout) (patched_image features image reading.layout)

-- the image patched once all steps of a board are made
abbrev pub patch_output : Board → List Event → Reading → List ℕ → Result (List ℕ) Reason
patch_output board steps reading image =
    patched_by (features_of_findings (findings_after board steps) reading.names) reading image

-- the patched image of what a reading brings up
abbrev pub image_for : Board → List Event → Reading → List ℕ → List ℕ
image_for board steps reading image =
    patched_image (features_of_findings (findings_after board steps) reading.names) image reading.layout
