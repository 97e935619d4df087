-- What `jump OFFSET COUNT` writes: the patched image with the jump labels of its table applied, or why it writes none.
use Rattle.std.specs.Prelude.{ℕ, ◌+◌, ◌*◌, nat_lt, if◌then◌else◌, List, length, Option, Some, None, Result, Ok, Err}
use Rattle.armcaps_board.specs.declared.event.Event.{Event}
use Rattle.armcaps_board.specs.Board.{Board}
use Rattle.armcaps_jump.specs.Jumped.{jump_image}
use Rattle.armcaps_jump.specs.Refusals as labels
use Rattle.armcaps_jump.specs.Refusals.{first_refusal}
use Rattle.armcaps_text.specs.Document.{Reading}
use Rattle.armcaps_top.specs.Patch.{patch_output}
use Rattle.armcaps_top.specs.declared.commands.jump.LabelsRefused.TheVariants.{TableOutside, Entry}
use Rattle.armcaps_top.specs.declared.reason.Reason.{Reason}
use Rattle.armcaps_top.specs.declared.reason.Reason.TheVariants.{NotJumped}

-- the image, unless an entry of the table is refused
abbrev pub unless_label_refused : Option labels.Refusal → List ℕ → Result (List ℕ) Reason
unless_label_refused None image = Ok image
unless_label_refused (Some refusal) image = Err (NotJumped (Entry refusal.entry refusal.kind))

-- an image with the jump labels of a table applied: the table lies within the image, and no entry of it is refused
abbrev pub labelled : ℕ → ℕ → List ℕ → Result (List ℕ) Reason
labelled table count image =
    if nat_lt (length image) (table + 16 * count) then Err (NotJumped TableOutside)
    else unless_label_refused (first_refusal image table count) (jump_image image table count)

-- the same of a patched image, where there is one: keys and entries are read as the patched image has them
abbrev pub labelled_after : ℕ → ℕ → Result (List ℕ) Reason → Result (List ℕ) Reason
labelled_after table count (Ok patched) = labelled table count patched
labelled_after table count (Err reason) = Err reason

-- the image patched once all steps of a board are made, with its jump labels applied
abbrev pub jump_output : ℕ → ℕ → Board → List Event → Reading → List ℕ → Result (List ℕ) Reason
jump_output table count board steps reading image =
    labelled_after table count (patch_output board steps reading image)
