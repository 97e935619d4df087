use Rattle.std.proofs.Common.{ℕ, List, Ok, subst, sym}
use Rattle.std.specs.Cow.{cow_slice_items}
use Rattle.std.specs.Prelude.{Result}
use Rattle.armcaps_jump.specs.Jumped.{jump_image}
use Rattle.armcaps_jump.specs.Standing.{StandsFor}
use Rattle.armcaps_text.specs.Document.{Reading, reading_of}
use Rattle.armcaps_top.specs.Answer.{of_document}
use Rattle.armcaps_top.specs.Document.{Document}
use Rattle.armcaps_top.specs.Inside.{Comes}
use Rattle.armcaps_top.specs.declared.commands.Command.TheVariants.{Jump}
use Rattle.armcaps_top.specs.declared.refusal.Refusal.{Refusal}
use Rattle.armcaps_top.proofs.Labels.{labels_come, labels_stand}
use Rattle.armcaps_top.proofs.Performing.{document_is}
use Rattle.armcaps_top.proofs.commands.jump.patched_and_labels.Goals as goal

pub returns-clause-comes : goal.returns-clause-comes
returns-clause-comes c =
    let reading : Reading = reading_of c.in_ok-machine.machine in
    let image : List ℕ = c.bytes_from.result.now in
    let found : Document = record { reading = reading; image = image } in
    let patched : List ℕ = cow_slice_items c.in_ok-image.image in
    let text : List ℕ = jump_image patched c.args.table c.args.count in
    let machines = c.patched_for.new.machines.items in
    let is = document_is reading image c.args.bytes.now c.in_ok-machine.place c.in_ok-machine.ensures.document c.bytes_from.ensures in
    let stands = subst (λ (bytes : List ℕ). StandsFor c.in_ok-jumps.jumps bytes c.args.table c.args.count) c.as_slice.ensures.value c.in_ok-jumps.ensures.stands in
    subst (λ (read : Result Document Refusal). Comes (of_document (Jump c.args.table c.args.count) read) machines (Ok text)) (sym is)
    (labels_come c.args.table c.args.count found machines patched text c.in_ok-image.ensures.comes
    (labels_stand c.in_ok-jumps.jumps c.args.table c.args.count patched stands))
