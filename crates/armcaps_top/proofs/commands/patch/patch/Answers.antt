use Rattle.std.proofs.Common.{◌≡◌, ℕ, List, subst, sym}
use Rattle.std.specs.Prelude.{Result, Ok}
use Rattle.armcaps_alt.specs.Entries.{Features}
use Rattle.armcaps_board.specs.Steps.{history}
use Rattle.armcaps_boot.specs.Findings.{findings_after}
use Rattle.armcaps_boot.specs.World.{World}
use Rattle.armcaps_patch.specs.Features.{features_of_findings}
use Rattle.armcaps_text.specs.Document.{Reading, reading_of}
use Rattle.armcaps_top.specs.Answer.{of_document}
use Rattle.armcaps_top.specs.Document.{Document, document}
use Rattle.armcaps_top.specs.Inside.{Comes}
use Rattle.armcaps_top.specs.Run.{change}
use Rattle.armcaps_top.specs.declared.commands.Command.TheVariants.{Patch}
use Rattle.armcaps_top.specs.declared.refusal.Refusal.{Refusal}
use Rattle.armcaps_top.proofs.Performing.{document_is, wrote, wrote_part}
use Rattle.armcaps_top.proofs.commands.patch.patch.Goals as goal

-- what the machine of a reading has
abbrev features_for : Reading → Features
features_for reading = features_of_findings (findings_after reading.board (history reading.steps)) reading.names

-- what is made of a document is made of the bytes that it is read from
of_bytes : (found : Document) (bytes : List ℕ) (machines : List World) (text : List ℕ) → document bytes ≡ Ok found
    → Comes (of_document Patch (Ok found)) machines (Ok text) → Comes (of_document Patch (document bytes)) machines (Ok text)
of_bytes found bytes machines text is comes =
    subst (λ (read : Result Document Refusal). Comes (of_document Patch read) machines (Ok text)) (sym is) comes

pub returns-in-Ok-write : goal.returns-in-Ok-write
returns-in-Ok-write g c =
    let reading : Reading = reading_of c.in-Ok.read.0 in
    let is = document_is reading c.bytes_from-image.result.now c.args.bytes.now c.in-Ok.read.1 c.in-Ok.ensures.document c.bytes_from-image.ensures in
    wrote Patch (of_document Patch (document c.args.bytes.now)) (change g.O.Sink.held g.O.Sink.faults c.args.out.now c.write.new.sink) c.plan_of.new.machines.items _
    (of_bytes _ c.args.bytes.now _ _ is c.in-Ok-plan_of.ensures.comes)
    (c.in-Ok-write.ensures.whole (features_for reading) reading.layout c.in-Ok-plan_of.ensures.plan)

pub returns : goal.returns
returns g c =
    let reading : Reading = reading_of c.in-Ok.read.0 in
    let is = document_is reading c.bytes_from-image.result.now c.args.bytes.now c.in-Ok.read.1 c.in-Ok.ensures.document c.bytes_from-image.ensures in
    wrote_part Patch (of_document Patch (document c.args.bytes.now)) (change g.O.Sink.held g.O.Sink.faults c.args.out.now c.write.new.sink) c.plan_of.new.machines.items _
    (of_bytes _ c.args.bytes.now _ _ is c.in-Ok-plan_of.ensures.comes)
    c.in-Err-write.ensures.cause (c.in-Err-write.ensures.prefix (features_for reading) reading.layout c.in-Ok-plan_of.ensures.plan)
