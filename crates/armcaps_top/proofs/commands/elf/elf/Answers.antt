use Rattle.armcaps_elf.specs.Images.{put_image}
use Rattle.armcaps_text.specs.Document.{reading_of}
use Rattle.armcaps_top.specs.Answer.{of_document}
use Rattle.armcaps_top.specs.Document.{document}
use Rattle.armcaps_top.specs.Run.{change}
use Rattle.armcaps_top.specs.declared.commands.Command.TheVariants.{Elf}
use Rattle.armcaps_top.proofs.Elves.{made_of}
use Rattle.armcaps_top.proofs.Performing.{wrote, wrote_part}
use Rattle.armcaps_top.proofs.commands.elf.elf.Goals as goal

pub returns-in-Ok-write_back : goal.returns-in-Ok-write_back
returns-in-Ok-write_back g c =
    let file = c.bytes_from-file.result.now in
    let flat = c.deref.result.now in
    let machines = c.patched_for.new.machines.items in
    wrote Elf (of_document Elf (document c.args.bytes.now)) (change g.O.Sink.held g.O.Sink.faults c.args.out.now c.write_back.new.sink) machines (put_image file flat)
    (made_of (reading_of c.in-Ok.read.0) file flat c.in-Ok-patched_for.made.1.items c.args.bytes.now c.in-Ok.read.1 machines c.in-Ok.ensures.document
    c.bytes_from-file.ensures c.deref.ensures.value c.in-Ok-patched_for.ensures.comes)
    c.in-Ok-write_back.ensures.whole

pub returns : goal.returns
returns g c =
    let file = c.bytes_from-file.result.now in
    let flat = c.deref.result.now in
    let machines = c.patched_for.new.machines.items in
    wrote_part Elf (of_document Elf (document c.args.bytes.now)) (change g.O.Sink.held g.O.Sink.faults c.args.out.now c.write_back.new.sink) machines (put_image file flat)
    (made_of (reading_of c.in-Ok.read.0) file flat c.in-Ok-patched_for.made.1.items c.args.bytes.now c.in-Ok.read.1 machines c.in-Ok.ensures.document
    c.bytes_from-file.ensures c.deref.ensures.value c.in-Ok-patched_for.ensures.comes)
    c.in-Err-write_back.ensures.cause c.in-Err-write_back.ensures.prefix
