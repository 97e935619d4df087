use Rattle.armcaps_text.specs.Document.{reading_of}
use Rattle.armcaps_top.proofs.Elves.{made_for}
use Rattle.armcaps_top.proofs.Performing.{only_through}
use Rattle.armcaps_top.proofs.commands.elf.patched_for.Goals as goal

pub returns-clause-comes : goal.returns-clause-comes
returns-clause-comes c =
    let up = c.in_ok-names.ensures.up in
    let made = c.patched_flat.ensures in
    made_for (λ made. made.1.items) (record { reading = reading_of c.args.machine; image = c.args.file.now }) c.args.machines.now.items c.bring.new.machines.items
    up c.requires.none c.only.result.now c.in_ok-names.names c.patched_flat.result (only_through c.only.result.now up c.requires.none c.only.ensures)
    c.in_ok-names.ensures.names made.accepted made.patched made.refused
