-- The bytes from the entry's place on are the image's.
use Rattle.std.proofs.Common.{◌≡◌, ◌+◌, ◌*◌, ◌-◌, arith, drop, length, length-drop, take, take_all}
use Rattle.armcaps_jump.proofs.jump_entry.entry_at.Goals as goal

pub returns-clause-value : goal.returns-clause-value
returns-clause-value c =
    let place = c.args.table + 16 * c.args.number in
    let all : take (length c.args.image.now - place) (drop place c.args.image.now) ≡ drop place c.args.image.now =
    take_all (length c.args.image.now - place) (drop place c.args.image.now) (omega (arith, length-drop place c.args.image.now)) in
    rw all at c.read.ensures.value
