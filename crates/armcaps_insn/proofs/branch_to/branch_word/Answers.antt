-- The code's offset is that of the definition.
use Rattle.std.proofs.Common.{◌-ℤ◌, pos, refl, sym}
use Rattle.armcaps_insn.proofs.Codes.{offset_code, rest_code}
use Rattle.armcaps_insn.proofs.Moves.{branch_is}
use Rattle.armcaps_insn.proofs.branch_to.branch_word.Goals as goal

pub returns-then-reaches-clause-branch : goal.returns-then-reaches-clause-branch
returns-then-reaches-clause-branch c =
    let offset = offset_code c.args.from c.args.to c.requires.place.below c.requires.low c.requires.high c.ranges.to in
    let aligned = rest_code (c.args.to -ℤ pos c.args.from) (rw offset at c.if-offset-ne0.false) in
    let near = rw (offset, c.jump26-immediate.ensures.value) at c.if-reaches.ensures in
    rw (c.with_offset.ensures, offset, c.jump26-immediate.ensures.value) (branch_is c.args.from c.args.to aligned (sym near))

pub returns-else-reaches-clause-value : goal.returns-else-reaches-clause-value
returns-else-reaches-clause-value c =
    let offset = offset_code c.args.from c.args.to c.requires.place.below c.requires.low c.requires.high c.ranges.to in
    let aligned = rest_code (c.args.to -ℤ pos c.args.from) (rw offset at c.if-offset-ne0.false) in
    let far = rw (offset, c.jump26-immediate.ensures.value) at c.if-reaches.ensures in
    rw (aligned, ← far) refl
