-- A word that moves keeps class, other bits and target, since it is the definition's.
use Rattle.std.proofs.Common.{◌≡◌, Ok, rules, sym}
use Rattle.armcaps_insn.specs.Moved.{corrected}
use Rattle.armcaps_insn.proofs.Moves.{moves}
use Rattle.armcaps_insn.proofs.correction.correct.Goals as goal

pub returns-then-reaches-clause-moved : goal.returns-then-reaches-clause-moved
returns-then-reaches-clause-moved c =
    let value : Ok c.with_offset.result ≡ corrected c.args.word c.args.from c.args.to c.args.low c.args.high = search rules in
    moves c.args.word c.args.from c.args.to c.args.low c.args.high c.with_offset.result c.requires c.ranges.word.fits (sym value)
