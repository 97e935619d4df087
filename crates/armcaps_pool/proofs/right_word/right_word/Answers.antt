use Rattle.std.proofs.Common.{◌∙◌, sym, rules, w64, of_z, to_z}
use Rattle.std.proofs.lemmas.Int.{to_z-of_z}
use mir.Val.{SFits}
use Rattle.armcaps_pool.proofs.Rightful.{right_is}
use Rattle.armcaps_pool.proofs.right_word.right_word.Goals as goal

pub returns-in-Some : goal.returns-in-Some
returns-in-Some c =
    let fits : SFits w64 c.in-Some.target = search rules in
    right_is c.args.original c.args.found c.args.from c.args.to c.args.low c.args.high c.requires.moves.0
    c.moved_word.result c.decode-insn.result c.in-Some.target (to_z w64 (of_z w64 c.in-Some.target)) c.requires.places
    c.ranges.original.fits c.ranges.found.fits c.decode-insn.ensures.value (sym c.address.ensures.value ∙ c.in-Some.is)
    (to_z-of_z w64 c.in-Some.target fits) c.requires.moves.1 c.moved_word.ensures.stays c.moved_word.ensures.moves
