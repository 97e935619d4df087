-- Each byte of the word is that of the new word, or the original's where no site covers it.
use Rattle.std.proofs.Common.{◌≡◌, ◌+◌, ◌-◌, ◌*◌, ◌%◌, ◌&&◌, None, arith, nat_le, nat_lt, true, sym, ◌∙◌}
use Rattle.std.proofs.lemmas.Bool.Decides.{nat_tests}
use Rattle.armcaps_patch.specs.Kept.{Planned, kept_covers, plan_of}
use Rattle.armcaps_patch.specs.declared.kept.Kept.{Kept}
use Rattle.armcaps_patch.proofs.Planned.{byte_kept, byte_new}
use Rattle.armcaps_patch.proofs.Stamps.{stamped, unstamped}
use Rattle.armcaps_patch.proofs.pieces.put_stamped.Goals as goal

abbrev nothing : Kept
nothing = record { site = 0; repl = 0; len = 0; callback = None }

pub returns-then-stamp-ne0-clause-new : goal.returns-then-stamp-ne0-clause-new
returns-then-stamp-ne0-clause-new c = λ i small.
    let plan : Planned = plan_of c.args.kept.now c.args.image.now c.args.ctr c.args.conduit in
    let place = c.args.from + 4 * c.args.k in
    let told = stamped (kept_covers place) c.args.stamp (c.args.stamp - 1) c.args.kept.now nothing c.requires.stamp (omega arith) in
    let aligned : place % 4 ≡ 0 = omega (arith, c.requires.piece.aligned) in
    let byte = byte_new plan c.args.image.now place i c.requires.piece.each aligned small (c.args.stamp - 1) nothing told.2 told.0 told.1 in
    let put = c.put_word.ensures (4 * c.args.k + i) in
    let within : (nat_le (4 * c.args.k) (4 * c.args.k + i) && nat_lt (4 * c.args.k + i) (4 * c.args.k + 4)) ≡ true = grind (arith, nat_tests) in
    let index : 4 * c.args.k + i - 4 * c.args.k ≡ i = omega arith in
    (rw (within, index, c.stamped_word.ensures) at put) ∙ sym byte

pub returns-else-stamp-ne0-clause-new : goal.returns-else-stamp-ne0-clause-new
returns-else-stamp-ne0-clause-new c = λ i small.
    let plan : Planned = plan_of c.args.kept.now c.args.image.now c.args.ctr c.args.conduit in
    let place = c.args.from + 4 * c.args.k in
    let aligned : place % 4 ≡ 0 = omega (arith, c.requires.piece.aligned) in
    c.requires.original i small ∙ sym (byte_kept plan c.args.image.now place i c.requires.piece.each aligned small (unstamped (kept_covers place) c.args.stamp c.args.kept.now c.requires.stamp (omega arith)))
