-- The entry before the stamp's number is the last that covers the place.
use Rattle.std.proofs.Common.{None, arith}
use Rattle.std.proofs.lemmas.Bool.Decides.{nat_tests}
use Rattle.armcaps_patch.specs.Kept.{kept_covers}
use Rattle.armcaps_patch.specs.declared.kept.Kept.{Kept}
use Rattle.armcaps_patch.proofs.Stamps.{stamped}
use Rattle.armcaps_patch.proofs.pieces.stamped_word.Goals as goal

abbrev nothing : Kept
nothing = record { site = 0; repl = 0; len = 0; callback = None }

pub overflow_sub-place : goal.overflow_sub-place
overflow_sub-place c =
    let told = stamped (kept_covers c.args.place) c.args.stamp c.in-Some.number c.args.kept.now nothing c.requires.stamp (omega (arith, c.in-Some.ensures)) in
    let covers = told.1 in
    grind (arith, nat_tests)

pub new_word-requires-clause-index : goal.new_word-requires-clause-index
new_word-requires-clause-index c =
    let told = stamped (kept_covers c.args.place) c.args.stamp c.in-Some.number c.args.kept.now nothing c.requires.stamp (omega (arith, c.in-Some.ensures)) in
    let covers = told.1 in
    grind (arith, nat_tests)

pub returns-in-Some : goal.returns-in-Some
returns-in-Some c =
    let told = stamped (kept_covers c.args.place) c.args.stamp c.in-Some.number c.args.kept.now nothing c.requires.stamp (omega (arith, c.in-Some.ensures)) in
    rw told.0 c.new_word.ensures
