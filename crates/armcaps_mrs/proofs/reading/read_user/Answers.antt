use Rattle.std.proofs.Common.{arith, sym, ◌∙◌}
use Rattle.std.proofs.lemmas.Option.{slice_get_within}
use Rattle.armcaps_mrs.proofs.reading.read_user.Goals as goal

-- src/reading.rt:27:20
pub value-requires : goal.value-requires
value-requires c =
    let state_within = slice_get_within c.args.boot.now.states c.args.core _ (sym c.state-state.ensures ∙ c.in-Some-Admitted.is) in
    omega (arith, c.facts_hold.ensures.sizes, state_within)
