-- The offsets rise, so the search answers the place of the offset's pair, or that there is none.
use Rattle.std.proofs.Common.{Err, Ok, rules}
use Rattle.std.proofs.lemmas.List.Sorted.{answers_always}
use Rattle.armcaps_alt.proofs.Lookup.{value_searched}
use Rattle.armcaps_alt.proofs.number_names.Names.callback_at.Goals as goal

pub returns-in-Ok : goal.returns-in-Ok
returns-in-Ok c =
    let facts = c.in-Ok.ensures in
    let by_key = facts.position (λ pair. pair.0) (answers_always _ _ _ (λ f a r g called. search rules)) in
    rw (← c.self.view_is) (value_searched _ c.self.invariant.offsets_rise c.args.offset _ (Ok c.in-Ok.place) c.deref.ensures.value facts.bound by_key _ c.index.ensures)

pub returns-in-Err : goal.returns-in-Err
returns-in-Err c =
    let facts = c.in-Err.ensures in
    let by_key = facts.position (λ pair. pair.0) (answers_always _ _ _ (λ f a r g called. search rules)) in
    rw (← c.self.view_is) (value_searched _ c.self.invariant.offsets_rise c.args.offset _ (Err c.in-Err.field-0) c.deref.ensures.value facts.bound by_key)
