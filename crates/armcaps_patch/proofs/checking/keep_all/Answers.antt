-- One entry more, the first that is refused, and none that is.
use Rattle.std.proofs.Common.{◌≡◌, ◌^◌, ℕ, None, ap, arith, length, refl, subst, inl, inr, ◌∙◌}
use Rattle.std.proofs.lemmas.Bool.{cases_lt}
use Rattle.std.proofs.lemmas.List.{length-replicate}
use Rattle.armcaps_alt.specs.Entries.{Features, entry_at}
use Rattle.armcaps_alt.specs.Refusals.{refusal_of}
use Rattle.armcaps_boot.specs.Safety.{is_enabled}
use Rattle.armcaps_patch.specs.declared.choice.Choice.TheVariants.{Unasked}
use Rattle.armcaps_patch.specs.Features.{features_of}
use Rattle.armcaps_patch.proofs.Keeping.{each_more, few_more, kept_more, none_known, written_over}
use Rattle.armcaps_patch.proofs.Refusing.{first_refused, none_refused}
use Rattle.armcaps_patch.proofs.checking.keep_all.Goals as goal

pub loop-index-preserved : goal.loop-index-preserved
loop-index-preserved c =
    let features : Features = features_of c.args.boot.now c.args.names.now in
    let image = c.args.image.now in
    let at = c.loop-index.index in
    let found = c.in-Ok.ensures in
    let grown = c.in_ok-add-in-Ok.ensures in
    let is : c.entry_at-entry.result ≡ entry_at image c.args.layout at = c.entry_at-entry.ensures in
    let chosen = c.choose-is_selected.ensures.same (is_enabled c.args.boot.now) c.enabled_on-enabled.ensures in
    let here : refusal_of features image (entry_at image c.args.layout at) ≡ None = rw (chosen, is) at found.accepted in
    let numbers : length c.choose-is_selected.new.choices ≡ 2 ^ 15 = c.choose-is_selected.ensures.length ∙ ap length c.deref_mut.ensures.value ∙ c.loop-index.invariant.numbers in
    let written = written_over c.loop-index.choices.len c.choose-is_selected.new.choices c.loop-index.choices.items (omega (arith, numbers, c.loop-index.invariant.numbers)) (omega arith) in
    let looked_up = written_over c.loop-index.asked.len c.kind_of-callback.new.asked c.loop-index.asked.items (omega (arith, c.kind_of-callback.ensures.many, c.loop-index.invariant.callbacks)) (omega arith) in
    record {
      accepted = λ k within. elim (cases_lt k at) [
        | inl before ↦ c.loop-index.invariant.accepted k before
        | inr last ↦ (let same : at ≡ k = omega arith in subst (λ (j : ℕ). refusal_of features image (entry_at image c.args.layout j) ≡ None) same here)
      ];
      kept = kept_more features image c.args.layout at _ _ c.in-Ok.found c.loop-index.invariant.kept grown (rw (chosen, is) at found.kept);
      each = each_more _ _ _ c.in-Ok.found c.loop-index.invariant.each grown found.each;
      few = few_more _ _ c.in-Ok.found at c.loop-index.invariant.few grown;
      known = rw written c.choose-is_selected.ensures.known;
      numbers = ap length written ∙ numbers;
      asked = rw looked_up c.kind_of-callback.ensures.known;
      callbacks = ap length looked_up ∙ c.kind_of-callback.ensures.many;
    }

pub returns-in-Err-clause-refused : goal.returns-in-Err-clause-refused
returns-in-Err-clause-refused c = λ entry kind same.
    let features : Features = features_of c.args.boot.now c.args.names.now in
    let chosen = c.choose-is_selected.ensures.same (is_enabled c.args.boot.now) c.enabled_on-enabled.ensures in
    let here = rw (chosen, c.entry_at-entry.ensures) at c.in-Err.ensures.refused in
    let first = first_refused features c.args.image.now c.args.layout c.loop-index.index c.in-Err.kind c.loop-index-test.true c.loop-index.invariant.accepted here in
    let number : c.loop-index.index ≡ entry = cc in
    let why : c.in-Err.kind ≡ kind = cc in
    first ∙ rw (number, why) refl

pub returns-clause-accepted : goal.returns-clause-accepted
returns-clause-accepted c =
    none_refused (features_of c.args.boot.now c.args.names.now) c.args.image.now c.args.layout (λ k within. c.loop-index.invariant.accepted k (omega arith))

pub loop-index-init : goal.loop-index-init
loop-index-init c = record {
  accepted = λ k within. absurd (omega arith);
  kept = c.in_ok-kept.ensures.items;
  each = λ k d within. absurd (omega (arith, ap length c.in_ok-kept.ensures.items));
  few = omega (arith, ap length c.in_ok-kept.ensures.items);
  known = none_known c.args.names.now _ (2 ^ 15) _ c.in_ok-choices.ensures;
  numbers = ap length c.in_ok-choices.ensures ∙ length-replicate (2 ^ 15) Unasked;
  asked = c.in_ok-asked.ensures.known;
  callbacks = c.in_ok-asked.ensures.many;
}

pub choose-is_selected-requires-clause-number : goal.choose-is_selected-requires-clause-number
choose-is_selected-requires-clause-number c =
    let numbers : length c.deref_mut.result.now ≡ 2 ^ 15 = ap length c.deref_mut.ensures.value ∙ c.loop-index.invariant.numbers in
    rw c.entry_at-entry.ensures (omega (arith, numbers))
