use Rattle.std.proofs.Common.{sym, ◌∙◌, ap, w64, of_z, to_z, rules, ◌≡◌, List, ◌⊎◌, inl, inr, ℤ}
use Rattle.std.proofs.lemmas.Int.{to_z-of_z}
use mir.Val.{SFits}
use Rattle.armcaps_rule.specs.declared.rule.Rule.{Rule}
use Rattle.armcaps_rule.specs.declared.rule.Rule.TheVariants.{Exact, Lower, Higher, HigherOrZero}
use Rattle.armcaps_rule.specs.Rule.{fold_of, merged}
use Rattle.armcaps_rule.proofs.Merging.{same_bits, fold_front}
use Rattle.armcaps_rule.proofs.Overrides.{forced_none, forced_exact_safe, forced_exact_other, forced_more}
use Rattle.armcaps_rule.proofs.combine.forced.Goals as goal

-- the fold as the code holds it
folded_bits : (rule : Rule) (safe r : ℤ) (values : List ℤ) → SFits w64 safe → SFits w64 r
    → r ≡ fold_of rule (to_z w64 (of_z w64 safe)) values → to_z w64 (of_z w64 r) ≡ fold_of rule safe values
folded_bits rule safe r values f g e = to_z-of_z w64 r g ∙ e ∙ ap (λ s. fold_of rule s values) (to_z-of_z w64 safe f)

pub returns-in-None : goal.returns-in-None
returns-in-None c =
    let fits : SFits w64 c.fold-folded.result = search rules in
    rw c.in-None.is (folded_bits _ _ _ _ c.ranges.safe fits c.fold-folded.ensures ∙ sym (forced_none _ _ _))

pub returns-then-value-safe : goal.returns-then-value-safe
returns-then-value-safe c =
    let fits : SFits w64 c.in-Some.value = search rules in
    let same = same_bits _ _ fits c.ranges.safe c.if-value-safe.true in
    rw (c.in-Some.is, c.in-Exact.is)
    (to_z-of_z _ _ c.ranges.safe ∙ sym (forced_exact_safe c.args.safe c.in-Some.value c.args.values.now same))

pub returns-else-value-safe : goal.returns-else-value-safe
returns-else-value-safe c =
    let fits : SFits w64 c.fold-folded.result = search rules in
    rw (c.in-Some.is, c.in-Exact.is)
    (folded_bits Exact c.args.safe c.fold-folded.result c.args.values.now c.ranges.safe fits (rw c.in-Exact.is at c.fold-folded.ensures)
    ∙ sym (forced_exact_other c.args.safe c.in-Some.value c.args.values.now (λ e. c.if-value-safe.false (ap (of_z w64) e))))

-- the rules other than Exact
not_exact : (rule : Rule) → (rule ≡ Lower) ⊎ ((rule ≡ Higher) ⊎ (rule ≡ HigherOrZero)) → rule ≡ Exact → ⊥
not_exact rule (inl h) e = cc
not_exact rule (inr (inl h)) e = cc
not_exact rule (inr (inr h)) e = cc

pub returns-in-Lower : goal.returns-in-Lower
returns-in-Lower c =
    let fits : SFits w64 c.merge.result = search rules in
    let folded_fits : SFits w64 c.fold-folded.result = search rules in
    let value_fits : SFits w64 c.in-Some.value = search rules in
    let values = c.args.values.now in
    let plain = rw (
      to_z-of_z w64 c.args.safe c.ranges.safe,
      to_z-of_z w64 c.fold-folded.result folded_fits,
      to_z-of_z w64 c.in-Some.value value_fits,
    ) at c.merge.ensures in
    let folded = rw (to_z-of_z w64 c.args.safe c.ranges.safe) at c.fold-folded.ensures in
    rw c.in-Some.is (to_z-of_z w64 c.merge.result fits ∙ plain
    ∙ ap (λ v. merged c.args.rule c.args.safe v c.in-Some.value) folded
    ∙ sym (fold_front c.args.rule c.args.safe values c.in-Some.value c.requires)
    ∙ sym (forced_more c.args.rule c.args.safe c.in-Some.value values (not_exact c.args.rule c.in-Lower.is)))
