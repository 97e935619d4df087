use Rattle.std.proofs.Common.{arith, sym, ◌∙◌, inl, inr, ap, of_z, w64}
use Rattle.std.proofs.lemmas.Int.{ints, to_z-of_z}
use Rattle.armcaps_rule.proofs.Merging.{same_bits, merge_exact_same, merge_exact_other, merge_lower, merge_higher, merge_zero, merge_not_zero}
use Rattle.armcaps_rule.proofs.combine.merge.Goals as goal

pub returns-then-current-other : goal.returns-then-current-other
returns-then-current-other c =
    to_z-of_z _ _ c.ranges.current
    ∙ sym (merge_exact_same _ _ _ _ c.in-Exact.is (same_bits c.args.current c.args.other c.ranges.current c.ranges.other c.if-current-other.true))

pub returns-else-current-other : goal.returns-else-current-other
returns-else-current-other c =
    to_z-of_z _ _ c.ranges.safe
    ∙ sym (merge_exact_other _ _ c.args.current c.args.other c.in-Exact.is (λ e. c.if-current-other.false (ap (of_z w64) e)))

pub returns-in-Lower : goal.returns-in-Lower
returns-in-Lower c = merge_lower _ _ _ _ _ c.in-Lower.is (grind (arith, to_z-of_z, c.min.ensures.value))

pub returns-in-Higher : goal.returns-in-Higher
returns-in-Higher c = merge_higher _ _ _ _ _ c.in-Higher.is (grind (arith, to_z-of_z, c.max.ensures.value))

pub returns-then-other-eq0 : goal.returns-then-other-eq0
returns-then-other-eq0 c = merge_zero _ _ _ _ c.in-HigherOrZero.is
    (elim c.if-other-eq0.either [
      | inl a ↦ inl (omega (arith, ints))
      | inr b ↦ inr (omega (arith, ints))
    ])

pub returns-else-other-eq0 : goal.returns-else-other-eq0
returns-else-other-eq0 c = merge_not_zero _ _ _ _ _ c.in-HigherOrZero.is
    (λ e. c.if-other-eq0.false.0 (ap (of_z w64) e))
    (λ e. c.if-other-eq0.false.1 (ap (of_z w64) e))
    (grind (arith, to_z-of_z, c.max-else-other-eq0.ensures.value))
