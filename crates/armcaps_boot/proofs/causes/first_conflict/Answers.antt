use Rattle.std.proofs.Common.{◌∙◌, sym, arith}
use Rattle.armcaps_boot.specs.Scopes.{conflict_with}
use Rattle.armcaps_boot.proofs.FirstNumbers.{first_of-first, first_of-none, fails_more}
use Rattle.armcaps_boot.proofs.causes.first_conflict.Goals as goal

pub returns-then-is_in_conflict-clause-first : goal.returns-then-is_in_conflict-clause-first
unfolding conflict_with
returns-then-is_in_conflict-clause-first c =
    sym (first_of-first _ 0 53 c.loop-number.number (omega arith) (omega arith) (sym c.is_in_conflict.ensures ∙ c.if-is_in_conflict.true)
    (λ j low below. c.loop-number.invariant j below))

pub loop-number-preserved : goal.loop-number-preserved
loop-number-preserved c = fails_more _ c.loop-number.number c.loop-number.invariant (sym c.is_in_conflict.ensures ∙ c.if-is_in_conflict.false)

pub returns-clause-first : goal.returns-clause-first
unfolding conflict_with
returns-clause-first c = sym (first_of-none _ 0 53 (λ k low high. c.loop-number.invariant k (omega arith)))
