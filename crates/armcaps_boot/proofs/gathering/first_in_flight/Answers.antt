use Rattle.std.proofs.Common.{◌∙◌, sym, arith}
use Rattle.armcaps_boot.proofs.FirstNumbers.{first_of-first, first_of-none}
use Rattle.armcaps_boot.proofs.gathering.first_in_flight.Goals as goal

pub returns-then-is_in_flight : goal.returns-then-is_in_flight
returns-then-is_in_flight c =
    sym (first_of-first _ 0 _ c.loop-number.number (omega arith) (omega arith) (sym c.is_in_flight.ensures ∙ c.if-is_in_flight.true)
    (λ j low below. c.loop-number.invariant j below))

pub returns : goal.returns
returns c = sym (first_of-none _ 0 _ (λ k low high. c.loop-number.invariant k (omega arith)))
