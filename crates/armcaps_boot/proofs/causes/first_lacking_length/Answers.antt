use Rattle.std.proofs.Common.{◌∙◌, ap, sym, arith, not, ◌&&◌}
use Rattle.armcaps_boot.specs.Causes.{has_length}
use Rattle.armcaps_boot.proofs.FirstNumbers.{first_of-first, first_of-none}
use Rattle.armcaps_boot.proofs.causes.first_lacking_length.Goals as goal

pub returns-then-is_short_of : goal.returns-then-is_short_of
returns-then-is_short_of c =
    sym (first_of-first _ 1 16 c.loop-length.length (omega arith) (omega arith)
    (ap (λ own. has_length c.args.lengths c.loop-length.length && not (has_length own c.loop-length.length)) (sym c.vls.ensures)
    ∙ sym c.is_short_of.ensures ∙ c.if-is_short_of.true)
    (λ j low below. c.loop-length.invariant j low below))

pub returns : goal.returns
returns c = sym (first_of-none _ 1 16 (λ k low high. c.loop-length.invariant k low (omega arith)))
