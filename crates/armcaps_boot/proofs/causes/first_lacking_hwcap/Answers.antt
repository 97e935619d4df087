use Rattle.std.proofs.Common.{◌∙◌, sym, arith}
use Rattle.armcaps_boot.proofs.FirstNumbers.{first_of-first, first_of-none}
use Rattle.armcaps_boot.proofs.causes.first_lacking_hwcap.Goals as goal

pub returns-then-is_lacking : goal.returns-then-is_lacking
returns-then-is_lacking c =
    sym (first_of-first _ 0 57 c.loop-index.index (omega arith) (omega arith) (sym c.is_lacking.ensures ∙ c.if-is_lacking.true)
    (λ j low below. c.loop-index.invariant j below))

pub returns : goal.returns
returns c = sym (first_of-none _ 0 57 (λ k low high. c.loop-index.invariant k (omega arith)))
