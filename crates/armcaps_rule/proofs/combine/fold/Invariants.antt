use Rattle.std.proofs.Common.{◌≡◌, ◌∷◌, take, get_or, pos}
use Rattle.armcaps_rule.specs.Rule.{fold_of}
use Rattle.armcaps_rule.proofs.combine.fold.Given as goal

-- what is folded so far: the first value and those passed
abbrev pub invariant-loop-value : goal.invariant-loop-value
invariant-loop-value l =
    l.folded ≡ fold_of l.rule l.safe (get_or l.fn.values 0 (pos 0) ∷ take l.value-index l.value-items)
