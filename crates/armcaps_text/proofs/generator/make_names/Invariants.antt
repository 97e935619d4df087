use Rattle.std.proofs.Common.{◌≡◌, ℕ, map}
use Rattle.std.specs.List.{range_with_len}
use Rattle.armcaps_alt.specs.declared.named_number.Named.TheVariants.{Cap}
use Rattle.armcaps_text.proofs.generator.make_names.Given as goal

abbrev pub invariant-loop-number : goal.invariant-loop-number
invariant-loop-number l = l.numbers.items ≡ map (λ (number : ℕ). (number, Cap number)) (range_with_len 0 l.number)
