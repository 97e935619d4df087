-- A set of capabilities as one number: the sum of 2 ^ n over its members n.
use Rattle.std.specs.Prelude.{ℕ, Bool, ◌==◌}
use Rattle.std.specs.Int.{bit_at}

-- whether a number is a member
abbrev pub holds : ℕ → ℕ → Bool
holds set number = bit_at set number == 1
