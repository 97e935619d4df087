-- Tests of the numbers of capabilities, hwcaps and vector lengths.
use Rattle.std.specs.Prelude.{ℕ, Bool, false, List, Option, map, find, slice_index_or}
use Rattle.std.specs.List.{range_with_len}

-- the first of so many numbers, from one on, that passes the test
unfoldable pub first_of : ℕ → ℕ → (ℕ → Bool) → Option ℕ
first_of from count test = find test (range_with_len from count)

-- a set of the numbers below a count, as a list that says of each whether it is in the set
unfoldable pub numbers : ℕ → (ℕ → Bool) → List Bool
numbers count test = map test (range_with_len 0 count)

-- whether a number is in such a set
abbrev pub is_in : List Bool → ℕ → Bool
is_in set number = slice_index_or set number false
