-- The numbers of a text.
use Rattle.std.specs.Prelude.{ℕ, nat_le, nat_eq, if◌then◌else◌, List, length, codes, Option, Some, None, option_and_then}
use Rattle.std.specs.List.{starts_with}
use Rattle.armcaps_lex.specs.Digits.{value_of}

-- how many bytes a number may have: 20 decimal digits, or `0x` and 16 hexadecimal digits
abbrev pub most_bytes : List ℕ → ℕ
most_bytes token = if starts_with nat_eq token (codes "0x") then 18 else 20

-- the number that a token is: 1 to 20 decimal digits, or `0x` and 1 to 16 hexadecimal digits of either case, below 2^64
unfoldable pub number_of : List ℕ → Option ℕ
number_of token = if nat_le (length token) (most_bytes token) then value_of token else None

-- the number that a token is, where it is at most this
abbrev pub number_up_to : ℕ → List ℕ → Option ℕ
number_up_to most token = option_and_then (λ number. if nat_le number most then Some number else None) (number_of token)
