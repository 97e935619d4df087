-- The numbers that digits write.
use Rattle.std.specs.Prelude.{ℕ, ◌+◌, ◌*◌, ◌^◌, ◌&&◌, nat_lt, nat_eq, if◌then◌else◌, List, length, drop, codes, fold, Option, Some, None}
use Rattle.std.specs.Char.{digit_value, is_digit}
use Rattle.std.specs.List.{list_all, starts_with}

-- the number that digits write in a base
abbrev pub value_in : ℕ → List ℕ → ℕ
value_in base digits = fold (λ value digit. value * base + digit_value digit) 0 digits

-- the number that bytes write in a base: at least one byte, each of them a digit of the base, the number below 2^64
abbrev pub digits_number : ℕ → List ℕ → Option ℕ
digits_number base digits =
    if nat_lt 0 (length digits) && list_all (λ byte. is_digit byte base) digits
    && nat_lt (value_in base digits) (2 ^ 64)
    then Some (value_in base digits)
    else None

-- the number that bytes write: decimal digits, or `0x` and hexadecimal digits of either case
unfoldable pub value_of : List ℕ → Option ℕ
value_of bytes =
    if starts_with nat_eq bytes (codes "0x") then digits_number 16 (drop 2 bytes) else digits_number 10 bytes
