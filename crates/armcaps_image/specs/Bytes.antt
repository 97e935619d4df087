-- Numbers in bytes, the lowest byte first.
use Rattle.std.specs.List.{All}
use Rattle.std.specs.Prelude.{◌+◌, ◌*◌, ◌/◌, ◌%◌, ◌^◌, ◌<◌, ◌-ℤ◌, ℕ, ℤ, List, if◌then◌else◌, nat_le, pos, slice_index}

-- the number in the two bytes at a place
abbrev pub half_in : List ℕ → ℕ → ℕ
half_in bytes place = slice_index bytes place + 2 ^ 8 * slice_index bytes (place + 1)

-- the number in the four bytes at a place
abbrev pub word_in : List ℕ → ℕ → ℕ
word_in bytes place = half_in bytes place + 2 ^ 16 * half_in bytes (place + 2)

-- the number in the eight bytes at a place
abbrev pub quad_in : List ℕ → ℕ → ℕ
quad_in bytes place = word_in bytes place + 2 ^ 32 * word_in bytes (place + 4)

-- the number in the four bytes at a place, in two's complement
abbrev pub signed_in : List ℕ → ℕ → ℤ
signed_in bytes place =
    let word = word_in bytes place in
    if nat_le (2 ^ 31) word then pos word -ℤ pos (2 ^ 32) else pos word

-- a number of eight bytes, read in two's complement
abbrev pub as_signed_quad : ℕ → ℤ
as_signed_quad quad = if nat_le (2 ^ 63) quad then pos quad -ℤ pos (2 ^ 64) else pos quad

-- each of these numbers is a byte
abbrev pub AreBytes : List ℕ → Type 0
AreBytes bytes = All (λ byte. byte < 2 ^ 8) bytes

-- a byte of a word, counted from the lowest, which is 0
abbrev pub byte_of : ℕ → ℕ → ℕ
byte_of word index = word / 2 ^ (8 * index) % 2 ^ 8
