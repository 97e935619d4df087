-- Places of an image: how far from its first byte they are. A place that an entry names may lie before the image.
use Rattle.std.specs.Prelude.{◌+◌, ℕ, ℤ, Bool, false, int_rem, nat_le, pos, negsuc}
use Rattle.std.specs.Ordering.{int_eq}

-- whether a place is a multiple of four bytes, where a word begins
abbrev pub is_aligned : ℤ → Bool
is_aligned place = int_eq (int_rem place (pos 4)) (pos 0)

-- whether so many bytes from a place on lie within an image of this size
abbrev pub is_within : ℕ → ℤ → ℕ → Bool
is_within size (pos place) count = nat_le (place + count) size
is_within size (negsuc n) count = false

-- a place as a number; one before the image is read as its begin, which no entry that is accepted has
abbrev pub as_place : ℤ → ℕ
as_place (pos n) = n
as_place (negsuc n) = 0
