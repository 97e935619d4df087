-- A text that is known byte by byte.
use Rattle.std.specs.Prelude.{ℕ, List, map}
use Rattle.std.specs.List.{range_with_len}

-- so many bytes of a text from a place on, by the byte at each place
abbrev pub bytes_from : (ℕ → ℕ) → ℕ → ℕ → List ℕ
bytes_from byte from count = map byte (range_with_len from count)
