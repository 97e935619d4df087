-- The lines of a machine text.
use Rattle.std.specs.Prelude.{ℕ, ◌-◌, ◌==◌, List, length, take}
use Rattle.std.specs.List.{slice_split}

-- all pieces but the last
abbrev pub all_but_last : List (List ℕ) → List (List ℕ)
all_but_last pieces = take (length pieces - 1) pieces

-- the lines that end within these bytes: what stands before each line feed, without it
abbrev pub ended_lines : List ℕ → List (List ℕ)
ended_lines bytes = all_but_last (slice_split (λ byte. byte == 10) bytes)

-- the first 1,048,576 bytes of an input
unfoldable pub first_mebibyte : List ℕ → List ℕ
first_mebibyte input = take 1_048_576 input

-- the lines of an input: a line counts as ended only where its line feed is among the first 1,048,576 bytes
abbrev pub lines_of : List ℕ → List (List ℕ)
lines_of input = ended_lines (first_mebibyte input)
