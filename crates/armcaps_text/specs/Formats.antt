-- The two formats of a machine text, which differ in their limits and in two lines.
use Rattle.std.specs.Prelude.{ℕ, ◌==◌, ◌&&◌, Bool, true, false, if◌then◌else◌, List, length, codes, Option, Some, None, option_and_then, unwrap_or, slice_get}
use Rattle.std.specs.Str.{bytes_eq}
use Rattle.armcaps_text.specs.Lines.{lines_of}
use Rattle.armcaps_text.specs.Tokens.{tokens, token_at}
use Rattle.armcaps_text.specs.declared.format.Format.{Format}

-- format 1: at most 64 cores, and an image of at most 128 MiB
abbrev pub format_one : Format
format_one = record { cores = 64; image = 134_217_728; input = 135_266_304; extended = false }

-- format 2: at most 512 cores, an image of at most 512 MiB, and the lines `sve_vl` and `offline`
abbrev pub format_two : Format
format_two = record { cores = 512; image = 536_870_912; input = 537_919_488; extended = true }

-- the tokens of the line are `armcaps` and this version
abbrev pub is_header : List ℕ → List ℕ → Bool
is_header version line =
    (length (tokens line) == 2) && bytes_eq (token_at 0 line) (codes "armcaps") && bytes_eq (token_at 1 line) version

-- the format that line 1 names
unfoldable pub format_named : List ℕ → Option Format
format_named line =
    if is_header (codes "1") line then Some format_one
    else (if is_header (codes "2") line then Some format_two else None)

-- the format by which an input is judged: the one that its line 1 names, or else format 1
abbrev pub format_of : List ℕ → Format
format_of input = unwrap_or (option_and_then format_named (slice_get (lines_of input) 0)) format_one
