-- The words of a command line. That `--` ends what counts is Linux's rule (arch/arm64/kernel/idreg-override.c,
-- `__parse_cmdline`); that spaces and tabs alone cut it is this project's own.
use Rattle.std.specs.Prelude.{ℕ, Bool, List, [], ◌∷◌, codes}
use Rattle.std.specs.List.{before_first}
use Rattle.std.specs.Str.{bytes_eq}
use Rattle.armcaps_lex.specs.Pieces.{pieces}

-- what the spaces and tabs of a text cut it into, without the empty pieces
abbrev pub all_words : List ℕ → List (List ℕ)
all_words text = pieces (32 ∷ 9 ∷ []) text

-- the word `--`, after which the words are not the kernel's
abbrev pub is_end : List ℕ → Bool
is_end word = bytes_eq word (codes "--")

-- the words of a command line that count: those before the first word `--`
unfoldable pub counted_words : List ℕ → List (List ℕ)
counted_words text = before_first is_end (all_words text)
