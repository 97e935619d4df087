-- The words of a line.
use Rattle.std.specs.Prelude.{ℕ, List, codes, All, IsUtf8}
use Rattle.armcaps_lex.specs.Pieces.{pieces}

-- what spaces cut a line into
abbrev pub words_in : List ℕ → List (List ℕ)
words_in line = pieces (codes " ") line

-- each word is text: it is UTF-8
abbrev pub AreText : List (List ℕ) → Type 0
AreText words = All IsUtf8 words
