-- The tokens of a line.
use Rattle.std.specs.Prelude.{ℕ, ◌==◌, ◌||◌, Bool, not, List, [], ◌∷◌, length, drop}
use Rattle.std.specs.Borrow.{Bor}
use Rattle.std.specs.List.{after_first, position_or_len, slice_index, slice_index_or}
use Rattle.armcaps_lex.specs.Pieces.{pieces}
use Rattle.armcaps_text.specs.declared.tokens.Tokens.{Tokens}

-- a space cuts a line into tokens; a tab or a carriage return is a byte like others
abbrev pub tokens : List ℕ → List (List ℕ)
tokens line = pieces (32 ∷ []) line

-- a token of a line by its place, from 0 on; empty where the line has fewer
abbrev pub token_at : ℕ → List ℕ → List ℕ
token_at place line = slice_index_or (tokens line) place []

-- the tokens that a form of line can have, and how many there are
unfoldable pub tokens_of : List ℕ → Tokens (List ℕ)
tokens_of line = record {
  word = token_at 0 line;
  second = token_at 1 line;
  third = token_at 2 line;
  fourth = token_at 3 line;
  count = length (tokens line);
}

-- tokens as the bytes that they are
abbrev pub plain_tokens : Tokens (Bor (List ℕ)) → Tokens (List ℕ)
plain_tokens tokens = record {
  word = tokens.word.now;
  second = tokens.second.now;
  third = tokens.third.now;
  fourth = tokens.fourth.now;
  count = tokens.count;
}

-- a line without tokens, or whose first token begins with `#`, is passed over
abbrev pub is_passed_over : Tokens (List ℕ) → Bool
is_passed_over tokens = (length tokens.word == 0) || (slice_index tokens.word 0 == 35)

-- the byte is a space
abbrev pub is_space : ℕ → Bool
is_space byte = byte == 32

-- what stands after the first space that follows a line's first token; empty where there is none
unfoldable pub text_after_word : List ℕ → List ℕ
text_after_word line = after_first is_space (drop (position_or_len (λ byte. not (is_space byte)) line) line)
