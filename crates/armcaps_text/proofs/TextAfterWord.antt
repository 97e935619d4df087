-- What stands after the first token of a line.
use Rattle.std.proofs.Common.{◌≡◌, ℕ, ◌+◌, ◌-◌, Bool, not, List, [], length, take, drop, Some, None, sym, ap, ◌∙◌, arith}
use Rattle.std.specs.List.{position, position_or_len, after_first}
use Rattle.std.proofs.lemmas.Grind.{common_steps}
use Rattle.armcaps_logic.proofs.Searches.{position_some}
use Rattle.armcaps_text.proofs.FirstLine.{position_none}
use Rattle.armcaps_text.specs.Tokens.{is_space, text_after_word}

abbrev no_space : ℕ → Bool
no_space = λ byte. not (is_space byte)

-- what stands after the first space after a line's first byte that is no space
pub text_some : (line rest : List ℕ) (start end : ℕ) → position no_space line ≡ Some start → rest ≡ take (length line - start) (drop start line) → position is_space rest ≡ Some end → text_after_word line ≡ take (length rest - (end + 1)) (drop (end + 1) rest)
unfolding text_after_word
text_some line rest start end h e k =
    let known = position_some no_space line start h in
    let whole : rest ≡ drop (position_or_len no_space line) line = grind (arith, common_steps) in
    let space = position_some is_space rest end k in
    let all : take (length rest - (end + 1)) (drop (end + 1) rest) ≡ drop (end + 1) rest = grind (arith, common_steps) in
    ap (after_first is_space) (sym whole) ∙ ap (λ (n : ℕ). drop (n + 1) rest) (sym space.1) ∙ sym all

-- a line with one token has no text
pub text_none : (line rest : List ℕ) (start : ℕ) → position no_space line ≡ Some start → rest ≡ take (length line - start) (drop start line) → position is_space rest ≡ None → text_after_word line ≡ []
unfolding text_after_word
text_none line rest start h e k =
    let known = position_some no_space line start h in
    let whole : rest ≡ drop (position_or_len no_space line) line = grind (arith, common_steps) in
    let far = position_none is_space rest k in
    let over : drop (position_or_len is_space rest + 1) rest ≡ [] = grind (arith, common_steps) in
    ap (after_first is_space) (sym whole) ∙ over

-- a line of spaces alone has no text
pub text_blank : (line : List ℕ) → position no_space line ≡ None → text_after_word line ≡ []
unfolding text_after_word
text_blank line h =
    let far = position_none no_space line h in
    let all : drop (position_or_len no_space line) line ≡ [] = grind (arith, common_steps) in
    ap (after_first is_space) all

-- what is known of what stands after the first token
pub ruleset text_after = (text_some, text_none, text_blank)
