-- The first piece of a text, and what it leaves.
use Rattle.std.proofs.Common.{◌≡◌, ℕ, suc, ◌+◌, ◌-◌, ◌<◌, ◌≤◌, Bool, true, false, not, nat_lt, List, [], ◌∷◌, get_or, length, take, drop, filter, Some, None, unwrap_or, refl, sym, ap, ◌∙◌, arith}
use Rattle.std.specs.List.{slice_split, position, position_or_len, All}
use Rattle.std.proofs.lemmas.Grind.{common_steps}
use Rattle.std.proofs.lemmas.Bool.Decides.{nat_tests}
use Rattle.std.proofs.lemmas.List.Splits.{slice_split_first, slice_split_none, slice_split-cons_yes}
use Rattle.std.proofs.lemmas.List.Sums.{fails_before_first, passes_at_first, prefix_len-le-length}
use Rattle.armcaps_logic.proofs.Searches.{position_some}
use Rattle.armcaps_lex.specs.Pieces.{separates, pieces}

-- a byte that is no separator
abbrev within_piece : (ℕ → Bool) → ℕ → Bool
within_piece separates = λ byte. not (separates byte)

-- what the separators of a text cut it into, without the empty pieces
abbrev pieces_of : (ℕ → Bool) → List ℕ → List (List ℕ)
pieces_of separates text = filter (λ piece. nat_lt 0 (length piece)) (slice_split separates text)

-- a leading separator cuts off no piece
pieces-separator : (separates : ℕ → Bool) (byte : ℕ) (bytes : List ℕ) → separates byte ≡ true → pieces_of separates (byte ∷ bytes) ≡ pieces_of separates bytes
pieces-separator separates byte bytes h = ap (filter (λ piece. nat_lt 0 (length piece))) (slice_split-cons_yes separates byte bytes h)

skip_step : (separates : ℕ → Bool) (byte : ℕ) (bytes : List ℕ) → separates byte ≡ true → drop (position_or_len (within_piece separates) bytes) bytes ≡ drop (position_or_len (within_piece separates) (byte ∷ bytes)) (byte ∷ bytes)
skip_step separates byte bytes h =
    let more : position_or_len (within_piece separates) (byte ∷ bytes) ≡ suc (position_or_len (within_piece separates) bytes) = rw h (omega arith) in
    ap (λ (n : ℕ). drop n (byte ∷ bytes)) (sym more)

-- nor do several
pieces-skip : (separates : ℕ → Bool) (text : List ℕ) → pieces_of separates text ≡ pieces_of separates (drop (position_or_len (within_piece separates) text) text)
pieces-skip separates [] = refl
pieces-skip separates (byte ∷ bytes) = by_first byte bytes (separates byte) refl (pieces-skip separates bytes)
  where
    by_first : (byte : ℕ) (bytes : List ℕ) (first : Bool) → separates byte ≡ first → pieces_of separates bytes ≡ pieces_of separates (drop (position_or_len (within_piece separates) bytes) bytes) → pieces_of separates (byte ∷ bytes) ≡ pieces_of separates (drop (position_or_len (within_piece separates) (byte ∷ bytes)) (byte ∷ bytes))
    by_first byte bytes true h ih = pieces-separator separates byte bytes h ∙ ih ∙ ap (pieces_of separates) (skip_step separates byte bytes h)
    by_first byte bytes false h ih =
        let none : position_or_len (within_piece separates) (byte ∷ bytes) ≡ 0 = rw h refl in
        ap (λ (n : ℕ). pieces_of separates (drop n (byte ∷ bytes))) (sym none)

-- a piece that is not empty is kept
kept : (piece : List ℕ) (pieces : List (List ℕ)) → 0 < length piece → filter (λ piece. nat_lt 0 (length piece)) (piece ∷ pieces) ≡ piece ∷ filter (λ piece. nat_lt 0 (length piece)) pieces
kept piece pieces h = grind (arith, nat_tests)

-- a text that begins with no separator has the bytes before its first separator as its first piece
pieces-first : (separates : ℕ → Bool) (text : List ℕ) → 0 < position_or_len separates text → pieces_of separates text ≡ take (position_or_len separates text) text ∷ pieces_of separates (drop (position_or_len separates text) text)
pieces-first separates text h = by_end (nat_lt (position_or_len separates text) (length text)) refl
  where
    place : ℕ
    place = position_or_len separates text

    by_end : (within : Bool) → nat_lt place (length text) ≡ within → pieces_of separates text ≡ take place text ∷ pieces_of separates (drop place text)
    by_end true e =
        let lt : place < length text = grind (arith, nat_tests) in
        let piece : 0 < length (take place text) = grind (arith, common_steps) in
        let split = slice_split_first separates text 0 lt in
        let first = ap (filter (λ piece. nat_lt 0 (length piece))) split ∙ kept (take place text) (slice_split separates (drop (place + 1) text)) piece in
        let cut : drop place text ≡ get_or text place 0 ∷ drop (place + 1) text = grind (arith, common_steps) in
        first ∙ ap (λ (more : List (List ℕ)). take place text ∷ more) (sym (ap (pieces_of separates) cut ∙ pieces-separator separates (get_or text place 0) (drop (place + 1) text) (passes_at_first separates text 0 lt)))
    by_end false e =
        let far : length text ≤ place = grind (arith, nat_tests) in
        let none : All (λ byte. separates byte ≡ false) text = λ k d lt. fails_before_first separates text k d (omega arith) in
        let one = ap (filter (λ piece. nat_lt 0 (length piece))) (slice_split_none separates text none) ∙ kept text [] (omega (arith, prefix_len-le-length (λ byte. not (separates byte)) text)) in
        let all : take place text ≡ text = grind (arith, common_steps) in
        let rest : drop place text ≡ [] = grind (arith, common_steps) in
        one ∙ ap (λ (piece : List ℕ). piece ∷ []) (sym all) ∙ ap (λ (more : List ℕ). take place text ∷ pieces_of separates more) (sym rest)

-- a piece has its first byte
piece_begins : (separates : ℕ → Bool) (byte : ℕ) (bytes : List ℕ) → within_piece separates byte ≡ true → 0 < position_or_len separates (byte ∷ bytes)
piece_begins separates byte bytes h = rw h (omega arith)

-- the first piece of a text begins at its first byte that is no separator, and ends before the next separator
cut_some : (separates : ℕ → Bool) (text rest : List ℕ) (start end : ℕ) → position (within_piece separates) text ≡ Some start → rest ≡ take (length text - start) (drop start text) → end ≡ unwrap_or (position separates rest) (length rest) → pieces_of separates text ≡ take end rest ∷ pieces_of separates (drop end rest)
cut_some separates text rest start end h e k =
    let known = position_some (within_piece separates) text start h in
    let whole : rest ≡ drop (position_or_len (within_piece separates) text) text = grind (arith, common_steps) in
    let until : end ≡ position_or_len separates rest = grind (arith, nat_tests, prefix_len-le-length) in
    let first : within_piece separates (get_or text start 0) ≡ true = rw known.1 (passes_at_first (within_piece separates) text 0 known.0) in
    let shape : rest ≡ get_or text start 0 ∷ drop (start + 1) text = grind (arith, common_steps) in
    let some : 0 < position_or_len separates rest = rw shape (piece_begins separates (get_or text start 0) (drop (start + 1) text) first) in
    let same : pieces_of separates text ≡ pieces_of separates rest = pieces-skip separates text ∙ ap (pieces_of separates) (sym whole) in
    same ∙ rw until (pieces-first separates rest some)

-- a text of separators alone has no piece
cut_none : (separates : ℕ → Bool) (text : List ℕ) → position (within_piece separates) text ≡ None → pieces_of separates text ≡ []
cut_none separates text h =
    let far : length text ≤ position_or_len (within_piece separates) text = grind (arith, nat_tests) in
    let all : drop (position_or_len (within_piece separates) text) text ≡ [] = grind (arith, common_steps) in
    pieces-skip separates text ∙ ap (pieces_of separates) all

-- the same of the separators of a list
pub pieces_some : (separators text rest : List ℕ) (start end : ℕ) → position (λ byte. not (separates separators byte)) text ≡ Some start → rest ≡ take (length text - start) (drop start text) → end ≡ unwrap_or (position (separates separators) rest) (length rest) → pieces separators text ≡ take end rest ∷ pieces separators (drop end rest)
pieces_some separators = cut_some (separates separators)

pub pieces_none : (separators text : List ℕ) → position (λ byte. not (separates separators byte)) text ≡ None → pieces separators text ≡ []
pieces_none separators = cut_none (separates separators)
