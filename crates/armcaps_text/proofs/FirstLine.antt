-- The first line of a text and what it leaves.
use Rattle.std.proofs.Common.{◌≡◌, ℕ, suc, ◌+◌, ◌-◌, ◌<◌, ◌≤◌, ◌==◌, Bool, true, false, nat_le, min, List, [], ◌∷◌, length, take, drop, Some, None, refl, sym, ap, ◌∙◌, arith, length-take}
use Rattle.std.specs.List.{slice_split, position, position_or_len, All}
use Rattle.std.proofs.lemmas.Grind.{common_steps}
use Rattle.std.proofs.lemmas.Bool.Decides.{nat_tests}
use Rattle.std.proofs.lemmas.List.Splits.{slice_split_first, slice_split_none, length-slice_split}
use Rattle.std.proofs.lemmas.List.Sums.{fails_before_first}
use Rattle.armcaps_logic.proofs.Searches.{position_some}
use Rattle.armcaps_text.specs.Lines.{all_but_last, ended_lines, first_mebibyte}

abbrev is_feed : ℕ → Bool
is_feed = λ byte. byte == 10

pub all_but_last-cons : (line : List ℕ) (pieces : List (List ℕ)) → 0 < length pieces → all_but_last (line ∷ pieces) ≡ line ∷ all_but_last pieces
all_but_last-cons line pieces h =
    let e : length (line ∷ pieces) - 1 ≡ suc (length pieces - 1) = omega arith in
    ap (λ (n : ℕ). take n (line ∷ pieces)) e

-- what a place that is not there says
pub position_none : (p : ℕ → Bool) (xs : List ℕ) → position p xs ≡ None → length xs ≤ position_or_len p xs
position_none p xs h = grind (arith, nat_tests)

-- a text whose first line feed stands at a place has the bytes before it as its first line
pub ended_lines_some : (text : List ℕ) (end : ℕ) → position is_feed text ≡ Some end → ended_lines text ≡ take end text ∷ ended_lines (take (length text - (end + 1)) (drop (end + 1) text))
ended_lines_some text end h =
    let known = position_some is_feed text end h in
    let rest : List ℕ = drop (end + 1) text in
    let split : slice_split is_feed text ≡ take end text ∷ slice_split is_feed rest = rw known.1 (slice_split_first is_feed text 0 known.0) in
    let more : 0 < length (slice_split is_feed rest) = omega (arith, length-slice_split is_feed rest) in
    let whole : take (length text - (end + 1)) rest ≡ rest = grind (arith, common_steps) in
    ap all_but_last split ∙ all_but_last-cons _ _ more ∙ ap (λ (r : List ℕ). take end text ∷ ended_lines r) (sym whole)

-- a text without a line feed has no ended line
pub ended_lines_none : (text : List ℕ) → position is_feed text ≡ None → ended_lines text ≡ []
ended_lines_none text h =
    let far = position_none is_feed text h in
    let none : All (λ byte. is_feed byte ≡ false) text = λ k d lt. fails_before_first is_feed text k d (omega arith) in
    ap all_but_last (slice_split_none is_feed text none)

-- no more than there is
pub take_least : (bytes : List ℕ) (most : ℕ) → take (min (length bytes) most) bytes ≡ take most bytes
take_least bytes most = by_size (nat_le (length bytes) most) refl
  where
    by_size : (short : Bool) → nat_le (length bytes) most ≡ short → take (min (length bytes) most) bytes ≡ take most bytes
    by_size true h =
        let few : length bytes ≤ most = grind (arith, nat_tests) in
        let least : min (length bytes) most ≡ length bytes = omega arith in
        rw least (grind (arith, common_steps))
    by_size false h =
        let many : most < length bytes = grind (arith, nat_tests) in
        let least : min (length bytes) most ≡ most = omega arith in
        rw least refl

-- the first mebibyte is no more than that, and within the input
pub mebibyte_least : (input : List ℕ) → length (first_mebibyte input) ≤ 1_048_576
unfolding first_mebibyte
mebibyte_least input = omega (arith, length-take 1_048_576 input)

pub mebibyte_within : (input : List ℕ) → length (first_mebibyte input) ≤ length input
unfolding first_mebibyte
mebibyte_within input = omega (arith, length-take 1_048_576 input)
