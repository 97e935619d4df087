-- What a sink has got of a text, piece after piece, from any place of the text on.
use Rattle.std.proofs.Common.{◌≡◌, ◌+◌, ◌-◌, ◌<◌, ◌≤◌, ◌++◌, ℕ, List, Option, ap, add-zero, append_assoc, arith, zero-add, get_or, length, refl, suc, sym, zero, ◌∙◌, subst}
use Rattle.std.proofs.lemmas.Grind.{same_number_lists}
use Rattle.std.proofs.lemmas.List.FromFn.{get_or-map-range_with_len, length-map-range_with_len}
use Rattle.armcaps_io.proofs.StreamLemmas.{Appends-trans}
use Rattle.armcaps_io.specs.Pieces.{bytes_from}
use Rattle.armcaps_io.specs.Streams.{Appends, AppendsPrefix}

-- a piece by its bytes
pub piece_bytes : (f : ℕ → ℕ) (from n : ℕ) (xs : List ℕ) → length xs ≡ n
    → ((j : ℕ) → j < length xs → get_or xs j 0 ≡ f (from + j)) → xs ≡ bytes_from f from n
piece_bytes f from n xs size each =
    same_number_lists xs (bytes_from f from n) (size ∙ sym (length-map-range_with_len f from n)) (λ k within.
    each k within ∙ sym (get_or-map-range_with_len f from n k (from + k) 0 (omega (arith, size)) refl))

-- two pieces, one behind the other
pub pieces_join : (f : ℕ → ℕ) (from n m : ℕ)
    → bytes_from f from n ++ bytes_from f (from + n) m ≡ bytes_from f from (n + m)
pieces_join f from zero m = rw (add-zero, zero-add) refl
pieces_join f from (suc n) m =
    let behind : from + suc n ≡ from + 1 + n = omega arith in
    let all : suc n + m ≡ suc (n + m) = omega arith in
    rw (behind, all, pieces_join f (from + 1) n m) refl

-- one piece more, which begins where the first ones end
pub sent_more : (a b c : Option (List ℕ)) (f : ℕ → ℕ) (from n at m : ℕ) → at ≡ from + n
    → Appends a b (bytes_from f from n) → Appends b c (bytes_from f at m) → Appends a c (bytes_from f from (n + m))
sent_more a b c f from n at m is before more =
    let next : Appends b c (bytes_from f (from + n) m) = rw (← is) more in
    subst (Appends a c) (pieces_join f from n m) (Appends-trans a b c _ _ before next)

regroup : (a b c d : List ℕ) → (a ++ b) ++ (c ++ d) ≡ (a ++ (b ++ c)) ++ d
regroup a b c d = simp append_assoc

-- a first part of the next piece, where the text goes on for so many bytes in all
pub prefix_behind : (a b c : Option (List ℕ)) (f : ℕ → ℕ) (from n at m all : ℕ) → at ≡ from + n → n + m ≤ all
    → Appends a b (bytes_from f from n) → AppendsPrefix b c (bytes_from f at m)
    → AppendsPrefix a c (bytes_from f from all)
prefix_behind a b c f from n at m all is within before more =
    let sent : List ℕ = bytes_from f from n in
    let tail : List ℕ = bytes_from f (from + (n + m)) (all - (n + m)) in
    let piece : (sent ++ more.part) ++ (more.rest ++ tail) ≡ (sent ++ bytes_from f at m) ++ tail =
    regroup sent more.part more.rest tail ∙ ap (λ xs. (sent ++ xs) ++ tail) more.whole in
    let next : sent ++ bytes_from f at m ≡ bytes_from f from (n + m) =
    ap (λ k. sent ++ bytes_from f k m) is ∙ pieces_join f from n m in
    let rest : bytes_from f from (n + m) ++ tail ≡ bytes_from f from (n + m + (all - (n + m))) =
    pieces_join f from (n + m) (all - (n + m)) in
    let size : n + m + (all - (n + m)) ≡ all = omega arith in
    record {
      part = sent ++ more.part;
      rest = more.rest ++ tail;
      whole = piece ∙ ap (λ xs. xs ++ tail) next ∙ rest ∙ ap (λ k. bytes_from f from k) size;
      appended = Appends-trans a b c sent more.part before more.appended;
    }
