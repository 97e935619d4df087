-- What reads is sound, and stands within its input.
use Rattle.std.proofs.Common.{◌≡◌, ℕ, zero, suc, ◌+◌, ◌<◌, ◌≤◌, ◌^◌, ◌==◌, ◌||◌, Bool, true, false, cond, List, [], ◌∷◌, length, map, take, find, Option, Some, None, is_some, option_and_then, refl, sym, ap, subst, ◌∙◌, arith}
use Rattle.std.proofs.lemmas.List.{length-map}
use Rattle.std.specs.List.{range_with_len, slice_get, slice_split, onto_first}
use Rattle.std.specs.Option.{option_map_or}
use Rattle.std.proofs.lemmas.Bool.{eqb-true}
use Rattle.std.proofs.lemmas.Bool.Decides.{nat_tests}
use Rattle.std.proofs.lemmas.List.Splits.{slice_split-cons_yes, slice_split-cons_no, length-slice_split}
use Rattle.std.proofs.lemmas.List.Sums.{sum_by-cons, sum_by-take-le}
use Rattle.armcaps_text.specs.Before.{Before, before}
use Rattle.armcaps_text.specs.Document.{Reading, Reads, Refuses, bytes_of, ends_at, kind_at, refused_or, outcome_at, outcome_after, reading_after, unended_kind, outcome_of_lines, outcome}
use Rattle.armcaps_text.specs.Formats.{format_named}
use Rattle.armcaps_text.specs.KindAtLine.{kind_after}
use Rattle.armcaps_text.specs.Learned.{learned}
use Rattle.armcaps_text.specs.Lines.{all_but_last, ended_lines, first_mebibyte, lines_of}
use Rattle.armcaps_text.specs.Meaning.{line_of, is_last}
use Rattle.armcaps_text.specs.Sound.{IsSound}
use Rattle.armcaps_text.specs.declared.format.Format.{Format}
use Rattle.armcaps_text.specs.declared.kind.TextKind.{TextKind}
use Rattle.armcaps_text.specs.declared.kind.TextKind.TheVariants as kind
use Rattle.armcaps_text.specs.declared.line.Line.{Line}
use Rattle.armcaps_text.specs.declared.line.Line.TheVariants.{Image}
use Rattle.armcaps_text.proofs.Images.{image_within, format_limits}
use Rattle.armcaps_text.proofs.LastLine.{last_is}
use Rattle.armcaps_text.proofs.OneMoreLine.{before-push}
use Rattle.armcaps_text.proofs.FirstLine.{all_but_last-cons, mebibyte_within}
use Rattle.armcaps_text.proofs.Soundness.{SoFar, sound_at_first, sound_next, sound_last}
use Rattle.armcaps_logic.proofs.Lists.{item_at}

-- the first number of a range that passes
record IsFirst (p : ℕ → Bool) (start count place : ℕ) : Type 0 where
  above : start ≤ place
  within : place < start + count
  passes : p place ≡ true
  earlier : (k : ℕ) → start ≤ k → k < place → p k ≡ false

found : (p : ℕ → Bool) (count start place : ℕ) → find p (range_with_len start count) ≡ Some place → IsFirst p start count place
found p zero start place h = cc
found p (suc count) start place h = by_first (p start) refl h (found p count (start + 1) place)
  where
    one_of : (k : ℕ) (same : Bool) → (k == start) ≡ same → p start ≡ false → start ≤ k → k < place → ((k : ℕ) → start + 1 ≤ k → k < place → p k ≡ false) → p k ≡ false
    one_of k true e first low high more = ap p (eqb-true k start e) ∙ first
    one_of k false e first low high more = let later : start + 1 ≤ k = grind (arith, nat_tests) in more k later high

    by_first : (passes : Bool) → p start ≡ passes → cond passes (Some start) (find p (range_with_len (start + 1) count)) ≡ Some place → (find p (range_with_len (start + 1) count) ≡ Some place → IsFirst p (start + 1) count place) → IsFirst p start (suc count) place
    by_first true e h more =
        let same : start ≡ place = cc in
        record { above = omega arith; within = omega arith; passes = ap p (sym same) ∙ e; earlier = λ k low high. absurd (omega (arith, same, low, high)) }
    by_first false e h more =
        let rest = more h in
        record {
          above = omega (arith, rest.above);
          within = omega (arith, rest.within);
          passes = rest.passes;
          earlier = λ k low high. one_of k (k == start) refl e low high rest.earlier;
        }

-- lines without a kind
so_far : (format : Format) (lines : List (Line (List ℕ))) (count : ℕ) → count ≤ length lines → ((k : ℕ) → k < count → kind_at format lines k ≡ None) → SoFar format (before (take count lines))
so_far format lines zero within none = sound_at_first format
so_far format lines (suc n) within none =
    let item = item_at lines n (omega (arith, within)) in
    let next : suc n ≡ n + 1 = omega arith in
    let kind : kind_after format (before (take n lines)) item.0 ≡ None = sym (ap (option_and_then (kind_after format (before (take n lines)))) item.1.here) ∙ none n (omega arith) in
    let all : before (take (suc n) lines) ≡ learned (before (take n lines)) item.0 = ap (λ (m : ℕ). before (take m lines)) next ∙ ap before item.1.taken ∙ before-push (take n lines) item.0 in
    subst (λ (one : Before). SoFar format one) (sym all)
    (sound_next format (before (take n lines)) item.0 kind (so_far format lines n (omega (arith, within)) (λ k lt. none k (omega (arith, lt)))))

no_kind : (found : Option TextKind) (last : Bool) → (is_some found || last) ≡ false → found ≡ None
no_kind None last h = refl
no_kind (Some kind) last h = cc

is_the_last : (found : Option TextKind) (last : Bool) → found ≡ None → (is_some found || last) ≡ true → last ≡ true
is_the_last None last none h = h
is_the_last (Some kind) last none h = cc

-- a text that ends at a line without a kind
sound_at : (format : Format) (texts : List (List ℕ)) (place : ℕ) → format.cores ≤ 512 → format.image ≤ 2 ^ 29 → IsFirst (ends_at format (map (line_of format) texts)) 0 (length texts) place → kind_at format (map (line_of format) texts) place ≡ None → IsSound (reading_after (before (take (place + 1) (map (line_of format) texts))))
sound_at format texts place cores image first none =
    let lines : List (Line (List ℕ)) = map (line_of format) texts in
    let within : place < length lines = omega (arith, first.within, length-map texts (line_of format)) in
    let item = item_at lines place within in
    let ends : option_map_or is_last (slice_get lines place) false ≡ true = is_the_last (kind_at format lines place) _ none first.passes in
    let last = last_is item.0 (sym (ap (λ (one : Option (Line (List ℕ))). option_map_or is_last one false) item.1.here) ∙ ends) in
    let here : slice_get lines place ≡ Some (Image last.0) = item.1.here ∙ ap (λ (one : Line (List ℕ)). Some one) last.1 in
    let kind : kind_after format (before (take place lines)) (Image last.0) ≡ None = sym (ap (option_and_then (kind_after format (before (take place lines)))) here) ∙ none in
    let short : last.0 ≤ 2 ^ 29 = omega (arith, image_within format texts place last.0 here, image) in
    let all : before (take (place + 1) lines) ≡ learned (before (take place lines)) (Image last.0) = ap before item.1.taken ∙ before-push (take place lines) item.0 ∙ ap (learned (before (take place lines))) last.1 in
    let sound = so_far format lines place (omega (arith, within)) (λ k lt. no_kind _ _ (first.earlier k (omega arith) lt)) in
    subst (λ (one : Before). IsSound (reading_after one)) (sym all) (sound_last format (before (take place lines)) last.0 cores short kind sound)

-- the bytes of the first lines are no more than those of all
bytes_first : (header : List ℕ) (texts : List (List ℕ)) (count : ℕ) → bytes_of (header ∷ take count texts) ≤ bytes_of (header ∷ texts)
bytes_first header texts count = omega (arith, sum_by-cons (λ (line : List ℕ). length line + 1) header texts, sum_by-cons (λ (line : List ℕ). length line + 1) header (take count texts), sum_by-take-le (λ (line : List ℕ). length line + 1) texts count)

-- what reads after a header
sound_after : (unended : TextKind) (header : List ℕ) (texts : List (List ℕ)) (format : Format) (reading : Reading) (place : ℕ) → format.cores ≤ 512 → format.image ≤ 2 ^ 29 → outcome_after unended header texts format ≡ Reads reading place → IsSound reading × (place ≤ bytes_of (header ∷ texts))
unfolding outcome_after
sound_after unended header texts format reading place cores image h = by_end (find (ends_at format (map (line_of format) texts)) (range_with_len 0 (length texts))) refl h
  where
    by_kind : (end : ℕ) (found : Option TextKind) → IsFirst (ends_at format (map (line_of format) texts)) 0 (length texts) end → kind_at format (map (line_of format) texts) end ≡ found → refused_or (end + 2) found (Reads (reading_after (before (take (end + 1) (map (line_of format) texts)))) (bytes_of (header ∷ take (end + 1) texts))) ≡ Reads reading place → IsSound reading × (place ≤ bytes_of (header ∷ texts))
    by_kind end (Some kind) first e h = cc
    by_kind end None first e h =
        let same : reading_after (before (take (end + 1) (map (line_of format) texts))) ≡ reading = cc in
        let bytes : bytes_of (header ∷ take (end + 1) texts) ≡ place = cc in
        (subst (λ (one : Reading). IsSound one) same (sound_at format texts end cores image first e), subst (λ (n : ℕ). n ≤ bytes_of (header ∷ texts)) bytes (bytes_first header texts (end + 1)))

    by_end : (end : Option ℕ) → find (ends_at format (map (line_of format) texts)) (range_with_len 0 (length texts)) ≡ end → outcome_at unended header texts format end ≡ Reads reading place → IsSound reading × (place ≤ bytes_of (header ∷ texts))
    by_end None e h = cc
    by_end (Some end) e h = by_kind end (kind_at format (map (line_of format) texts) end) (found (ends_at format (map (line_of format) texts)) (length texts) 0 end e) refl h

-- the bytes of all pieces of a text, each with one more
pieces_bytes : (text : List ℕ) → bytes_of (slice_split (λ byte. byte == 10) text) ≡ length text + 1
pieces_bytes [] = refl
pieces_bytes (byte ∷ text) = by_first (byte == 10) refl (pieces_bytes text)
  where
    by_first : (feed : Bool) → (byte == 10) ≡ feed → bytes_of (slice_split (λ byte. byte == 10) text) ≡ length text + 1 → bytes_of (slice_split (λ byte. byte == 10) (byte ∷ text)) ≡ length (byte ∷ text) + 1
    by_first true e more =
        let cons = sum_by-cons (λ (line : List ℕ). length line + 1) [] (slice_split (λ byte. byte == 10) text) in
        ap bytes_of (slice_split-cons_yes (λ byte. byte == 10) byte text e) ∙ omega (arith, cons, more)
    by_first false e more = ap bytes_of (slice_split-cons_no (λ byte. byte == 10) byte text e) ∙ onto (slice_split (λ byte. byte == 10) text) more
      where
        onto : (pieces : List (List ℕ)) → bytes_of pieces ≡ length text + 1 → bytes_of (onto_first byte pieces) ≡ length (byte ∷ text) + 1
        onto [] h = absurd (omega arith)
        onto (piece ∷ pieces) h = omega (arith, h, sum_by-cons (λ (line : List ℕ). length line + 1) piece pieces, sum_by-cons (λ (line : List ℕ). length line + 1) (byte ∷ piece) pieces)

-- without the last piece there is at least one less
bytes_but_last : (pieces : List (List ℕ)) → 0 < length pieces → bytes_of (all_but_last pieces) + 1 ≤ bytes_of pieces
bytes_but_last [] h = absurd (omega arith)
bytes_but_last (piece ∷ []) h = omega (arith, sum_by-cons (λ (line : List ℕ). length line + 1) piece [])
bytes_but_last (piece ∷ next ∷ pieces) h =
    let cut = ap bytes_of (all_but_last-cons piece (next ∷ pieces) (omega arith)) in
    omega (arith, cut, bytes_but_last (next ∷ pieces) (omega arith), sum_by-cons (λ (line : List ℕ). length line + 1) piece (next ∷ pieces), sum_by-cons (λ (line : List ℕ). length line + 1) piece (all_but_last (next ∷ pieces)))

-- the lines of a text take no more bytes than it has
lines_within : (text : List ℕ) → bytes_of (ended_lines text) ≤ length text
lines_within text =
    let some : 0 < length (slice_split (λ byte. byte == 10) text) = omega (arith, length-slice_split (λ byte. byte == 10) text) in
    omega (arith, pieces_bytes text, bytes_but_last (slice_split (λ byte. byte == 10) text) some)

-- what reads is sound, and ends within the input
pub sound_reading : (input : List ℕ) (reading : Reading) (place : ℕ) → outcome input ≡ Reads reading place → IsSound reading × (place ≤ length input)
unfolding outcome
sound_reading input reading place h = by_lines (lines_of input) refl h
  where
    by_format : (header : List ℕ) (texts : List (List ℕ)) (found : Option Format) → lines_of input ≡ header ∷ texts → format_named header ≡ found → option_map_or (outcome_after (unended_kind input) header texts) found (Refuses 1 kind.Header) ≡ Reads reading place → IsSound reading × (place ≤ length input)
    by_format header texts None cut named h = cc
    by_format header texts (Some format) cut named h =
        let limits = format_limits header format named in
        let sound = sound_after (unended_kind input) header texts format reading place limits.0 limits.1 h in
        let bytes : bytes_of (lines_of input) ≡ bytes_of (header ∷ texts) = ap bytes_of cut in
        (sound.0, omega (arith, sound.1, bytes, lines_within (first_mebibyte input), mebibyte_within input))

    by_lines : (lines : List (List ℕ)) → lines_of input ≡ lines → outcome_of_lines (unended_kind input) lines ≡ Reads reading place → IsSound reading × (place ≤ length input)
    by_lines [] cut h = cc
    by_lines (header ∷ texts) cut h = by_format header texts (format_named header) cut refl h
