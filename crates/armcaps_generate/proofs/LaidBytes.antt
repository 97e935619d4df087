-- Pieces that lie in a list of bytes one after the other, and numbers that are read there.
use Rattle.std.proofs.Common.{◌≡◌, ℕ, zero, suc, ◌+◌, ◌*◌, ◌<◌, ◌^◌, List, [], ◌∷◌, ◌++◌, length, drop, sym, ap, subst, ◌∙◌, arith, append_assoc, length-append, get_or}
use Rattle.std.proofs.Math.Seq.{drop-append_seam}
use Rattle.std.proofs.lemmas.List.{get_or-append-add}
use Rattle.std.proofs.lemmas.List.Concat.{flat_map-cons}
use Rattle.std.specs.Int.{to_le_bytes, w32}
use Rattle.std.specs.List.{flat_map}
use Rattle.armcaps_image.specs.Bytes.{word_in}

-- a piece lies in a list at a place
pub record HasAt (whole piece : List ℕ) (place : ℕ) : Type 0 where
  pub before : List ℕ
  pub after : List ℕ
  pub parts : whole ≡ before ++ (piece ++ after)
  pub size : length before ≡ place

-- behind others it lies so much further back
pub in_front : (front whole piece : List ℕ) (place : ℕ) → HasAt whole piece place → HasAt (front ++ whole) piece (length front + place)
in_front front whole piece place has = record {
  before = front ++ has.before;
  after = has.after;
  parts = ap (λ (bytes : List ℕ). front ++ bytes) has.parts ∙ sym (append_assoc front has.before (piece ++ has.after));
  size = omega (arith, length-append front has.before, has.size);
}

pub in_back : (whole back piece : List ℕ) (place : ℕ) → HasAt whole piece place → HasAt (whole ++ back) piece place
in_back whole back piece place has = record {
  before = has.before;
  after = has.after ++ back;
  parts = ap (λ (bytes : List ℕ). bytes ++ back) has.parts ∙ append_assoc has.before (piece ++ has.after) back ∙ ap (λ (bytes : List ℕ). has.before ++ bytes) (append_assoc piece has.after back);
  size = has.size;
}

-- a piece of a piece
pub inside : (whole piece part : List ℕ) (place within : ℕ) → HasAt whole piece place → HasAt piece part within → HasAt whole part (place + within)
inside whole piece part place within has holds =
    subst (λ (n : ℕ). HasAt whole part (n + within)) has.size
    (subst (λ (bytes : List ℕ). HasAt bytes part (length has.before + within)) (sym has.parts)
    (in_front has.before (piece ++ has.after) part within (in_back piece has.after part within holds)))

pub at_same : (whole piece : List ℕ) (one other : ℕ) → one ≡ other → HasAt whole piece one → HasAt whole piece other
at_same whole piece one other h has = subst (λ (n : ℕ). HasAt whole piece n) h has

-- one of several pieces of one length
pub pieces_at : {X : Type 0} (f : X → List ℕ) (size : ℕ) (xs : List X) (k : ℕ) (d : X) → ((j : ℕ) → j < length xs → length (f (get_or xs j d)) ≡ size) → k < length xs → HasAt (flat_map f xs) (f (get_or xs k d)) (size * k)
pieces_at f size [] k d each within = absurd (omega arith)
pieces_at f size (x ∷ xs) zero d each within = record { before = []; after = flat_map f xs; parts = flat_map-cons f x xs; size = omega arith }
pieces_at f size (x ∷ xs) (suc k) d each within =
    let more = pieces_at f size xs k d (λ j lt. each (suc j) (omega (arith, lt))) (omega (arith, within)) in
    let first : length (f x) ≡ size = each 0 (omega arith) in
    let place : length (f x) + size * k ≡ size * suc k = omega (arith, first) in
    subst (λ (bytes : List ℕ). HasAt bytes (f (get_or xs k d)) (size * suc k)) (sym (flat_map-cons f x xs))
    (at_same (f x ++ flat_map f xs) (f (get_or xs k d)) _ _ place (in_front (f x) (flat_map f xs) (f (get_or xs k d)) (size * k) more))

-- how long they are together
pub length-pieces : {X : Type 0} (f : X → List ℕ) (size : ℕ) (xs : List X) (d : X) → ((j : ℕ) → j < length xs → length (f (get_or xs j d)) ≡ size) → length (flat_map f xs) ≡ size * length xs
length-pieces f size [] d each = omega arith
length-pieces f size (x ∷ xs) d each =
    let more = length-pieces f size xs d (λ j lt. each (suc j) (omega (arith, lt))) in
    let first : length (f x) ≡ size = each 0 (omega arith) in
    ap length (flat_map-cons f x xs) ∙ omega (arith, length-append (f x) (flat_map f xs), first, more)

-- what is read from the place on
pub dropped : (whole piece : List ℕ) (place : ℕ) → (has : HasAt whole piece place) → drop place whole ≡ piece ++ has.after
dropped whole piece place has = ap (λ (n : ℕ). drop n whole) (sym has.size) ∙ ap (drop (length has.before)) has.parts ∙ drop-append_seam has.before (piece ++ has.after)

pub read_at : (whole piece : List ℕ) (place : ℕ) → (has : HasAt whole piece place) → (i : ℕ) → get_or whole (place + i) 0 ≡ get_or (piece ++ has.after) i 0
read_at whole piece place has i = ap (λ (n : ℕ). get_or whole (n + i) 0) (sym has.size) ∙ ap (λ (bytes : List ℕ). get_or bytes (length has.before + i) 0) has.parts ∙ get_or-append-add has.before (piece ++ has.after) i 0

-- a number of four bytes
pub word_read : (number : ℕ) (after : List ℕ) → number < 2 ^ 32 → word_in (to_le_bytes w32 number ++ after) 0 ≡ number
word_read number after small = omega arith

-- read where it lies
pub word_at_place : (whole : List ℕ) (number place : ℕ) → number < 2 ^ 32 → HasAt whole (to_le_bytes w32 number) place → word_in whole place ≡ number
word_at_place whole number place small has =
    let zeroth : get_or whole place 0 ≡ get_or (to_le_bytes w32 number ++ has.after) 0 0 = (let same : place + 0 ≡ place = omega arith in ap (λ (n : ℕ). get_or whole n 0) (sym same) ∙ read_at whole (to_le_bytes w32 number) place has 0) in
    let first = read_at whole (to_le_bytes w32 number) place has 1 in
    let second = read_at whole (to_le_bytes w32 number) place has 2 in
    let third : get_or whole (place + 2 + 1) 0 ≡ get_or (to_le_bytes w32 number ++ has.after) 3 0 = (let same : place + 2 + 1 ≡ place + 3 = omega arith in ap (λ (n : ℕ). get_or whole n 0) same ∙ read_at whole (to_le_bytes w32 number) place has 3) in
    omega (arith, zeroth, first, second, third, word_read number has.after small)
