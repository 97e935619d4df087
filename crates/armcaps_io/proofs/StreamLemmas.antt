-- What a sink got and what a source gave over several calls.
use Rattle.std.proofs.Common.{◌≡◌, ℕ, ◌+◌, ◌-◌, ◌<◌, List, [], ◌++◌, Option, None, Some, Result, Ok, Err, length, take, drop, sym, ap, subst, ◌∙◌, arith, append_assoc, append-nil, length-append, length-drop, take_all, take-append-drop}
use Rattle.std.proofs.Math.Seq.{take-add}
use Rattle.std.specs.Io.KnownBytes.{WriteAppends}
use Rattle.armcaps_io.specs.Streams.{Keeps, Appends, Consumes, IsAtEnd, AppendsPrefix, GivesAll, HasMoreThan, Moves}

pub Appends-trans : (a b c : Option (List ℕ)) (xs ys : List ℕ) → Appends a b xs → Appends b c ys
    → Appends a c (xs ++ ys)
Appends-trans None b c xs ys first second = tt
Appends-trans (Some p) None c xs ys first second = absurd first
Appends-trans (Some p) (Some q) None xs ys first second = absurd second
Appends-trans (Some p) (Some q) (Some r) xs ys first second = second ∙ ap (λ l. l ++ ys) first ∙ append_assoc p xs ys

pub Consumes-trans : (a b c : Option (List ℕ)) (xs ys : List ℕ) → Consumes a b xs → Consumes b c ys
    → Consumes a c (xs ++ ys)
Consumes-trans None b c xs ys first second = tt
Consumes-trans (Some p) None c xs ys first second = absurd first
Consumes-trans (Some p) (Some q) None xs ys first second = absurd second
Consumes-trans (Some p) (Some q) (Some r) xs ys first second =
    first ∙ ap (λ l. xs ++ l) second ∙ sym (append_assoc xs ys r)

-- what is kept gains nothing
pub Appends-of_Keeps : (a b : Option (List ℕ)) → Keeps a b → Appends a b []
Appends-of_Keeps None b kept = tt
Appends-of_Keeps (Some p) None kept = absurd kept
Appends-of_Keeps (Some p) (Some q) kept = kept ∙ sym (append-nil p)

-- the bytes from place n on, as a slice has them
rest_from : (piece : List ℕ) (n : ℕ) → take (length piece - n) (drop n piece) ≡ drop n piece
rest_from piece n = take_all (length piece - n) (drop n piece) (omega (arith, length-drop n piece))

-- the first n bytes were appended, and then m of the rest
pub Appends-further : (a b c : Option (List ℕ)) (piece : List ℕ) (n m : ℕ) → Appends a b (take n piece)
    → Appends b c (take m (take (length piece - n) (drop n piece))) → Appends a c (take (n + m) piece)
Appends-further a b c piece n m first second =
    let joined = ap (λ l. take n piece ++ take m l) (rest_from piece n) ∙ sym (take-add n m piece) in
    subst (Appends a c) joined (Appends-trans a b c _ _ first second)

-- the first n bytes were appended, and then none
pub AppendsPrefix-take : (a b c : Option (List ℕ)) (piece : List ℕ) (n : ℕ) → Appends a b (take n piece) → Keeps b c
    → AppendsPrefix a c piece
AppendsPrefix-take a b c piece n first kept =
    let appended = Appends-trans a b c _ _ first (Appends-of_Keeps b c kept) in record {
      part = take n piece;
      rest = drop n piece;
      whole = take-append-drop n piece;
      appended = subst (Appends a c) (append-nil (take n piece)) appended;
    }

-- the first f bytes of xs were moved, and then n more, which stand in ys
pub Moves-more : (a b c : Option (List ℕ)) (old xs ys : List ℕ) (f n : ℕ) → take f ys ≡ take f xs
    → Moves a b old (take f xs) → Consumes b c (take n (drop f ys)) → Moves a c old (take (f + n) ys)
Moves-more a b c old xs ys f n front before more =
    let next = take n (drop f ys) in record {
      part = before.part ++ next;
      grown = take-add f n ys ∙ ap (λ l. l ++ next) (front ∙ before.grown) ∙ append_assoc old before.part next;
      given = Consumes-trans a b c _ _ before.given more;
    }

-- a list grew by what a source gave, and then again
pub Moves-trans : (a b c : Option (List ℕ)) (xs ys zs : List ℕ) → Moves a b xs ys → Moves b c ys zs → Moves a c xs zs
Moves-trans a b c xs ys zs first second = record {
  part = first.part ++ second.part;
  grown = second.grown ∙ ap (λ l. l ++ second.part) first.grown ∙ append_assoc xs first.part second.part;
  given = Consumes-trans a b c _ _ first.given second.given;
}

-- what a list that was empty got up to the end is all that the source had
pub GivesAll-of_Moves : (a b : Option (List ℕ)) (bytes : List ℕ) → Moves a b [] bytes → IsAtEnd b → GivesAll a b bytes
GivesAll-of_Moves None b bytes moved ended = ended
GivesAll-of_Moves (Some xs) None bytes moved ended = absurd moved.given
GivesAll-of_Moves (Some xs) (Some ys) bytes moved ended =
    let all : xs ≡ moved.part = moved.given ∙ ap (λ l. moved.part ++ l) ended ∙ append-nil moved.part in
    (moved.grown ∙ sym all, ap Some ended)

-- a source that filled an empty list with more than n bytes had more than n bytes
pub HasMoreThan-of_Moves : (a b : Option (List ℕ)) (bytes : List ℕ) (n : ℕ) → Moves a b [] bytes → n < length bytes
    → HasMoreThan a n
HasMoreThan-of_Moves None b bytes n moved longer = tt
HasMoreThan-of_Moves (Some xs) None bytes n moved longer = absurd moved.given
HasMoreThan-of_Moves (Some xs) (Some ys) bytes n moved longer =
    omega (arith, longer, ap length moved.given, ap length moved.grown, length-append moved.part ys)

-- a write took a first part of the piece or nothing, and then nothing more was taken
pub AppendsPrefix-of_write : {E : Type 0} (written : Result ℕ E) (a b c : Option (List ℕ)) (piece : List ℕ)
    → WriteAppends a b written piece → Keeps b c → AppendsPrefix a c piece
AppendsPrefix-of_write (Ok n) a b c piece wrote kept = AppendsPrefix-take a b c piece n wrote kept
AppendsPrefix-of_write (Err e) a b c piece wrote kept =
    AppendsPrefix-take a b c piece 0 (Appends-of_Keeps a b wrote) kept
