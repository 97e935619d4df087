-- The lines of each core, as one more line is read.
use Rattle.std.proofs.Common.{◌≡◌, ◌<◌, Bool, true, false, cond, List, [], ◌∷◌, ◌++◌, length, drop, Option, Some, None, unwrap_or, count_by, refl, ap, ◌∙◌, arith, length-drop}
use Rattle.std.specs.List.{slice_split, onto_first, last_or}
use Rattle.std.proofs.lemmas.List.Splits.{length-slice_split}

-- one more item at the end of the last group; no group stays none
abbrev pub onto_last : {X : Type 0} → X → List (List X) → List (List X)
onto_last x [] = []
onto_last x (group ∷ []) = (group ++ x ∷ []) ∷ []
onto_last x (group ∷ next ∷ groups) = group ∷ onto_last x (next ∷ groups)

-- where there is a group, it makes no difference which end grows first
onto_first-push : {X : Type 0} (y : X) (groups more : List (List X)) → 0 < length groups → onto_first y (groups ++ more) ≡ onto_first y groups ++ more
onto_first-push y [] more h = absurd (omega arith)
onto_first-push y (group ∷ groups) more h = refl

onto_first-onto_last : {X : Type 0} (x y : X) (groups : List (List X)) → 0 < length groups → onto_first y (onto_last x groups) ≡ onto_last x (onto_first y groups)
onto_first-onto_last x y [] h = absurd (omega arith)
onto_first-onto_last x y (group ∷ []) h = refl
onto_first-onto_last x y (group ∷ next ∷ groups) h = refl

onto_last-cons : {X : Type 0} (x : X) (group : List X) (groups : List (List X)) → 0 < length groups → group ∷ onto_last x groups ≡ onto_last x (group ∷ groups)
onto_last-cons x group [] h = absurd (omega arith)
onto_last-cons x group (next ∷ groups) h = refl

some_group : {X : Type 0} (p : X → Bool) (xs : List X) → 0 < length (slice_split p xs)
some_group p xs = omega (arith, length-slice_split p xs)

-- one more item that cuts begins a group
slice_split-push_yes : {X : Type 0} (p : X → Bool) (xs : List X) (x : X) → p x ≡ true → slice_split p (xs ++ x ∷ []) ≡ slice_split p xs ++ [] ∷ []
slice_split-push_yes p [] x h = rw h refl
slice_split-push_yes p (y ∷ ys) x h = by_first (p y) (slice_split-push_yes p ys x h)
  where
    by_first : (cut : Bool) → slice_split p (ys ++ x ∷ []) ≡ slice_split p ys ++ [] ∷ [] → cond cut ([] ∷ slice_split p (ys ++ x ∷ [])) (onto_first y (slice_split p (ys ++ x ∷ []))) ≡ cond cut ([] ∷ slice_split p ys) (onto_first y (slice_split p ys)) ++ [] ∷ []
    by_first true ih = ap (λ (groups : List (List _)). [] ∷ groups) ih
    by_first false ih = ap (onto_first y) ih ∙ onto_first-push y (slice_split p ys) ([] ∷ []) (some_group p ys)

-- one more item that does not cut goes into the last group
slice_split-push_no : {X : Type 0} (p : X → Bool) (xs : List X) (x : X) → p x ≡ false → slice_split p (xs ++ x ∷ []) ≡ onto_last x (slice_split p xs)
slice_split-push_no p [] x h = rw h refl
slice_split-push_no p (y ∷ ys) x h = by_first (p y) (slice_split-push_no p ys x h)
  where
    by_first : (cut : Bool) → slice_split p (ys ++ x ∷ []) ≡ onto_last x (slice_split p ys) → cond cut ([] ∷ slice_split p (ys ++ x ∷ [])) (onto_first y (slice_split p (ys ++ x ∷ []))) ≡ onto_last x (cond cut ([] ∷ slice_split p ys) (onto_first y (slice_split p ys)))
    by_first true ih = ap (λ (groups : List (List _)). [] ∷ groups) ih ∙ onto_last-cons x [] (slice_split p ys) (some_group p ys)
    by_first false ih = ap (onto_first y) ih ∙ onto_first-onto_last x y (slice_split p ys) (some_group p ys)

-- the same of all groups but the first
drop_one-push : {X : Type 0} (groups more : List (List X)) → 0 < length groups → drop 1 (groups ++ more) ≡ drop 1 groups ++ more
drop_one-push [] more h = absurd (omega arith)
drop_one-push (group ∷ groups) more h = refl

drop_one-onto_last : {X : Type 0} (x : X) (groups : List (List X)) → drop 1 (onto_last x groups) ≡ onto_last x (drop 1 groups)
drop_one-onto_last x [] = refl
drop_one-onto_last x (group ∷ []) = refl
drop_one-onto_last x (group ∷ next ∷ groups) = refl

pub groups_push_yes : {X : Type 0} (p : X → Bool) (xs : List X) (x : X) → p x ≡ true → drop 1 (slice_split p (xs ++ x ∷ [])) ≡ drop 1 (slice_split p xs) ++ [] ∷ []
groups_push_yes p xs x h = ap (drop 1) (slice_split-push_yes p xs x h) ∙ drop_one-push (slice_split p xs) ([] ∷ []) (some_group p xs)

pub groups_push_no : {X : Type 0} (p : X → Bool) (xs : List X) (x : X) → p x ≡ false → drop 1 (slice_split p (xs ++ x ∷ [])) ≡ onto_last x (drop 1 (slice_split p xs))
groups_push_no p xs x h = ap (drop 1) (slice_split-push_no p xs x h) ∙ drop_one-onto_last x (slice_split p xs)

-- there are as many groups as items that cut
pub length_groups : {X : Type 0} (p : X → Bool) (xs : List X) → length (drop 1 (slice_split p xs)) ≡ count_by p xs
length_groups p xs = omega (arith, length-slice_split p xs, length-drop 1 (slice_split p xs))

-- the last group
abbrev pub last_group : {X : Type 0} → List (List X) → List X
last_group groups = unwrap_or (last_or None groups) []

pub last_group-push : {X : Type 0} (groups : List (List X)) (group : List X) → last_group (groups ++ group ∷ []) ≡ group
last_group-push groups group = from None groups
  where
    from : (o : Option (List _)) (groups : List (List _)) → unwrap_or (last_or o (groups ++ group ∷ [])) [] ≡ group
    from o [] = refl
    from o (first ∷ more) = from (Some first) more

pub last_group-onto_last : {X : Type 0} (x : X) (groups : List (List X)) → 0 < length groups → last_group (onto_last x groups) ≡ last_group groups ++ x ∷ []
last_group-onto_last x groups h = from None groups h
  where
    from : (o : Option (List _)) (groups : List (List _)) → 0 < length groups → unwrap_or (last_or o (onto_last x groups)) [] ≡ unwrap_or (last_or o groups) [] ++ x ∷ []
    from o [] h = absurd (omega arith)
    from o (group ∷ []) h = refl
    from o (group ∷ next ∷ more) h = from (Some group) (next ∷ more) (omega arith)
