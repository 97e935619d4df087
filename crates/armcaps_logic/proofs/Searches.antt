-- Searches in a list: what some and all items pass, what is found, and at which place.
use Rattle.std.proofs.Common.{◌≡◌, ℕ, zero, suc, ◌+◌, ◌<◌, ◌≤◌, inl, inr, Bool, true, false, ◌&&◌, ◌||◌, List, [], ◌∷◌, ◌++◌, length, get_or, Some, None, slice_get, position, find, refl, sym, ap, ◌∙◌, subst, arith}
use Rattle.std.specs.List.{list_all, list_any, position_or_len, range_with_len}
use Rattle.std.proofs.lemmas.Bool.{and_from, and_parts, cases_Bool, cases_lt, false_from_ne_true, false≢true, true_from_ne_false, le-ltb, lt-ltb, or_parts}
use Rattle.std.proofs.lemmas.Bool.Decides.{nat_tests}
use Rattle.std.proofs.lemmas.List.Folds.{list_all-append, list_all_at, list_any-append, list_any_at}
use Rattle.std.proofs.lemmas.Option.{get_or_from_slice_get, slice_get_within}
use Rattle.std.proofs.lemmas.List.Sums.{position_or_len_is}

-- an item of a list that passes a test whole passes it
pub list_all-item : {X : Type 0} (test : X → Bool) (xs : List X) (i : ℕ) (x : X) → list_all test xs ≡ true
    → slice_get xs i ≡ Some x → test x ≡ true
list_all-item test xs i x passes at =
    let inside : i < length xs = slice_get_within xs i x at in
    let read : test (get_or xs i x) ≡ test x = ap test (get_or_from_slice_get xs i x x at) in
    true_from_ne_false (test x) (λ fails. false≢true (sym (list_all_at test xs i x inside (read ∙ fails)) ∙ passes))

-- an item of a list in which none passes doesn't pass
pub list_any-item : {X : Type 0} (test : X → Bool) (xs : List X) (i : ℕ) (x : X) → list_any test xs ≡ false
    → slice_get xs i ≡ Some x → test x ≡ false
list_any-item test xs i x none at =
    let inside : i < length xs = slice_get_within xs i x at in
    let read : test (get_or xs i x) ≡ test x = ap test (get_or_from_slice_get xs i x x at) in
    false_from_ne_true (test x) (λ passes. false≢true (sym none ∙ list_any_at test xs i x inside (read ∙ passes)))

-- what both parts of a list pass, the list passes
pub list_all-both : {X : Type 0} (test : X → Bool) (xs ys : List X) → list_all test xs ≡ true → list_all test ys ≡ true
    → list_all test (xs ++ ys) ≡ true
list_all-both test xs ys front back = list_all-append test xs ys ∙ and_from (list_all test xs) (list_all test ys) front back

-- an item in the middle of a list
pub list_any-between : {X : Type 0} (test : X → Bool) (before after : List X) (x : X)
    → list_any test (before ++ x ∷ after) ≡ (test x || list_any test (before ++ after))
list_any-between test before after x = grind (arith, list_any-append)

pub list_all-between : {X : Type 0} (test : X → Bool) (before after : List X) (x : X)
    → list_all test (before ++ x ∷ after) ≡ (test x && list_all test (before ++ after))
list_all-between test before after x = grind (arith, list_all-append)

-- where no number of a range passes, each of them fails
pub none_in_range : (test : ℕ → Bool) (start count : ℕ) → list_any test (range_with_len start count) ≡ false
    → (k : ℕ) → start ≤ k → k < start + count → test k ≡ false
none_in_range test start zero none k low high = absurd (omega arith)
none_in_range test start (suc count) none k low high =
    let parts = or_parts (test start) (list_any test (range_with_len (start + 1) count)) none in
    elim (cases_lt start k) [
      | inl less ↦ none_in_range test (start + 1) count parts.1 k (omega arith) (omega arith)
      | inr same ↦ (let at : k ≡ start = omega arith in rw at parts.0)
    ]

-- what is found passes the test
pub find_passes : {X : Type 0} (test : X → Bool) (xs : List X) (x : X) → find test xs ≡ Some x → test x ≡ true
find_passes test [] x found = cc
find_passes test (y ∷ ys) x found = elim (cases_Bool (test y)) [
  | inl here ↦ (let first : Some y ≡ Some x = rw here at found in let same : y ≡ x = cc in subst (λ z. test z ≡ true) same here)
  | inr past ↦ find_passes test ys x (rw past at found)
]

-- what is found has each property that all items have
pub find_holds : {X : Type 0} (test property : X → Bool) (xs : List X) (x : X) → find test xs ≡ Some x
    → list_all property xs ≡ true → property x ≡ true
find_holds test property [] x found all = cc
find_holds test property (y ∷ ys) x found all =
    let parts = and_parts (property y) (list_all property ys) all in
    elim (cases_Bool (test y)) [
      | inl here ↦ (let first : Some y ≡ Some x = rw here at found in let same : y ≡ x = cc in subst (λ z. property z ≡ true) same parts.0)
      | inr past ↦ find_holds test property ys x (rw past at found) parts.1
    ]

-- nothing is found where no item passes
pub find-none : {X : Type 0} (test : X → Bool) (xs : List X) → list_any test xs ≡ false → find test xs ≡ None
find-none test [] none = refl
find-none test (x ∷ xs) none =
    let parts = or_parts (test x) (list_any test xs) none in
    let first = parts.0 in
    rw first (find-none test xs parts.1)

-- the same, place by place
pub find_absent : {X : Type 0} (test : X → Bool) (xs : List X)
    → ((k : ℕ) (d : X) → k < length xs → test (get_or xs k d) ≡ false) → find test xs ≡ None
find_absent test [] fail = refl
find_absent test (x ∷ xs) fail =
    let first = fail 0 x (omega arith) in
    rw first (find_absent test xs (λ k d lt. fail (suc k) d (omega arith)))

-- the first item that passes is found
pub find_present : {X : Type 0} (test : X → Bool) (xs : List X) (i : ℕ) (d : X) → i < length xs
    → ((k : ℕ) → k < i → test (get_or xs k d) ≡ false) → test (get_or xs i d) ≡ true → find test xs ≡ Some (get_or xs i d)
find_present test [] i d within before here = absurd (omega arith)
find_present test (x ∷ xs) zero d within before here = rw here refl
find_present test (x ∷ xs) (suc i) d within before here =
    let first = before 0 (omega arith) in
    let later = find_present test xs i d (omega arith) (λ k lt. before (suc k) (omega arith)) here in
    rw first later

-- the place of the first item that passes
pub position_found : {X : Type 0} (test : X → Bool) (xs : List X) (i : ℕ) → i < length xs
    → ((k : ℕ) (d : X) → k < i → test (get_or xs k d) ≡ false) → ((d : X) → test (get_or xs i d) ≡ true)
    → position test xs ≡ Some i
position_found test [] i within before here = absurd (omega arith)
position_found test (x ∷ xs) i within before here =
    let first : position_or_len test (x ∷ xs) ≡ i =
    position_or_len_is test (x ∷ xs) i x (omega arith) (λ k lt. before k x lt) (λ _. here x) in
    rw (first, lt-ltb i (length (x ∷ xs)) within)

-- no place where no item passes
pub position_absent : {X : Type 0} (test : X → Bool) (xs : List X)
    → ((k : ℕ) (d : X) → k < length xs → test (get_or xs k d) ≡ false) → position test xs ≡ None
position_absent test [] fail = refl
position_absent test (x ∷ xs) fail =
    let first : position_or_len test (x ∷ xs) ≡ length (x ∷ xs) =
    position_or_len_is test (x ∷ xs) (length (x ∷ xs)) x (omega arith) (λ k lt. fail k x lt) (λ lt. absurd (omega arith)) in
    rw (first, le-ltb (length (x ∷ xs)) (length (x ∷ xs)) (omega arith))

-- what a place that is known says
pub position_some : {X : Type 0} (test : X → Bool) (xs : List X) (place : ℕ) → position test xs ≡ Some place
    → (position_or_len test xs < length xs) × (place ≡ position_or_len test xs)
position_some test xs place known = grind (arith, nat_tests)

-- and what it says that there is none
pub position_none : {X : Type 0} (test : X → Bool) (xs : List X) → position test xs ≡ None → length xs ≤ position_or_len test xs
position_none test xs none = grind (arith, nat_tests)
