-- The last item that passes.
use Rattle.std.proofs.Common.{◌&&◌, zero, zero-add, ◌≡◌, ◌+◌, ◌<◌, ◌≤◌, ◌∷◌, ◌++◌, ◌∙◌, ℕ, Bool, List, [], None, Some, ap, arith, drop, false, get_or, inl, inr, length, map, refl, subst, sym, suc, take, true}
use Rattle.std.specs.List.{filter, range_with_len}
use Rattle.std.specs.Option.{option_map, option_or}
use Rattle.std.proofs.lemmas.Bool.{cases_Bool, cases_lt}
use Rattle.std.proofs.lemmas.List.{get_or-drop, get_or-take, length-drop, length-take, take-append-drop}
use Rattle.armcaps_logic.proofs.Lists.{range_with_len-push}
use Rattle.armcaps_logic.proofs.Options.{option_cases, option_or-none}
use Rattle.armcaps_image.specs.Last.{last_that}

-- two tests that agree on a list have the same last item
pub last_that-same : {X : Type 0} (one other : X → Bool) (xs : List X)
    → ((k : ℕ) (d : X) → k < length xs → one (get_or xs k d) ≡ other (get_or xs k d))
    → last_that one xs ≡ last_that other xs
last_that-same one other [] same = refl
last_that-same one other (x ∷ xs) same =
    let first = same 0 x (omega arith) in
    let rest = last_that-same one other xs (λ k d within. same (suc k) d (omega arith)) in
    rw (rest, first) refl

-- where no item passes there is none
pub last_that-none : {X : Type 0} (test : X → Bool) (xs : List X)
    → ((k : ℕ) (d : X) → k < length xs → test (get_or xs k d) ≡ false) → last_that test xs ≡ None
last_that-none test [] fail = refl
last_that-none test (x ∷ xs) fail =
    let first = fail 0 x (omega arith) in
    let rest = last_that-none test xs (λ k d within. fail (suc k) d (omega arith)) in
    rw (rest, first) refl

-- the last of the images that passes is the image of the last that does
pub last_that-map : {X Y : Type 0} (f : X → Y) (test : Y → Bool) (xs : List X)
    → last_that test (map f xs) ≡ option_map f (last_that (λ x. test (f x)) xs)
last_that-map f test [] = refl
last_that-map f test (x ∷ xs) = rw (last_that-map f test xs) (elim (option_cases (last_that (λ x. test (f x)) xs)) [
  | inr (y, later) ↦ rw later refl
  | inl none ↦ rw none (elim (cases_Bool (test (f x))) [ inl here ↦ rw here refl | inr past ↦ rw past refl ])
])

-- the last that passes passes
pub last_that-passes : {X : Type 0} (test : X → Bool) (xs : List X) (x : X) → last_that test xs ≡ Some x
    → test x ≡ true
last_that-passes test [] x found = cc
last_that-passes {X} test (y ∷ ys) x found = elim (option_cases (last_that test ys)) [
  | inr (z, later) ↦ (let same : Some z ≡ Some x = rw later at found in last_that-passes test ys x (later ∙ same))
  | inl none ↦ elim (cases_Bool (test y)) [
    | inl here ↦
        let same : Some y ≡ Some x = rw (none, here) at found in
        let is : y ≡ x = cc in
        subst (λ (z : X). test z ≡ true) is here
    | inr past ↦ (let same : None ≡ Some x = rw (none, past) at found in cc)
  ]
]

-- the last of two lists is the second's, and where it has none the first's
pub last_that-append : {X : Type 0} (test : X → Bool) (xs ys : List X)
    → last_that test (xs ++ ys) ≡ option_or (last_that test ys) (last_that test xs)
last_that-append test [] ys = elim (option_cases (last_that test ys)) [
  | inl none ↦ rw none refl
  | inr (y, later) ↦ rw later refl
]
last_that-append test (x ∷ xs) ys = rw (last_that-append test xs ys) (elim (option_cases (last_that test ys)) [
  | inl none ↦ rw none refl
  | inr (y, later) ↦ rw later refl
])

-- nothing is lost of a list where no item before its middle passes, and none behind it
pub last_that-middle : {X : Type 0} (test : X → Bool) (xs : List X) (a b : ℕ) → a ≤ length xs
    → ((k : ℕ) (d : X) → k < a → test (get_or xs k d) ≡ false)
    → ((k : ℕ) (d : X) → b ≤ k → k < length (drop a xs) → test (get_or (drop a xs) k d) ≡ false)
    → last_that test (take b (drop a xs)) ≡ last_that test xs
last_that-middle {X} test xs a b within before behind =
    let rest : List X = drop a xs in
    let front : last_that test (take a xs) ≡ None = last_that-none test (take a xs) (λ k d inside.
    let short : k < a = omega (arith, length-take a xs) in
    let here : get_or (take a xs) k d ≡ get_or xs k d = get_or-take a xs k d short in
    rw here (before k d short)) in
    let back : last_that test (drop b rest) ≡ None = last_that-none test (drop b rest) (λ k d inside.
    let here : get_or (drop b rest) k d ≡ get_or rest (b + k) d = get_or-drop b rest k d in
    rw here (behind (b + k) d (omega arith) (omega (arith, length-drop b rest)))) in
    let whole : last_that test xs ≡ option_or (last_that test rest) (last_that test (take a xs)) =
    ap (last_that test) (sym (take-append-drop a xs)) ∙ last_that-append test (take a xs) rest in
    let parts : last_that test rest ≡ option_or (last_that test (drop b rest)) (last_that test (take b rest)) =
    ap (last_that test) (sym (take-append-drop b rest)) ∙ last_that-append test (take b rest) (drop b rest) in
    let first : last_that test rest ≡ last_that test (take b rest) = parts ∙ rw back refl in
    let second : last_that test xs ≡ last_that test rest = whole ∙ rw front (elim (option_cases (last_that test rest)) [
      | inl none ↦ rw none refl
      | inr (x, found) ↦ rw found refl
    ]) in
    sym (second ∙ first)

-- the last number of a range that passes
pub last_that-range : (test : ℕ → Bool) (count number : ℕ) → number < count → test number ≡ true
    → ((later : ℕ) → number < later → later < count → test later ≡ false)
    → last_that test (range_with_len 0 count) ≡ Some number
last_that-range test zero number within here later = absurd (omega arith)
last_that-range test (suc c) number within here later =
    let next : suc c ≡ c + 1 = omega arith in
    let more : range_with_len 0 (suc c) ≡ range_with_len 0 c ++ c ∷ [] =
    ap (λ n. range_with_len 0 n) next ∙ range_with_len-push 0 c ∙ ap (λ k. range_with_len 0 c ++ k ∷ []) (zero-add c) in
    ap (last_that test) more ∙ last_that-append test (range_with_len 0 c) (c ∷ []) ∙ elim (cases_lt number c) [
      | inl less ↦
          let fails : test c ≡ false = later c less (omega arith) in
          rw fails (last_that-range test c number less here (λ l a b. later l a (omega arith)))
      | inr last ↦
          let same : number ≡ c = omega arith in
          let passes : test c ≡ true = subst (λ (k : ℕ). test k ≡ true) same here in
          rw passes (ap (λ (k : ℕ). Some k) (sym same))
    ]

-- the last that passes of those that are kept is the last that is kept and passes
pub last_that-filter : {X : Type 0} (keep test : X → Bool) (xs : List X)
    → last_that test (filter keep xs) ≡ last_that (λ x. keep x && test x) xs
last_that-filter keep test [] = refl
last_that-filter {X} keep test (x ∷ xs) = elim (cases_Bool (keep x)) [
  | inl stays ↦ rw stays (rw (last_that-filter keep test xs) refl)
  | inr goes ↦ rw goes (last_that-filter keep test xs ∙ sym (option_or-none (last_that (λ (y : X). keep y && test y) xs)))
]
