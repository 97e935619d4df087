-- The one section that holds a number.
use Rattle.std.proofs.Common.{◌≡◌, ◌+◌, ◌<◌, ◌≤◌, ℕ, Bool, List, None, Option, Some, [], ◌∷◌, ap, arith, cond, false, find, get_or, inl, inr, length, refl, suc, sym, true, zero, ◌∙◌}
use Rattle.std.specs.List.{All, AllPairs, list_any}
use Rattle.std.specs.List.Sorted.{IsPermutation}
use Rattle.std.proofs.lemmas.Bool.{cases_lt}
use Rattle.std.proofs.lemmas.Bool.Decides.{nat_tests}
use Rattle.std.proofs.lemmas.List.{get_or_default}
use Rattle.std.proofs.lemmas.List.Folds.{Any-from_list_any, list_any_at}
use Rattle.std.proofs.lemmas.List.Sorted.{All-permutation, Contains-permutation, IsPermutation-refl, IsPermutation-sym}
use Rattle.armcaps_elf.specs.declared.section.Section.{Section}
use Rattle.armcaps_elf.specs.Sections.{Follows, holds}

-- what is found, where all that pass are the same
found_here : {X : Type 0} (b : Bool) (y x : X) (rest : Option X) → (b ≡ true → y ≡ x) → (b ≡ false → rest ≡ Some x) → cond b (Some y) rest ≡ Some x
found_here true y x rest same later = ap Some (same refl)
found_here false y x rest same later = later refl

pub find_unique : {X : Type 0} (p : X → Bool) (xs : List X) (x : X) (k : ℕ) → k < length xs → get_or xs k x ≡ x → p x ≡ true
    → All (λ y. p y ≡ true → y ≡ x) xs → find p xs ≡ Some x
find_unique p [] x k within is pass same = absurd (omega arith)
find_unique p (y ∷ ys) x zero within is pass same =
    found_here (p y) y x (find p ys) (λ _. is) (λ fail. let never : true ≡ false = sym pass ∙ (ap p (sym is) ∙ fail) in absurd (cc))
find_unique p (y ∷ ys) x (suc k) within is pass same =
    found_here (p y) y x (find p ys) (same 0 y (omega arith)) (λ _. find_unique p ys x k (omega arith) is pass (λ i d short.
    same (suc i) d (omega arith)))

find_fails : {X : Type 0} (p : X → Bool) (xs : List X) → All (λ y. p y ≡ false) xs → find p xs ≡ None
find_fails p [] fail = refl
find_fails p (x ∷ xs) fail =
    let first : p x ≡ false = fail 0 x (omega arith) in
    rw first (find_fails p xs (λ k d short. fail (suc k) d (omega arith)))

module _ (begin : Section → ℕ) (number : ℕ) where
  held : (s : Section) → holds begin number s ≡ true → (begin s ≤ number) × (number < begin s + s.size)
  held s is = (grind (arith, nat_tests), grind (arith, nat_tests))

  -- two that follow one another don't hold the same number
  pub one_holds : (s t : Section) → Follows begin s t → holds begin number s ≡ true → holds begin number t ≡ false
  one_holds s t follow is = let h = held s is in grind (arith, nat_tests)

  not_both : (s t : Section) → Follows begin s t → holds begin number s ≡ true → holds begin number t ≡ true → ⊥
  not_both s t follow one other = let never : true ≡ false = sym other ∙ one_holds s t follow one in cc

  -- of sections that follow one another one holds a number
  pub alone : (ys : List Section) (k : ℕ) (d : Section) → AllPairs (Follows begin) ys → k < length ys
      → holds begin number (get_or ys k d) ≡ true → All (λ y. holds begin number y ≡ true → y ≡ get_or ys k d) ys
  alone ys k d follow within is = λ i e short pass. elim (cases_lt i k) [
    | inl before ↦
        let there : holds begin number (get_or ys k e) ≡ true = ap (holds begin number) (get_or_default ys k e d within) ∙ is in
        absurd (not_both (get_or ys i e) (get_or ys k e) (follow i k e before within) pass there)
    | inr after ↦ elim (cases_lt k i) [
      | inl behind ↦
          let there : holds begin number (get_or ys k e) ≡ true = ap (holds begin number) (get_or_default ys k e d within) ∙ is in
          absurd (not_both (get_or ys k e) (get_or ys i e) (follow k i e behind short) there pass)
      | inr here ↦ let same : i ≡ k = omega arith in ap (λ n. get_or ys n e) same ∙ get_or_default ys k e d within
    ]
  ]

  pub find_held : (xs ys : List Section) (k : ℕ) (d : Section) → IsPermutation xs ys → AllPairs (Follows begin) ys → k < length ys
      → holds begin number (get_or ys k d) ≡ true → find (holds begin number) xs ≡ Some (get_or ys k d)
  find_held xs ys k d moved follow within is =
      let x = get_or ys k d in
      let back = IsPermutation-sym xs ys moved in
      let there = Contains-permutation ys xs x back (k, within, get_or_default ys k x d within) in
      find_unique (holds begin number) xs x there.0 there.1 there.2 is
      (All-permutation (λ y. holds begin number y ≡ true → y ≡ x) ys xs back (alone ys k d follow within is))

  pub find_none : (xs ys : List Section) → IsPermutation xs ys → All (λ y. holds begin number y ≡ false) ys
      → find (holds begin number) xs ≡ None
  find_none xs ys moved fail =
      find_fails (holds begin number) xs (All-permutation (λ y. holds begin number y ≡ false) ys xs (IsPermutation-sym xs ys moved) fail)

  not_true : (b : Bool) → (b ≡ true → ⊥) → b ≡ false
  not_true true never = absurd (never refl)
  not_true false never = refl

  pub none_hold : (ys : List Section) → list_any (holds begin number) ys ≡ false → All (λ y. holds begin number y ≡ false) ys
  none_hold ys none = λ k d within. not_true _ (λ yes.
      let never : true ≡ false = sym (list_any_at (holds begin number) ys k d within yes) ∙ none in cc)

  -- the same is found in any order
  same_by : (xs ys : List Section) (b : Bool) → IsPermutation xs ys → AllPairs (Follows begin) ys → list_any (holds begin number) ys ≡ b
      → find (holds begin number) ys ≡ find (holds begin number) xs
  same_by xs ys true moved follow some =
      let any = Any-from_list_any (holds begin number) ys some in
      let there : holds begin number (get_or ys any.0 any.1) ≡ true = ap (holds begin number) any.3 ∙ any.4 in
      find_held ys ys any.0 any.1 (IsPermutation-refl ys) follow any.2 there ∙ sym (find_held xs ys any.0 any.1 moved follow any.2 there)
  same_by xs ys false moved follow none =
      let fail = none_hold ys none in
      find_none ys ys (IsPermutation-refl ys) fail ∙ sym (find_none xs ys moved fail)

  pub find_same : (xs ys : List Section) → IsPermutation xs ys → AllPairs (Follows begin) ys
      → find (holds begin number) ys ≡ find (holds begin number) xs
  find_same xs ys moved follow = same_by xs ys _ moved follow refl
