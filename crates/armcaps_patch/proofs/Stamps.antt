-- The greatest stamp on a place names the last entry that covers it.
use Rattle.std.proofs.Common.{◌≡◌, false, sym, true, zero, inl, inr, ◌^◌, ◌%◌, ◌*◌, ◌/◌, ◌+◌, ◌<◌, ◌≤◌, ◌∷◌, ◌++◌, ℕ, Bool, List, MatchOption, None, Option, Some, [], arith, ap, cond, max, min, refl, suc, ◌∙◌, subst}
use Rattle.std.specs.List.{All, slice_get}
use Rattle.std.proofs.Common.{drop, get_or, length, take, ◌-◌}
use Rattle.std.proofs.lemmas.Option.{get_or_from_slice_get, slice_get_within}
use Rattle.std.proofs.Math.Seq.{take-add}
use Rattle.std.proofs.lemmas.List.{get_or-map, length-map, map-append, take_all, take_more}
use Rattle.std.proofs.lemmas.Bool.{cases_Bool, cases_lt}
use Rattle.armcaps_patch.specs.declared.site.Site.{Site}
use Rattle.armcaps_patch.specs.Index.{IsSite, Tells, last_at, stamp_at}
use Rattle.armcaps_logic.proofs.Options.{option_cases}
use Rattle.armcaps_image.specs.Last.{last_that}
use Rattle.armcaps_image.proofs.Last.{last_that-passes}
use Rattle.armcaps_patch.specs.declared.kept.Kept.{Kept}
use Rattle.armcaps_patch.specs.Buckets.{no_entry, site_at, site_of, sites_at}
use Rattle.armcaps_patch.specs.Kept.{kept_covers}

-- no stamp is above the greatest
stamp_below : (place : ℕ) (sites : List Site) (bound : ℕ) → last_at place sites ≤ bound → (k : ℕ) (d : Site) → k < length sites → stamp_at (get_or sites k d) place ≤ bound
stamp_below place [] bound below k d within = absurd (omega arith)
stamp_below place (site ∷ sites) bound below zero d within = omega arith
stamp_below place (site ∷ sites) bound below (suc k) d within = stamp_below place sites bound (omega arith) k d (omega arith)

stamps_below : (place : ℕ) (sites : List Site) (bound : ℕ) → last_at place sites ≤ bound → All (λ site. stamp_at site place ≤ bound) sites
stamps_below place sites bound below = stamp_below place sites bound below

last_below : (place : ℕ) (sites : List Site) (bound : ℕ) → All (λ site. stamp_at site place ≤ bound) sites → last_at place sites ≤ bound
last_below place [] bound all = omega arith
last_below place (site ∷ sites) bound all =
    let here : stamp_at site place ≤ bound = all 0 site (omega arith) in
    let rest = last_below place sites bound (λ k d within. all (suc k) d (omega arith)) in
    omega arith

-- the sites of kept entries, numbered from n on
abbrev sites_of : ℕ → List Kept → List Site
sites_of n [] = []
sites_of n (kept ∷ rest) = site_of n kept ∷ sites_of (n + 1) rest

module _ (place : ℕ) where
  abbrev test : Kept → Bool
  test = kept_covers place

  stamp_is : (n : ℕ) (x : Kept) → x.len % 4 ≡ 0 → stamp_at (site_of n x) place ≡ cond (test x) (n + 1) 0
  stamp_is n x aligned = (let whole : 4 * (x.len / 4) ≡ x.len = omega arith in rw whole refl)

  tells_more : (n stamp : ℕ) (x : Kept) (xs : List Kept) (later : Option Kept) (later_is : last_that test xs ≡ later) → MatchOption later (stamp ≡ 0) (λ y. (k : ℕ) × ((stamp ≡ suc (n + 1 + k)) × (slice_get xs k ≡ Some y))) → Tells test (max (cond (test x) (n + 1) 0) stamp) n (x ∷ xs)
  tells_more n stamp x xs None later_is none = elim (cases_Bool (test x)) [
    | inl here ↦ rw (later_is, here) (0, (omega arith, refl))
    | inr past ↦ rw (later_is, past) (omega arith)
  ]
  tells_more n stamp x xs (Some y) later_is (k, found) = rw later_is (suc k, (elim (cases_Bool (test x)) [ inl here ↦ rw here (omega (arith, found.0)) | inr past ↦ rw past (omega (arith, found.0)) ], found.1))

  last_tells : (n : ℕ) (xs : List Kept) → ((k : ℕ) (d : Kept) → k < length xs → (get_or xs k d).len % 4 ≡ 0) → Tells test (last_at place (sites_of n xs)) n xs
  last_tells n [] aligned = refl
  last_tells n (x ∷ xs) aligned = rw (stamp_is n x (aligned 0 x (omega arith))) (tells_more n (last_at place (sites_of (n + 1) xs)) x xs (last_that test xs) refl (last_tells (n + 1) xs (λ k d within. aligned (suc k) d (omega arith))))

-- the greatest stamp of two lists
pub last_at-append : (place : ℕ) (xs ys : List Site) → last_at place (xs ++ ys) ≡ max (last_at place xs) (last_at place ys)
last_at-append place [] ys = omega arith
last_at-append place (x ∷ xs) ys = let rest = last_at-append place xs ys in omega (arith, rest)

-- one site more
pub last_at_more : (place : ℕ) (sites : List Site) (i : ℕ) (d : Site) → i < length sites → last_at place (take (i + 1) sites) ≡ max (last_at place (take i sites)) (stamp_at (get_or sites i d) place)
last_at_more place sites i d within =
    let e = last_at-append place (take i sites) (get_or sites i d ∷ []) in
    rw (take_more sites i d within) (omega (arith, e))

length-sites_of : (n : ℕ) (xs : List Kept) → length (sites_of n xs) ≡ length xs
length-sites_of n [] = refl
length-sites_of n (x ∷ xs) = omega (arith, length-sites_of (n + 1) xs)

site_in : (n : ℕ) (xs : List Kept) (k : ℕ) (d : Site) (e : Kept) → k < length xs → get_or (sites_of n xs) k d ≡ site_of (n + k) (get_or xs k e)
site_in n [] k d e within = absurd (omega arith)
site_in n (x ∷ xs) zero d e within = (let same : n + 0 ≡ n = omega arith in rw same refl)
site_in n (x ∷ xs) (suc k) d e within = (let same : n + 1 + k ≡ n + suc k = omega arith in site_in (n + 1) xs k d e (omega arith) ∙ ap (λ number. site_of number (get_or xs k e)) same)

numbered : (xs : List Kept) (k : ℕ) (d : Site) (e : Kept) → k < length xs → get_or (sites_of 0 xs) k d ≡ site_of k (get_or xs k e)
numbered xs k d e within = (let same : 0 + k ≡ k = omega arith in site_in 0 xs k d e within ∙ ap (λ number. site_of number (get_or xs k e)) same)

-- a stamp that is not 0 is that of a site that covers the place
stamp_covers : (place number : ℕ) (kept : Kept) → kept.len % 4 ≡ 0 → kept_covers place kept ≡ false → stamp_at (site_of number kept) place ≡ 0
stamp_covers place number kept aligned past = stamp_is place number kept aligned ∙ ap (λ b. cond b (number + 1) 0) past

-- the stamps of some numbers and of the next ones
last_at-parts : (place : ℕ) (kept : List Kept) (xs ys : List ℕ) → last_at place (sites_at kept (xs ++ ys)) ≡ max (last_at place (sites_at kept xs)) (last_at place (sites_at kept ys))
last_at-parts place kept xs ys = ap (last_at place) (map-append (site_at kept) xs ys) ∙ last_at-append place (sites_at kept xs) (sites_at kept ys)

-- the first numbers, up to so many more or to the end of all
first_more : (xs : List ℕ) (n more : ℕ) → n ≤ length xs → take n xs ++ take (min (length xs) (n + more) - n) (drop n xs) ≡ take (n + more) xs
first_more xs n more within =
    let some : ℕ = min (length xs) (n + more) - n in
    sym (take-add n some xs) ∙ elim (cases_lt (length xs) (n + more)) [
      | inl short ↦ take_all (n + some) xs (omega arith) ∙ sym (take_all (n + more) xs (omega arith))
      | inr long ↦ (let all : n + some ≡ n + more = omega arith in ap (λ m. take m xs) all)
    ]

pub last_at-first : (place : ℕ) (kept : List Kept) (numbers : List ℕ) (n more : ℕ) → n ≤ length numbers
    → last_at place (sites_at kept (take (n + more) numbers)) ≡ max (last_at place (sites_at kept (take n numbers))) (last_at place (sites_at kept (take (min (length numbers) (n + more) - n) (drop n numbers))))
last_at-first place kept numbers n more within =
    ap (λ xs. last_at place (sites_at kept xs)) (sym (first_more numbers n more within)) ∙ last_at-parts place kept (take n numbers) (take (min (length numbers) (n + more) - n) (drop n numbers))

-- each site is one
pub sites_are : (kept : List Kept) (numbers : List ℕ) → length kept ≤ 2 ^ 26 → All (λ entry. IsSite (site_of 0 entry)) kept → All (λ number. number < length kept) numbers → All IsSite (sites_at kept numbers)
sites_are kept numbers few each known = λ k d within.
    let all = length-map numbers (site_at kept) in
    let number : ℕ = get_or numbers k 0 in
    let inside : number < length kept = known k 0 (omega (arith, all)) in
    let here : get_or (sites_at kept numbers) k d ≡ site_at kept number = get_or-map (site_at kept) numbers k 0 d (omega (arith, all)) in
    let is = each number no_entry inside in
    let it : IsSite (site_at kept number) = record { aligned = is.aligned; below = is.below; few = omega (arith, few, inside); words = is.words } in
    subst (λ (site : Site). IsSite site) (sym here) it

-- numbers among which are those of all entries that cover a place tell the last of them
pub some_tell : (place : ℕ) (kept : List Kept) (numbers : List ℕ) → All (λ entry. entry.len % 4 ≡ 0) kept → All (λ number. number < length kept) numbers
    → ((number : ℕ) → number < length kept → kept_covers place (get_or kept number no_entry) ≡ true → (index : ℕ) × ((index < length numbers) × (get_or numbers index 0 ≡ number)))
    → Tells (kept_covers place) (last_at place (sites_at kept numbers)) 0 kept
some_tell place kept numbers aligned known each =
    let all : List Site = sites_of 0 kept in
    let some : List Site = sites_at kept numbers in
    let many = length-sites_of 0 kept in
    let few : length some ≡ length numbers = length-map numbers (site_at kept) in
    let below : last_at place some ≤ last_at place all = last_below place some (last_at place all) (λ k d within.
    let number = get_or numbers k 0 in
    let inside : number < length kept = known k 0 (omega (arith, few)) in
    let here : get_or some k d ≡ site_of number (get_or kept number no_entry) = get_or-map (site_at kept) numbers k 0 d (omega (arith, few)) in
    let there : get_or all number d ≡ site_of number (get_or kept number no_entry) = numbered kept number d no_entry inside in
    let least = stamp_below place all (last_at place all) (omega arith) number d (omega (arith, many)) in
    subst (λ (site : Site). stamp_at site place ≤ last_at place all) (there ∙ sym here) least) in
    let above : last_at place all ≤ last_at place some = last_below place all (last_at place some) (λ k d within.
    let inside : k < length kept = omega (arith, many) in
    let here : get_or all k d ≡ site_of k (get_or kept k no_entry) = numbered kept k d no_entry inside in
    elim (cases_Bool (kept_covers place (get_or kept k no_entry))) [
      | inl covers ↦
          let found = each k inside covers in
          let there : get_or some found.0 d ≡ site_of k (get_or kept k no_entry) = get_or-map (site_at kept) numbers found.0 0 d found.1.0 ∙ ap (site_at kept) found.1.1 in
          let least = stamp_below place some (last_at place some) (omega arith) found.0 d (omega (arith, few, found.1.0)) in
          subst (λ (site : Site). stamp_at site place ≤ last_at place some) (there ∙ sym here) least
      | inr past ↦ (let none = stamp_covers place k (get_or kept k no_entry) (aligned k no_entry inside) past in rw here (omega (arith, none)))
    ]) in
    let same : last_at place all ≡ last_at place some = omega (arith, below, above) in
    subst (λ (stamp : ℕ). Tells (kept_covers place) stamp 0 kept) same (last_tells place 0 kept aligned)

-- the item before a stamp's number is the last that passes
pub stamped : {X : Type 0} (test : X → Bool) (stamp number : ℕ) (xs : List X) (d : X) → Tells test stamp 0 xs → stamp ≡ suc number → (last_that test xs ≡ Some (get_or xs number d)) × (test (get_or xs number d) ≡ true) × (number < length xs)
stamped {X} test stamp number xs d tells is = elim (option_cases (last_that test xs)) [
  | inl none ↦ (let zero_stamp : stamp ≡ 0 = rw none at tells in absurd (omega arith))
  | inr (x, found) ↦
      let told : (k : ℕ) × ((stamp ≡ suc (0 + k)) × (slice_get xs k ≡ Some x)) = rw found at tells in
      let same : told.0 ≡ number = omega (arith, told.1.0) in
      let at : slice_get xs number ≡ Some x = subst (λ (k : ℕ). slice_get xs k ≡ Some x) same told.1.1 in
      let it : get_or xs number d ≡ x = get_or_from_slice_get xs number x d at in
      (found ∙ ap (λ (y : X). Some y) (sym it), subst (λ (y : X). test y ≡ true) (sym it) (last_that-passes test xs x found), slice_get_within xs number x at)
]

-- the stamp 0 tells that none passes
pub unstamped : {X : Type 0} (test : X → Bool) (stamp : ℕ) (xs : List X) → Tells test stamp 0 xs → stamp ≡ 0 → last_that test xs ≡ None
unstamped {X} test stamp xs tells is = elim (option_cases (last_that test xs)) [
  | inl none ↦ none
  | inr (x, found) ↦ (let told : (k : ℕ) × ((stamp ≡ suc (0 + k)) × (slice_get xs k ≡ Some x)) = rw found at tells in absurd (omega (arith, told.1.0)))
]

-- where there are no sites, none passes
pub untouched : (place : ℕ) (sites : List Site) (xs : List Kept) → Tells (kept_covers place) (last_at place sites) 0 xs → length sites ≡ 0 → last_that (kept_covers place) xs ≡ None
untouched place [] xs tells empty = unstamped (kept_covers place) 0 xs tells refl
untouched place (site ∷ sites) xs tells empty = absurd (omega arith)
