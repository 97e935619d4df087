-- What one more line at the end changes.
use Rattle.std.proofs.Common.{◌≡◌, ◌≢◌, ℕ, zero, suc, ◌+◌, ◌-◌, ◌<◌, ◌||◌, Bool, List, [], ◌∷◌, ◌++◌, length, map, filter_map, Option, Some, None, unwrap_or, refl, sym, ap, ◌∙◌, arith, set, get_or}
use Rattle.std.specs.Option.{option_to_list}
use Rattle.std.specs.List.{list_any, range_with_len, cons_option, last_or}
use Rattle.std.proofs.lemmas.List.Folds.{list_any-append}
use Rattle.std.proofs.lemmas.List.Elements.{filter_map-append}
use Rattle.armcaps_text.proofs.Groups.{onto_last, last_group}
use Rattle.std.proofs.Math.Bool.{or-false}

pub list_any-push : {X : Type 0} (p : X → Bool) (xs : List X) (x : X) → list_any p (xs ++ x ∷ []) ≡ (list_any p xs || p x)
list_any-push p xs x = list_any-append p xs (x ∷ []) ∙ ap (λ (b : Bool). list_any p xs || b) (or-false (p x))

pub filter_map-push : {X Y : Type 0} (h : X → Option Y) (xs : List X) (x : X) → filter_map h (xs ++ x ∷ []) ≡ filter_map h xs ++ option_to_list (h x)
filter_map-push {Y} h xs x = filter_map-append h xs (x ∷ []) ∙ ap (λ (ys : List Y). filter_map h xs ++ ys) (one (h x))
  where
    one : (o : Option Y) → cons_option o [] ≡ option_to_list o
    one None = refl
    one (Some y) = refl

-- an item that the last group's value does not depend on
pub map_onto_last-same : {X Y : Type 0} (f : List X → Y) (x : X) → ((group : List X) → f (group ++ x ∷ []) ≡ f group) → (groups : List (List X)) → map f (onto_last x groups) ≡ map f groups
map_onto_last-same f x h [] = refl
map_onto_last-same f x h (group ∷ []) = ap (λ (y : _). y ∷ []) (h group)
map_onto_last-same f x h (group ∷ next ∷ groups) = ap (λ (ys : List _). f group ∷ ys) (map_onto_last-same f x h (next ∷ groups))

-- an item that changes the last group's value
pub map_onto_last-set : {X Y : Type 0} (f : List X → Y) (x : X) (groups : List (List X)) → 0 < length groups → map f (onto_last x groups) ≡ set (map f groups) (length (map f groups) - 1) (f (last_group groups ++ x ∷ []))
map_onto_last-set {X} {Y} f x groups h = from None groups h
  where
    from : (o : Option (List X)) (groups : List (List X)) → 0 < length groups → map f (onto_last x groups) ≡ set (map f groups) (length (map f groups) - 1) (f (unwrap_or (last_or o groups) [] ++ x ∷ []))
    from o [] h = absurd (omega arith)
    from o (group ∷ []) h = refl
    from o (group ∷ next ∷ more) h =
        let ys : List Y = map f (next ∷ more) in
        let place : length (f group ∷ ys) - 1 ≡ suc (length ys - 1) = omega arith in
        let v : Y = f (unwrap_or (last_or (Some group) (next ∷ more)) [] ++ x ∷ []) in
        ap (λ (zs : List Y). f group ∷ zs) (from (Some group) (next ∷ more) (omega arith)) ∙ sym (ap (λ (n : ℕ). set (f group ∷ ys) n v) place)

-- the last group's value
pub map-last : {X Y : Type 0} (f : List X → Y) (groups : List (List X)) (d : Y) → 0 < length groups → get_or (map f groups) (length (map f groups) - 1) d ≡ f (last_group groups)
map-last {X} {Y} f groups d h = from None groups h
  where
    from : (o : Option (List X)) (groups : List (List X)) → 0 < length groups → get_or (map f groups) (length (map f groups) - 1) d ≡ f (unwrap_or (last_or o groups) [])
    from o [] h = absurd (omega arith)
    from o (group ∷ []) h = refl
    from o (group ∷ next ∷ more) h =
        let ys : List Y = map f (next ∷ more) in
        let place : length (f group ∷ ys) - 1 ≡ suc (length ys - 1) = omega arith in
        ap (λ (n : ℕ). get_or (f group ∷ ys) n d) place ∙ from (Some group) (next ∷ more) (omega arith)

-- values of places that are all past a changed one
map_range-past : (old new : ℕ → ℕ) (place : ℕ) → ((other : ℕ) → other ≢ place → new other ≡ old other) → (n first : ℕ) → place < first → map new (range_with_len first n) ≡ map old (range_with_len first n)
map_range-past old new place others zero first h = refl
map_range-past old new place others (suc n) first h =
    let apart : first ≢ place = omega arith in
    let same = others first apart in
    let more = map_range-past old new place others n (first + 1) (omega arith) in
    cc

-- values of places of which one is changed
pub map_range-set : (old new : ℕ → ℕ) (place value : ℕ) → ((other : ℕ) → other ≢ place → new other ≡ old other) → new place ≡ value → (n first steps : ℕ) → place ≡ first + steps → map new (range_with_len first n) ≡ set (map old (range_with_len first n)) steps value
map_range-set old new place value others here zero first zero h = refl
map_range-set old new place value others here zero first (suc steps) h = refl
map_range-set old new place value others here (suc n) first zero h =
    let at : first ≡ place = omega arith in
    let same : new first ≡ value = ap new at ∙ here in
    let more = map_range-past old new place others n (first + 1) (omega arith) in
    cc
map_range-set old new place value others here (suc n) first (suc steps) h =
    let apart : first ≢ place = omega arith in
    let same = others first apart in
    let more = map_range-set old new place value others here n (first + 1) steps (omega arith) in
    cc
