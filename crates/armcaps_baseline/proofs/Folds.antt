-- Which values accept the one value for many, and that values may be made one in groups.
use Rattle.std.proofs.Common.{◌≡◌, zero, suc, ◌<◌, List, [], ◌∷◌, ◌++◌, length, map, get_or, sym, ap, ◌∙◌, arith, length-append}
use Rattle.std.specs.Prelude.{ℤ}
use Rattle.std.specs.List.{All, flat_map}
use Rattle.std.proofs.lemmas.List.{append-nil}
use Rattle.std.proofs.lemmas.List.Elements.{All-head, All-tail}
use Rattle.armcaps_rule.specs.declared.rule.Rule.{Rule}
use Rattle.armcaps_rule.specs.Rule.{fold_of, merged}
use Rattle.armcaps_rule.proofs.Merging.{fold_front, fold_one, merged_associates, merged_commutes, merged_same}

-- two values merged into a third, in either order
merged_swaps : (rule : Rule) (safe x a b : ℤ)
    → merged rule safe (merged rule safe x a) b ≡ merged rule safe (merged rule safe x b) a
merged_swaps rule safe x a b =
    merged_associates rule safe x a b ∙ ap (merged rule safe x) (merged_commutes rule safe a b)
    ∙ sym (merged_associates rule safe x b a)

-- a value that each of some values accepts is accepted by the one value for them
pub accepted_by_fold : (rule : Rule) (safe x : ℤ) (values : List ℤ) → 0 < length values
    → All (λ value. merged rule safe x value ≡ x) values → merged rule safe x (fold_of rule safe values) ≡ x
accepted_by_fold rule safe x [] some all = absurd (omega arith)
accepted_by_fold rule safe x (v ∷ []) some all =
    ap (merged rule safe x) (fold_one rule safe v) ∙ All-head (λ value. merged rule safe x value ≡ x) v [] all
accepted_by_fold rule safe x (v ∷ w ∷ values) some all =
    ap (merged rule safe x) (fold_front rule safe (w ∷ values) v (omega arith))
    ∙ sym (merged_associates rule safe x (fold_of rule safe (w ∷ values)) v)
    ∙ ap (λ y. merged rule safe y v) (accepted_by_fold rule safe x (w ∷ values) (omega arith)
    (All-tail (λ value. merged rule safe x value ≡ x) v (w ∷ values) all))
    ∙ All-head (λ value. merged rule safe x value ≡ x) v (w ∷ values) all

-- the one value for some values is accepted by each
pub fold_accepted : (rule : Rule) (safe : ℤ) (values : List ℤ)
    → All (λ value. merged rule safe (fold_of rule safe values) value ≡ fold_of rule safe values) values
fold_accepted rule safe [] k d within = absurd (omega arith)
fold_accepted rule safe (v ∷ []) zero d within =
    ap (λ y. merged rule safe y v) (fold_one rule safe v) ∙ merged_same rule safe v ∙ sym (fold_one rule safe v)
fold_accepted rule safe (v ∷ []) (suc k) d within = absurd (omega arith)
fold_accepted rule safe (v ∷ w ∷ values) zero d within =
    let front = fold_front rule safe (w ∷ values) v (omega arith) in
    ap (λ y. merged rule safe y v) front
    ∙ merged_associates rule safe (fold_of rule safe (w ∷ values)) v v
    ∙ ap (merged rule safe (fold_of rule safe (w ∷ values))) (merged_same rule safe v) ∙ sym front
fold_accepted rule safe (v ∷ w ∷ values) (suc k) d within =
    let front = fold_front rule safe (w ∷ values) v (omega arith) in
    ap (λ y. merged rule safe y (get_or (w ∷ values) k d)) front
    ∙ merged_swaps rule safe (fold_of rule safe (w ∷ values)) v (get_or (w ∷ values) k d)
    ∙ ap (λ y. merged rule safe y v) (fold_accepted rule safe (w ∷ values) k d (omega arith)) ∙ sym front

-- the one value for two lists
pub fold_append : (rule : Rule) (safe : ℤ) (xs ys : List ℤ) → 0 < length xs → 0 < length ys
    → fold_of rule safe (xs ++ ys) ≡ merged rule safe (fold_of rule safe xs) (fold_of rule safe ys)
fold_append rule safe [] ys some more = absurd (omega arith)
fold_append rule safe (x ∷ []) ys some more =
    fold_front rule safe ys x more ∙ merged_commutes rule safe (fold_of rule safe ys) x
    ∙ ap (λ y. merged rule safe y (fold_of rule safe ys)) (sym (fold_one rule safe x))
fold_append rule safe (x ∷ w ∷ xs) ys some more =
    fold_front rule safe ((w ∷ xs) ++ ys) x (omega arith)
    ∙ ap (λ y. merged rule safe y x) (fold_append rule safe (w ∷ xs) ys (omega arith) more)
    ∙ merged_swaps rule safe (fold_of rule safe (w ∷ xs)) (fold_of rule safe ys) x
    ∙ ap (λ y. merged rule safe y (fold_of rule safe ys)) (sym (fold_front rule safe (w ∷ xs) x (omega arith)))

-- a group, and others, none of them empty, have an item together
pub some_in_groups : {X : Type 0} (group : List X) (groups : List (List X)) → 0 < length group
    → 0 < length (flat_map (λ g. g) (group ∷ groups))
some_in_groups {X} group groups some = omega (arith, length-append group (flat_map (λ (g : List X). g) groups))

-- the one value for the values of groups is the one value for all
pub fold_groups : (rule : Rule) (safe : ℤ) (groups : List (List ℤ)) → 0 < length groups
    → All (λ group. 0 < length group) groups
    → fold_of rule safe (map (fold_of rule safe) groups) ≡ fold_of rule safe (flat_map (λ group. group) groups)
fold_groups rule safe [] some all = absurd (omega arith)
fold_groups rule safe (g ∷ []) some all =
    fold_one rule safe (fold_of rule safe g) ∙ ap (fold_of rule safe) (sym (append-nil g))
fold_groups rule safe (g ∷ h ∷ groups) some all =
    let others : All (λ (group : List ℤ). 0 < length group) (h ∷ groups) =
    All-tail (λ (group : List ℤ). 0 < length group) g (h ∷ groups) all in
    let later = fold_groups rule safe (h ∷ groups) (omega arith) others in
    let first : 0 < length g = All-head (λ (group : List ℤ). 0 < length group) g (h ∷ groups) all in
    let second : 0 < length h = All-head (λ (group : List ℤ). 0 < length group) h groups others in
    fold_front rule safe (map (fold_of rule safe) (h ∷ groups)) (fold_of rule safe g) (omega arith)
    ∙ merged_commutes rule safe (fold_of rule safe (map (fold_of rule safe) (h ∷ groups))) (fold_of rule safe g)
    ∙ ap (merged rule safe (fold_of rule safe g)) later
    ∙ sym (fold_append rule safe g (flat_map (λ (group : List ℤ). group) (h ∷ groups)) first
    (some_in_groups h groups second))
