-- What merging two values gives, and folds one value at a time.
use Rattle.std.proofs.Common.{take, drop, length-append, get_or, ◌+◌, ◌-◌, ◌≤◌, ◌≡◌, ℕ, suc, ◌<◌, length, ◌⊎◌, inl, inr, true, false, cond, ◌||◌, List, [], ◌∷◌, ◌++◌, Some, refl, sym, ◌∙◌, ap, arith, w64, to_z, of_z}
use Rattle.std.specs.Prelude.{ℤ, pos, All, unwrap_or, int_le, int_lt}
use Rattle.std.specs.Int.{int_min, int_max}
use Rattle.std.specs.Ordering.{int_eq}
use Rattle.std.proofs.lemmas.Grind.{common_steps}
use Rattle.std.proofs.lemmas.Int.{ints, to_z-of_z}
use Rattle.std.proofs.lemmas.List.{append-nil, take_more}
use mir.Val.{SFits}
use Rattle.armcaps_rule.specs.declared.rule.Rule.{Rule}
use Rattle.armcaps_rule.specs.declared.rule.Rule.TheVariants.{Exact, Lower, Higher, HigherOrZero}
use Rattle.armcaps_rule.specs.Rule.{greatest, fold_of, merged}
use Rattle.armcaps_rule.proofs.Leading.{int_eq_self, int_le_self, int_eq_true, leads_found, alone, le_orders, ge_orders, leading_two}
use Rattle.armcaps_rule.proofs.Insertion.{by_bool, common_pair, either, eq_both, fold_insert}

pub merged_exact : (safe m x : ℤ) → merged Exact safe m x ≡ cond (int_eq m x) m safe
unfolding fold_of
merged_exact safe m x = common_pair safe m x

merged_lower : (safe m x : ℤ) → merged Lower safe m x ≡ int_min m x
unfolding fold_of
merged_lower safe m x =
    ap (λ v. unwrap_or v safe) (leading_two int_le le_orders m x) ∙ order m x where
      order : (m x : ℤ) → cond (int_le m x) m x ≡ int_min m x
      order m x = grind (arith, ints)

-- the greatest of two
higher_two : (safe m x : ℤ) → unwrap_or (greatest (m ∷ x ∷ [])) safe ≡ int_max m x
higher_two safe m x = ap (λ v. unwrap_or v safe) (leading_two (λ a b. int_le b a) ge_orders m x) ∙ order m x where
  order : (m x : ℤ) → cond (int_le x m) m x ≡ int_max m x
  order m x = grind (arith, ints)

merged_higher : (safe m x : ℤ) → merged Higher safe m x ≡ int_max m x
unfolding fold_of
merged_higher safe m x = higher_two safe m x

merged_higher_or_zero : (safe m x : ℤ)
    → merged HigherOrZero safe m x ≡ cond (int_eq (pos 0) m || (int_eq (pos 0) x || false)) (pos 0) (int_max m x)
unfolding fold_of
merged_higher_or_zero safe m x = ap (λ v. cond (int_eq (pos 0) m || (int_eq (pos 0) x || false)) (pos 0) v) (higher_two safe m x)

pub int_eq_not : (a b : ℤ) → (a ≡ b → ⊥) → int_eq a b ≡ false
int_eq_not a b h = by_bool (int_eq a b) (λ e. absurd (h (int_eq_true a b e))) (λ e. e)

pub eq_not_false : (a b : ℤ) → a ≡ b → int_eq a b ≡ false → ⊥
eq_not_false a b e s = let t : int_eq a b ≡ true = rw e (int_eq_self b) in cc

pub merge_exact_same : (rule : Rule) (safe m x : ℤ) → rule ≡ Exact → m ≡ x → merged rule safe m x ≡ m
merge_exact_same rule safe m x r e =
    let same : int_eq m x ≡ true = rw e (int_eq_self x) in
    rw r (merged_exact safe m x ∙ ap (λ b. cond b m safe) same)

pub merge_exact_other : (rule : Rule) (safe m x : ℤ) → rule ≡ Exact → (m ≡ x → ⊥) → merged rule safe m x ≡ safe
merge_exact_other rule safe m x r e = rw r (merged_exact safe m x ∙ ap (λ b. cond b m safe) (int_eq_not m x e))

pub merge_lower : (rule : Rule) (safe m x r : ℤ) → rule ≡ Lower → r ≡ int_min m x → r ≡ merged rule safe m x
merge_lower rule safe m x r e h = rw e (h ∙ sym (merged_lower safe m x))

pub merge_higher : (rule : Rule) (safe m x r : ℤ) → rule ≡ Higher → r ≡ int_max m x → r ≡ merged rule safe m x
merge_higher rule safe m x r e h = rw e (h ∙ sym (merged_higher safe m x))

pub merge_zero : (rule : Rule) (safe m x : ℤ) → rule ≡ HigherOrZero → (m ≡ pos 0) ⊎ (x ≡ pos 0) → pos 0 ≡ merged rule safe m x
merge_zero rule safe m x e h = rw e (sym (merged_higher_or_zero safe m x ∙ ap (λ b. cond b (pos 0) (int_max m x)) (at h))) where
  at : (m ≡ pos 0) ⊎ (x ≡ pos 0) → (int_eq (pos 0) m || (int_eq (pos 0) x || false)) ≡ true
  at (inl a) = rw (a, int_eq_self (pos 0))
  at (inr b) = grind (arith, b, int_eq_self)

pub merge_not_zero : (rule : Rule) (safe m x r : ℤ) → rule ≡ HigherOrZero → (m ≡ pos 0 → ⊥) → (x ≡ pos 0 → ⊥) → r ≡ int_max m x
    → r ≡ merged rule safe m x
merge_not_zero rule safe m x r e a b h =
    let a' = int_eq_not (pos 0) m (λ k. a (sym k)) in
    let b' = int_eq_not (pos 0) x (λ k. b (sym k)) in
    let off : (int_eq (pos 0) m || (int_eq (pos 0) x || false)) ≡ false = rw (a', b') in
    rw e (h ∙ sym (merged_higher_or_zero safe m x ∙ ap (λ v. cond v (pos 0) (int_max m x)) off))

-- two signed numbers with the same bits
pub same_bits : (a b : ℤ) → SFits w64 a → SFits w64 b → of_z w64 a ≡ of_z w64 b → a ≡ b
same_bits a b fa fb e = sym (to_z-of_z w64 a fa) ∙ ap (to_z w64) e ∙ to_z-of_z w64 b fb

pub fold_push : (rule : Rule) (safe : ℤ) (values : List ℤ) (x : ℤ) → 0 < length values
    → fold_of rule safe (values ++ x ∷ []) ≡ merged rule safe (fold_of rule safe values) x
fold_push rule safe values x h =
    let e = append-nil values in
    let h' : 0 < length (values ++ []) = rw e h in
    (rw e at (fold_insert rule safe values [] x h'))

greatest_one : (x : ℤ) → greatest (x ∷ []) ≡ Some x
greatest_one x = leads_found (λ a b. int_le b a) ge_orders.both (x ∷ []) x (alone (λ a b. int_le b a) x (int_le_self x))

pub fold_one : (rule : Rule) (safe x : ℤ) → fold_of rule safe (x ∷ []) ≡ x
unfolding fold_of
fold_one Exact safe x = ap (λ v. unwrap_or v safe) (leads_found int_eq eq_both (x ∷ []) x (alone int_eq x (int_eq_self x)))
fold_one Lower safe x = ap (λ v. unwrap_or v safe) (leads_found int_le le_orders.both (x ∷ []) x (alone int_le x (int_le_self x)))
fold_one Higher safe x = ap (λ v. unwrap_or v safe) (greatest_one x)
fold_one HigherOrZero safe x = by_bool (int_eq (pos 0) x)
    (λ z. let e = int_eq_true (pos 0) x z in rw z e)
    (λ z. rw z (ap (λ v. unwrap_or v safe) (greatest_one x)))

-- one step of a loop over what follows the first value
pub fold_step : (rule : Rule) (safe first : ℤ) (items : List ℤ) (i : ℕ) (d folded : ℤ) → i < length items
    → folded ≡ fold_of rule safe (first ∷ take i items)
    → merged rule safe folded (get_or items i d) ≡ fold_of rule safe (first ∷ take (i + 1) items)
fold_step rule safe first items i d folded h e =
    rw (e, take_more items i d h) (sym (fold_push rule safe (first ∷ take i items) (get_or items i d) (omega arith)))

-- the same step, with the numbers as the code holds them
pub fold_step_bits : (rule : Rule) (safe first : ℤ) (items : List ℤ) (i : ℕ) (folded r : ℤ) → i < length items
    → folded ≡ fold_of rule safe (first ∷ take i items)
    → SFits w64 (get_or items i (pos 0)) → SFits w64 r
    → r ≡ merged rule safe folded (to_z w64 (of_z w64 (get_or items i (pos 0))))
    → to_z w64 (of_z w64 r) ≡ fold_of rule safe (first ∷ take (i + 1) items)
fold_step_bits rule safe first items i folded r h e f g m =
    to_z-of_z w64 r g ∙ m ∙ ap (merged rule safe folded) (to_z-of_z w64 (get_or items i (pos 0)) f)
    ∙ fold_step rule safe first items i (pos 0) folded h e

-- the first value and all that follow
pub all_values : (values : List ℤ) (i : ℕ) (d : ℤ) → 0 < length values
    → length (take (length values - 1) (drop 1 values)) ≤ i
    → get_or values 0 d ∷ take i (take (length values - 1) (drop 1 values)) ≡ values
all_values [] i d h k = absurd (omega arith)
all_values (x ∷ xs) i d h k = grind (arith, common_steps)

pub fold_end : (rule : Rule) (safe safe' : ℤ) (values : List ℤ) (i : ℕ) (folded : ℤ) → 0 < length values → safe' ≡ safe
    → length (take (length values - 1) (drop 1 values)) ≤ i
    → folded ≡ fold_of rule safe' (get_or values 0 (pos 0) ∷ take i (take (length values - 1) (drop 1 values)))
    → folded ≡ fold_of rule safe values
fold_end rule safe safe' values i folded h s k e =
    let all = all_values values i (pos 0) h k in rw (all, s) at e

pub fold_front : (rule : Rule) (safe : ℤ) (values : List ℤ) (x : ℤ) → 0 < length values
    → fold_of rule safe (x ∷ values) ≡ merged rule safe (fold_of rule safe values) x
fold_front rule safe values x h = fold_insert rule safe [] values x h

pub merged_same : (rule : Rule) (safe x : ℤ) → merged rule safe x x ≡ x
merged_same Exact safe x = merged_exact safe x x ∙ ap (λ b. cond b x safe) (int_eq_self x)
merged_same Lower safe x = merged_lower safe x x ∙ either (int_lt x x) x
merged_same Higher safe x = merged_higher safe x x ∙ either (int_lt x x) x
merged_same HigherOrZero safe x = by_bool (int_eq (pos 0) x)
    (λ z. let e = int_eq_true (pos 0) x z in sym (merge_zero HigherOrZero safe x x refl (inl (sym e))) ∙ e)
    (λ z. merged_higher_or_zero safe x x
    ∙ ap (λ b. cond (b || (b || false)) (pos 0) (int_max x x)) z ∙ either (int_lt x x) x)

-- values that are all one have it as their fold
pub fold_same : (rule : Rule) (safe : ℤ) (values : List ℤ) (x : ℤ) → 0 < length values → All (λ y. y ≡ x) values
    → fold_of rule safe values ≡ x
fold_same rule safe [] x some all = absurd (omega arith)
fold_same rule safe (y ∷ []) x some all = fold_one rule safe y ∙ all 0 x (omega arith)
fold_same rule safe (y ∷ z ∷ values) x some all =
    fold_front rule safe (z ∷ values) y (omega arith)
    ∙ ap (λ v. merged rule safe v y) (fold_same rule safe (z ∷ values) x (omega arith) (λ k d h. all (suc k) d (omega arith)))
    ∙ ap (merged rule safe x) (all 0 x (omega arith)) ∙ merged_same rule safe x

pub merged_commutes : (rule : Rule) (safe a b : ℤ) → merged rule safe a b ≡ merged rule safe b a
merged_commutes rule safe a b =
    fold_front rule safe (b ∷ []) a (omega arith) ∙ ap (λ v. merged rule safe v a) (fold_one rule safe b)

pub merged_associates : (rule : Rule) (safe a b d : ℤ)
    → merged rule safe (merged rule safe a b) d ≡ merged rule safe a (merged rule safe b d)
merged_associates rule safe a b d =
    sym (fold_push rule safe (a ∷ b ∷ []) d (omega arith))
    ∙ fold_front rule safe (b ∷ d ∷ []) a (omega arith)
    ∙ merged_commutes rule safe (merged rule safe b d) a

-- with a rule other than Exact the merge of two is one of them
pub merged_picks : (rule : Rule) (safe a b : ℤ) → (rule ≡ Exact → ⊥) → (merged rule safe a b ≡ a) ⊎ (merged rule safe a b ≡ b)
merged_picks Exact safe a b ne = absurd (ne refl)
merged_picks Lower safe a b ne = by_bool (int_lt b a)
    (λ e. inr (merged_lower safe a b ∙ ap (λ v. cond v b a) e))
    (λ e. inl (merged_lower safe a b ∙ ap (λ v. cond v b a) e))
merged_picks Higher safe a b ne = by_bool (int_lt b a)
    (λ e. inl (merged_higher safe a b ∙ ap (λ v. cond v a b) e))
    (λ e. inr (merged_higher safe a b ∙ ap (λ v. cond v a b) e))
merged_picks HigherOrZero safe a b ne = by_bool (int_eq (pos 0) a)
    (λ z. let e = int_eq_true (pos 0) a z in inl (sym (merge_zero HigherOrZero safe a b refl (inl (sym e))) ∙ e))
    (λ z. by_bool (int_eq (pos 0) b)
    (λ y. let e = int_eq_true (pos 0) b y in inr (sym (merge_zero HigherOrZero safe a b refl (inr (sym e))) ∙ e))
    (λ y.
    let off : (int_eq (pos 0) a || (int_eq (pos 0) b || false)) ≡ false = rw (z, y) in
    let it = merged_higher_or_zero safe a b ∙ ap (λ v. cond v (pos 0) (int_max a b)) off in
    by_bool (int_lt b a)
    (λ e. inl (it ∙ ap (λ v. cond v a b) e))
    (λ e. inr (it ∙ ap (λ v. cond v a b) e))))

no_items : (xs : List ℤ) → length xs ≡ 0 → xs ≡ []
no_items [] h = refl
no_items (x ∷ xs) h = absurd (omega arith)

-- a value that changes nothing beside one of the list changes nothing beside the list
pub absorbed : (rule : Rule) (safe : ℤ) (before after : List ℤ) (x o : ℤ) → merged rule safe x o ≡ x
    → fold_of rule safe (o ∷ (before ++ x ∷ after)) ≡ fold_of rule safe (before ++ x ∷ after)
absorbed rule safe before after x o h = by_list (before ++ after) refl where
  front : fold_of rule safe (o ∷ (before ++ x ∷ after)) ≡ merged rule safe (fold_of rule safe (before ++ x ∷ after)) o
  front = fold_front rule safe (before ++ x ∷ after) o (omega (arith, length-append {A = ℤ}))

  by_list : (rest : List ℤ) → before ++ after ≡ rest
      → fold_of rule safe (o ∷ (before ++ x ∷ after)) ≡ fold_of rule safe (before ++ x ∷ after)
  by_list [] e =
      let none : length (before ++ after) ≡ 0 = rw e in
      let b : before ≡ [] = no_items before (omega (arith, length-append {A = ℤ})) in
      let a : after ≡ [] = no_items after (omega (arith, length-append {A = ℤ})) in
      rw (b, a) (fold_front rule safe (x ∷ []) o (omega arith) ∙ ap (λ v. merged rule safe v o) (fold_one rule safe x) ∙ h ∙ sym (fold_one rule safe x))
  by_list (y ∷ ys) e =
      let some : 0 < length (before ++ after) = rw e (omega arith) in
      let one = fold_insert rule safe before after x some in
      front ∙ ap (λ v. merged rule safe v o) one
      ∙ merged_associates rule safe (fold_of rule safe (before ++ after)) x o
      ∙ ap (merged rule safe (fold_of rule safe (before ++ after))) h
      ∙ sym one
