-- Adding a value to a fold is one merge, in whatever place the value stands.
use Rattle.std.proofs.Common.{◌≡◌, ◌<◌, length, Bool, true, false, cond, ◌&&◌, ◌||◌, List, [], ◌∷◌, ◌++◌, Option, Some, None, refl, sym, ◌∙◌, ap, subst, arith}
use Rattle.std.specs.Prelude.{ℤ, pos, unwrap_or, int_le}
use Rattle.std.specs.List.{list_all, list_any}
use Rattle.std.specs.Ordering.{int_eq}
use Rattle.std.proofs.lemmas.List.Folds.{list_all-append, list_any-append}
use Rattle.armcaps_rule.specs.declared.rule.Rule.{Rule}
use Rattle.armcaps_rule.specs.declared.rule.Rule.TheVariants.{Exact, Lower, Higher, HigherOrZero}
use Rattle.armcaps_rule.specs.Rule.{common, greatest, fold_of, merged}
use Rattle.armcaps_rule.proofs.Leading.{int_eq_self, int_eq_true, Leads, leads_found, found_leads, stays, all_at, some_leads, le_orders, ge_orders, leading_insert}

by_option : {P : Type 0} (o : Option ℤ) → (o ≡ None → P) → ((m : ℤ) → o ≡ Some m → P) → P
by_option None none some = none refl
by_option (Some m) none some = some m refl

pub by_bool : {P : Type 0} (b : Bool) → (b ≡ true → P) → (b ≡ false → P) → P
by_bool true on off = on refl
by_bool false on off = off refl

none_is : (o : Option ℤ) → ((m : ℤ) → o ≡ Some m → ⊥) → o ≡ None
none_is None never = refl
none_is (Some m) never = absurd (never m refl)

pub eq_both : (a b : ℤ) → int_eq a b ≡ true → int_eq b a ≡ true → a ≡ b
eq_both a b h k = int_eq_true a b h

int_eq_sym : (a b : ℤ) → int_eq a b ≡ int_eq b a
int_eq_sym a b = by_bool (int_eq a b)
    (λ h. let e = int_eq_true a b h in rw e)
    (λ h. by_bool (int_eq b a) (λ k. let e = int_eq_true b a k in rw e) (λ k. h ∙ sym k))

-- the fold of two under the rule Exact
pub common_pair : (safe m x : ℤ) → unwrap_or (common (m ∷ x ∷ [])) safe ≡ cond (int_eq m x) m safe
common_pair safe m x = by_bool (int_eq m x)
    (λ h. let same = int_eq_self m in rw (h, same))
    (λ h. let same = int_eq_self x in let h' = sym (int_eq_sym m x) ∙ h in rw (h, h', int_eq_self m))

pub either : (b : Bool) (m : ℤ) → cond b m m ≡ m
either true m = refl
either false m = refl

-- a value that equals each of a list that isn't empty occurs there
all_occurs : (values : List ℤ) (m : ℤ) → 0 < length values → list_all (int_eq m) values ≡ true → list_any (int_eq m) values ≡ true
all_occurs [] m h all = absurd (omega arith)
all_occurs (x ∷ xs) m h all = by_bool (int_eq m x) (λ e. rw e) (λ e. let all' = (rw e at all) in cc)

and_left : (a b : Bool) → (a && b) ≡ true → a ≡ true
and_left true b h = refl
and_left false b h = h

and_right : (a b : Bool) → (a && b) ≡ true → b ≡ true
and_right true b h = h
and_right false b h = cc

-- a value that equals each of more values equals each of the fewer, and the one that came
all_fewer : (p : ℤ → Bool) (before after : List ℤ) (x : ℤ) → list_all p (before ++ x ∷ after) ≡ true → list_all p (before ++ after) ≡ true
all_fewer p before after x h =
    let e : (list_all p before && (p x && list_all p after)) ≡ true = sym (list_all-append p before (x ∷ after)) ∙ h in
    let front = and_left (list_all p before) (p x && list_all p after) e in
    let back = and_right (p x) (list_all p after) (and_right (list_all p before) (p x && list_all p after) e) in
    list_all-append p before after ∙ rw (front, back)

all_new : (p : ℤ → Bool) (before after : List ℤ) (x : ℤ) → list_all p (before ++ x ∷ after) ≡ true → p x ≡ true
all_new p before after x h =
    let e : (list_all p before && (p x && list_all p after)) ≡ true = sym (list_all-append p before (x ∷ after)) ∙ h in
    and_left (p x) (list_all p after) (and_right (list_all p before) (p x && list_all p after) e)

exact_step : (safe : ℤ) (was now : Option ℤ) (x : ℤ)
    → unwrap_or now safe ≡ cond (int_eq (unwrap_or was safe) x) (unwrap_or was safe) safe
    → unwrap_or now safe ≡ unwrap_or (common (unwrap_or was safe ∷ x ∷ [])) safe
exact_step safe was now x h = h ∙ sym (common_pair safe (unwrap_or was safe) x)

common_insert : (safe : ℤ) (before after : List ℤ) (x : ℤ) → 0 < length (before ++ after)
    → unwrap_or (common (before ++ x ∷ after)) safe
    ≡ unwrap_or (common (unwrap_or (common (before ++ after)) safe ∷ x ∷ [])) safe
common_insert safe before after x h = exact_step safe (common (before ++ after)) (common (before ++ x ∷ after)) x
    (by_option (common (before ++ after)) none some) where
      none : common (before ++ after) ≡ None
          → unwrap_or (common (before ++ x ∷ after)) safe
          ≡ cond (int_eq (unwrap_or (common (before ++ after)) safe) x) (unwrap_or (common (before ++ after)) safe) safe
      none e =
          let now : common (before ++ x ∷ after) ≡ None = none_is _ (λ m f.
          let l = found_leads int_eq (before ++ x ∷ after) m f in
          let all = all_fewer (int_eq m) before after x l.passes in
          let again = leads_found int_eq eq_both (before ++ after) m (record { occurs = all_occurs (before ++ after) m h all; passes = all }) in
          cc) in
          ap (λ v. unwrap_or v safe) now
          ∙ sym (subst (λ v. cond (int_eq (unwrap_or v safe) x) (unwrap_or v safe) safe ≡ safe) (sym e) (either (int_eq safe x) safe))

      some : (m : ℤ) → common (before ++ after) ≡ Some m
          → unwrap_or (common (before ++ x ∷ after)) safe
          ≡ cond (int_eq (unwrap_or (common (before ++ after)) safe) x) (unwrap_or (common (before ++ after)) safe) safe
      some m e = subst (λ v. unwrap_or (common (before ++ x ∷ after)) safe ≡ cond (int_eq (unwrap_or v safe) x) (unwrap_or v safe) safe) (sym e)
          (by_bool (int_eq m x)
          (λ same.
          let now = leads_found int_eq eq_both _ _ (stays int_eq before after m x (found_leads int_eq (before ++ after) m e) same) in
          ap (λ v. unwrap_or v safe) now ∙ sym (ap (λ b. cond b m safe) same))
          (λ differs.
          let now : common (before ++ x ∷ after) ≡ None = none_is _ (λ y f.
          let l = found_leads int_eq (before ++ x ∷ after) y f in
          let was = found_leads int_eq (before ++ after) m e in
          let all = all_fewer (int_eq y) before after x l.passes in
          let new = int_eq_true y x (all_new (int_eq y) before after x l.passes) in
          let old = int_eq_true y m (all_at (int_eq y) (before ++ after) m all was.occurs) in
          let joined : m ≡ x = sym old ∙ new in
          let t : int_eq m x ≡ true = rw joined (int_eq_self x) in
          cc) in
          ap (λ v. unwrap_or v safe) now ∙ sym (ap (λ b. cond b m safe) differs)))

any_insert : (p : ℤ → Bool) (before after : List ℤ) (x : ℤ) → list_any p (before ++ x ∷ after) ≡ (p x || list_any p (before ++ after))
any_insert p before after x = grind (arith, list_any-append)

zero_step : (z0 zx : Bool) (safe was now : ℤ) (x : ℤ)
    → now ≡ unwrap_or (greatest (was ∷ x ∷ [])) safe
    → int_eq (pos 0) x ≡ zx → (z0 ≡ false → int_eq (pos 0) was ≡ false)
    → cond (zx || z0) (pos 0) now
    ≡ cond (int_eq (pos 0) (cond z0 (pos 0) was) || (int_eq (pos 0) x || false)) (pos 0)
    (unwrap_or (greatest (cond z0 (pos 0) was ∷ x ∷ [])) safe)
zero_step true true safe was now x e h g = refl
zero_step true false safe was now x e h g = refl
zero_step false true safe was now x e h g = let g' = g refl in rw (h, g')
zero_step false false safe was now x e h g = let g' = g refl in rw (h, g', e)

greatest_not_zero : (safe : ℤ) (values : List ℤ) → 0 < length values → list_any (int_eq (pos 0)) values ≡ false
    → int_eq (pos 0) (unwrap_or (greatest values) safe) ≡ false
greatest_not_zero safe values h no' = on (some_leads (λ a b. int_le b a) ge_orders values h) where
  on : ((m : ℤ) × Leads (λ a b. int_le b a) values m) → int_eq (pos 0) (unwrap_or (greatest values) safe) ≡ false
  on (m, l) =
      let e : greatest values ≡ Some m = leads_found (λ a b. int_le b a) ge_orders.both values m l in
      subst (λ v. int_eq (pos 0) (unwrap_or v safe) ≡ false) (sym e)
      (by_bool (int_eq (pos 0) m)
      (λ same. let z = int_eq_true (pos 0) m same in let o : list_any (int_eq (pos 0)) values ≡ true = rw z l.occurs in cc)
      (λ differs. differs))

pub fold_insert : (rule : Rule) (safe : ℤ) (before after : List ℤ) (x : ℤ) → 0 < length (before ++ after)
    → fold_of rule safe (before ++ x ∷ after) ≡ merged rule safe (fold_of rule safe (before ++ after)) x
unfolding fold_of
fold_insert Exact safe before after x h = common_insert safe before after x h
fold_insert Lower safe before after x h = leading_insert int_le le_orders safe before after x h
fold_insert Higher safe before after x h = leading_insert (λ a b. int_le b a) ge_orders safe before after x h
fold_insert HigherOrZero safe before after x h =
    let all = any_insert (int_eq (pos 0)) before after x in
    let step = zero_step (list_any (int_eq (pos 0)) (before ++ after)) (int_eq (pos 0) x) safe
    (unwrap_or (greatest (before ++ after)) safe) (unwrap_or (greatest (before ++ x ∷ after)) safe) x
    (leading_insert (λ a b. int_le b a) ge_orders safe before after x h) refl (greatest_not_zero safe (before ++ after) h) in
    ap (λ b. cond b (pos 0) (unwrap_or (greatest (before ++ x ∷ after)) safe)) all ∙ step
