-- Forced values: what an override changes.
use Rattle.std.proofs.Common.{length-append, ◌≡◌, ◌<◌, length, ◌⊎◌, inl, inr, true, false, cond, List, [], ◌∷◌, ◌++◌, Option, Some, None, refl, sym, ◌∙◌, ap, arith}
use Rattle.std.specs.Prelude.{ℤ}
use Rattle.std.specs.Ordering.{int_eq}
use Rattle.armcaps_rule.specs.declared.rule.Rule.{Rule}
use Rattle.armcaps_rule.specs.declared.rule.Rule.TheVariants.{Exact, Lower, Higher, HigherOrZero}
use Rattle.armcaps_rule.specs.Rule.{fold_of, merged, forced_of}
use Rattle.armcaps_rule.proofs.Leading.{int_eq_self, int_eq_true}
use Rattle.armcaps_rule.proofs.Insertion.{by_bool, either, fold_insert}
use Rattle.armcaps_rule.proofs.Merging.{merged_exact, merged_same, merged_commutes, merged_associates, merged_picks, absorbed, int_eq_not, eq_not_false, fold_front, fold_one}

pub forced_none : (rule : Rule) (safe : ℤ) (values : List ℤ) → forced_of rule safe None values ≡ fold_of rule safe values
unfolding forced_of
forced_none Exact safe values = refl
forced_none Lower safe values = refl
forced_none Higher safe values = refl
forced_none HigherOrZero safe values = refl

pub forced_exact_safe : (safe override : ℤ) (values : List ℤ) → override ≡ safe → forced_of Exact safe (Some override) values ≡ safe
unfolding forced_of
forced_exact_safe safe override values e = rw (e, int_eq_self safe)

pub forced_exact_other : (safe override : ℤ) (values : List ℤ) → (override ≡ safe → ⊥)
    → forced_of Exact safe (Some override) values ≡ fold_of Exact safe values
unfolding forced_of
forced_exact_other safe override values e = rw (int_eq_not override safe e)

-- with a rule other than Exact an override is one more value
pub forced_more : (rule : Rule) (safe override : ℤ) (values : List ℤ) → (rule ≡ Exact → ⊥)
    → forced_of rule safe (Some override) values ≡ fold_of rule safe (override ∷ values)
unfolding forced_of
forced_more Exact safe override values h = absurd (h refl)
forced_more Lower safe override values h = refl
forced_more Higher safe override values h = refl
forced_more HigherOrZero safe override values h = refl

more_insert : (rule : Rule) (safe override : ℤ) (before after : List ℤ) (x : ℤ) → 0 < length (before ++ after) → (rule ≡ Exact → ⊥)
    → forced_of rule safe (Some override) (before ++ x ∷ after) ≡ merged rule safe (forced_of rule safe (Some override) (before ++ after)) x
more_insert rule safe override before after x h ne =
    forced_more rule safe override (before ++ x ∷ after) ne
    ∙ fold_insert rule safe (override ∷ before) after x (omega arith)
    ∙ ap (λ v. merged rule safe v x) (sym (forced_more rule safe override (before ++ after) ne))

-- a value that is added to a forced value, in whatever place, is one merge
pub forced_insert : (rule : Rule) (safe : ℤ) (override : Option ℤ) (before after : List ℤ) (x : ℤ) → 0 < length (before ++ after)
    → forced_of rule safe override (before ++ x ∷ after) ≡ merged rule safe (forced_of rule safe override (before ++ after)) x
forced_insert rule safe None before after x h =
    rw (forced_none rule safe (before ++ x ∷ after), forced_none rule safe (before ++ after)) (fold_insert rule safe before after x h)
forced_insert Exact safe (Some override) before after x h = by_bool (int_eq override safe)
    (λ s. let e = int_eq_true override safe s in
    forced_exact_safe safe override (before ++ x ∷ after) e
    ∙ sym (merged_exact safe safe x ∙ either (int_eq safe x) safe)
    ∙ ap (λ v. merged Exact safe v x) (sym (forced_exact_safe safe override (before ++ after) e)))
    (λ s.
    let ne : override ≡ safe → ⊥ = λ e. eq_not_false override safe e s in
    forced_exact_other safe override (before ++ x ∷ after) ne
    ∙ fold_insert Exact safe before after x h
    ∙ ap (λ v. merged Exact safe v x) (sym (forced_exact_other safe override (before ++ after) ne)))
forced_insert Lower safe (Some override) before after x h =
    more_insert Lower safe override before after x h (λ e. cc)
forced_insert Higher safe (Some override) before after x h =
    more_insert Higher safe override before after x h (λ e. cc)
forced_insert HigherOrZero safe (Some override) before after x h =
    more_insert HigherOrZero safe override before after x h (λ e. cc)

-- a value merged into what it and one more make changes nothing
merged_again : (rule : Rule) (safe folded x : ℤ) → merged rule safe (merged rule safe folded x) x ≡ merged rule safe folded x
merged_again rule safe folded x =
    merged_associates rule safe folded x x ∙ ap (merged rule safe folded) (merged_same rule safe x)

again_more : (rule : Rule) (safe override x : ℤ) → (rule ≡ Exact → ⊥)
    → merged rule safe (forced_of rule safe (Some override) (x ∷ [])) x ≡ forced_of rule safe (Some override) (x ∷ [])
again_more rule safe override x ne =
    let is : forced_of rule safe (Some override) (x ∷ []) ≡ merged rule safe override x =
    forced_more rule safe override (x ∷ []) ne in
    rw is (merged_again rule safe override x)

-- the same of one value under an override
again_alone : (rule : Rule) (safe : ℤ) (override : Option ℤ) (x : ℤ)
    → merged rule safe (forced_of rule safe override (x ∷ [])) x ≡ forced_of rule safe override (x ∷ [])
again_alone rule safe None x =
    rw (forced_none rule safe (x ∷ []), fold_one rule safe x) (merged_same rule safe x)
again_alone Exact safe (Some override) x = by_bool (int_eq override safe)
    (λ s.
    let is = forced_exact_safe safe override (x ∷ []) (int_eq_true override safe s) in
    rw is (merged_exact safe safe x ∙ either (int_eq safe x) safe))
    (λ s.
    let is = forced_exact_other safe override (x ∷ []) (λ e. eq_not_false override safe e s) in
    rw (is, fold_one Exact safe x) (merged_same Exact safe x))
again_alone Lower safe (Some override) x = again_more Lower safe override x (λ e. cc)
again_alone Higher safe (Some override) x = again_more Higher safe override x (λ e. cc)
again_alone HigherOrZero safe (Some override) x = again_more HigherOrZero safe override x (λ e. cc)

-- a value that is among those of a forced value already, merged again, changes nothing
pub forced_again : (rule : Rule) (safe : ℤ) (override : Option ℤ) (before after : List ℤ) (x : ℤ)
    → merged rule safe (forced_of rule safe override (before ++ x ∷ after)) x ≡ forced_of rule safe override (before ++ x ∷ after)
forced_again rule safe override [] [] x = again_alone rule safe override x
forced_again rule safe override [] (y ∷ after) x =
    let is = forced_insert rule safe override [] (y ∷ after) x (omega arith) in
    rw is (merged_again rule safe (forced_of rule safe override (y ∷ after)) x)
forced_again rule safe override (y ∷ before) after x =
    let is = forced_insert rule safe override (y ∷ before) after x (omega arith) in
    rw is (merged_again rule safe (forced_of rule safe override (y ∷ before ++ after)) x)

ignored_more : (rule : Rule) (safe : ℤ) (before after : List ℤ) (x o : ℤ) → (rule ≡ Exact → ⊥) → (merged rule safe o x ≡ o → ⊥)
    → forced_of rule safe (Some o) (before ++ x ∷ after) ≡ fold_of rule safe (before ++ x ∷ after)
ignored_more rule safe before after x o ne h =
    forced_more rule safe o (before ++ x ∷ after) ne
    ∙ absorbed rule safe before after x o (merged_commutes rule safe x o ∙ picked (merged_picks rule safe o x ne)) where
      picked : (merged rule safe o x ≡ o) ⊎ (merged rule safe o x ≡ x) → merged rule safe o x ≡ x
      picked (inl e) = absurd (h e)
      picked (inr e) = e

-- an override that the value of a core in the list doesn't give way to leaves no mark
pub override_ignored : (rule : Rule) (safe : ℤ) (before after : List ℤ) (x o : ℤ) → (merged rule safe o x ≡ o → ⊥)
    → forced_of rule safe (Some o) (before ++ x ∷ after) ≡ fold_of rule safe (before ++ x ∷ after)
override_ignored Exact safe before after x o h =
    forced_exact_other safe o (before ++ x ∷ after)
    (λ e. h (merged_exact safe o x ∙ rw e (either (int_eq safe x) safe)))
override_ignored Lower safe before after x o h = ignored_more Lower safe before after x o (λ e. cc) h
override_ignored Higher safe before after x o h = ignored_more Higher safe before after x o (λ e. cc) h
override_ignored HigherOrZero safe before after x o h = ignored_more HigherOrZero safe before after x o (λ e. cc) h

-- an override that the value of a core in the list gives way to counts as one more value
pub override_taken : (rule : Rule) (safe : ℤ) (before after : List ℤ) (x o : ℤ) → merged rule safe o x ≡ o
    → forced_of rule safe (Some o) (before ++ x ∷ after) ≡ fold_of rule safe (o ∷ (before ++ x ∷ after))
override_taken Exact safe before after x o h = by_bool (int_eq o safe) safe_one other_one where
  values : List ℤ
  values = before ++ x ∷ after

  some : 0 < length (before ++ x ∷ after)
  some = omega (arith, length-append {A = ℤ})

  safe_one : int_eq o safe ≡ true → forced_of Exact safe (Some o) (before ++ x ∷ after) ≡ fold_of Exact safe (o ∷ (before ++ x ∷ after))
  safe_one s =
      let e = int_eq_true o safe s in
      forced_exact_safe safe o (before ++ x ∷ after) e
      ∙ sym (fold_front Exact safe (before ++ x ∷ after) o some
      ∙ ap (merged Exact safe (fold_of Exact safe (before ++ x ∷ after))) e
      ∙ merged_commutes Exact safe (fold_of Exact safe (before ++ x ∷ after)) safe
      ∙ merged_exact safe safe (fold_of Exact safe (before ++ x ∷ after))
      ∙ either (int_eq safe (fold_of Exact safe (before ++ x ∷ after))) safe)

  other_one : int_eq o safe ≡ false → forced_of Exact safe (Some o) (before ++ x ∷ after) ≡ fold_of Exact safe (o ∷ (before ++ x ∷ after))
  other_one s =
      let ne : o ≡ safe → ⊥ = λ e. eq_not_false o safe e s in
      let same : o ≡ x = by_bool (int_eq o x) (λ t. int_eq_true o x t)
      (λ t. absurd (ne (sym (sym (merged_exact safe o x ∙ ap (λ b. cond b o safe) t) ∙ h)))) in
      forced_exact_other safe o (before ++ x ∷ after) ne
      ∙ sym (absorbed Exact safe before after x o (ap (merged Exact safe x) same ∙ merged_same Exact safe x))
override_taken Lower safe before after x o h = forced_more Lower safe o (before ++ x ∷ after) (λ e. cc)
override_taken Higher safe before after x o h = forced_more Higher safe o (before ++ x ∷ after) (λ e. cc)
override_taken HigherOrZero safe before after x o h = forced_more HigherOrZero safe o (before ++ x ∷ after) (λ e. cc)
