-- What holds of a core after steps that are in order.
use Rattle.std.proofs.Common.{◌≡◌, ℕ, Bool, true, false, not, ◌&&◌, ◌||◌, List, [], ◌∷◌, Option, Some, None, refl, sym, ◌∙◌, ap, subst}
use Rattle.std.specs.Prelude.{◌==◌}
use Rattle.std.proofs.lemmas.Bool.{and_parts, or_left, or_parts, or_right}
use Rattle.std.proofs.lemmas.Bool.Decides.{Decides-eqb}
use Rattle.armcaps_board.specs.declared.event.Event.{Event}
use Rattle.armcaps_board.specs.declared.event.Event.TheVariants.{Check, Local, Store, Offline, Finalise}
use Rattle.armcaps_board.specs.Board.{Board}
use Rattle.armcaps_board.specs.Order.{in_order, is_begun_last, is_next, is_up_last, is_updated_last}
use Rattle.armcaps_board.specs.Steps.{is_final, is_finalise, is_local_of, is_step_of, is_store_of, last_step}
use Rattle.armcaps_boot.specs.Admission.{came_early, has_come, was_verified}
use Rattle.armcaps_board.proofs.Turns.{last-other, last-own, settled, turn_of}

-- went offline
abbrev pub is_gone_last : Option Event → Bool
is_gone_last (Some (Offline core)) = true
is_gone_last _ = false

-- one of two holds, or neither
pub on_either : (a b : Bool) → (a || b) ≡ true → (P : Type 0) → (a ≡ true → P) → (b ≡ true → P) → P
on_either true b e P l r = l refl
on_either false b e P l r = r e

-- a core's store and its local step are steps of it
pub no_step : (k : ℕ) (e : Event) → is_step_of k e ≡ false → (is_store_of k e ≡ false) × (is_local_of k e ≡ false)
no_step k (Store c) h = (h, refl)
no_step k (Local c) h = (refl, h)
no_step k (Check c) h = (refl, refl)
no_step k (Offline c) h = (refl, refl)
no_step k Finalise h = (refl, refl)

or_nothing : (a b c : Bool) → b ≡ false → (a || (b && c)) ≡ a
or_nothing true b c e = refl
or_nothing false b c e = rw e

-- what is no store of a core changes nothing of whether it came, and what is no local step nothing of whether it was verified
pub come-same : (k : ℕ) (e : Event) (p : List Event) → is_store_of k e ≡ false → has_come k (e ∷ p) ≡ has_come k p
come-same k e p not_store = ap (λ b. b || has_come k p) not_store

pub early-same : (k : ℕ) (e : Event) (p : List Event) → is_store_of k e ≡ false → came_early k (e ∷ p) ≡ came_early k p
unfolding came_early
early-same k e p not_store = or_nothing (came_early k p) (is_store_of k e) (not (is_final p)) not_store

pub verified-same : (k : ℕ) (e : Event) (p : List Event) → is_local_of k e ≡ false → was_verified k (e ∷ p) ≡ was_verified k p
unfolding was_verified
verified-same k e p not_local = or_nothing (was_verified k p) (is_local_of k e) (is_final p) not_local

or_and_not : (a b c : Bool) → c ≡ true → (a || (b && not c)) ≡ a
or_and_not true b c e = refl
or_and_not false true c e = ap not e
or_and_not false false c e = refl

-- after finalisation no core becomes an early one
pub early-final : (k : ℕ) (e : Event) (p : List Event) → is_final p ≡ true → came_early k (e ∷ p) ≡ came_early k p
unfolding came_early
early-final k e p final = or_and_not (came_early k p) (is_store_of k e) (is_final p) final

-- a core that came early has come
pub early_came : (k : ℕ) (p : List Event) → came_early k p ≡ true → has_come k p ≡ true
unfolding came_early
early_came k [] e = absurd (let no : ⊥ = cc in no)
early_came k (e ∷ p) h =
    on_either (came_early k p) (is_store_of k e && not (is_final p)) h (has_come k (e ∷ p) ≡ true)
    (λ l. or_right (is_store_of k e) (has_come k p) (early_came k p l))
    (λ r. or_left (is_store_of k e) (has_come k p) ((and_parts _ _ r).0))

-- a core is verified after finalisation alone
pub verified_final : (k : ℕ) (p : List Event) → was_verified k p ≡ true → is_final p ≡ true
unfolding was_verified
verified_final k [] e = absurd (let no : ⊥ = cc in no)
verified_final k (e ∷ p) h =
    on_either (was_verified k p) (is_local_of k e && is_final p) h (is_final (e ∷ p) ≡ true)
    (λ l. or_right (is_finalise e) (is_final p) (verified_final k p l))
    (λ r. or_right (is_finalise e) (is_final p) ((and_parts _ _ r).1))

-- a core without a step has neither come nor been verified
pub without_step : (k : ℕ) (p : List Event) → last_step k p ≡ None → (has_come k p ≡ false) × (was_verified k p ≡ false)
unfolding was_verified
without_step k [] none = (refl, refl)
without_step k (e ∷ p) none = by (is_step_of k e) refl (without_step k p) where
  by : (b : Bool) → is_step_of k e ≡ b → (last_step k p ≡ None → (has_come k p ≡ false) × (was_verified k p ≡ false))
      → (has_come k (e ∷ p) ≡ false) × (was_verified k (e ∷ p) ≡ false)
  by true own more = absurd (let bad : Some e ≡ None = sym (last-own k e p own) ∙ none in let no : ⊥ = cc in no)
  by false other more =
      let before = more (sym (last-other k e p other) ∙ none) in
      (come-same k e p (no_step k e other).0 ∙ before.0, verified-same k e p (no_step k e other).1 ∙ before.1)

-- what holds of a core after steps in order
pub record IsCourse (past : List Event) (core : ℕ) : Type 0 where
  -- one that came, and not early, was verified
  pub late : has_come core past ≡ true → came_early core past ≡ false → was_verified core past ≡ true
  -- after finalisation one whose last step is its local one was verified
  pub updated : is_final past ≡ true → is_updated_last (last_step core past) ≡ true → was_verified core past ≡ true
  pub up : is_up_last (last_step core past) ≡ true → has_come core past ≡ true
  pub gone : is_gone_last (last_step core past) ≡ true → has_come core past ≡ true

begun_or_not : (last : Option Event) → is_begun_last last ≡ false → is_updated_last last ≡ true → ⊥
begun_or_not None h u = cc
begun_or_not (Some (Check c)) h u = cc
begun_or_not (Some (Local c)) h u = cc
begun_or_not (Some (Store c)) h u = cc
begun_or_not (Some (Offline c)) h u = cc
begun_or_not (Some Finalise) h u = cc

-- a core's course after a step of another core, or finalisation
course_other : (board : Board) (p : List Event) (e : Event) → is_next board p e ≡ true → (k : ℕ) → IsCourse p k → is_step_of k e ≡ false
    → IsCourse (e ∷ p) k
course_other board p e next k h other = record {
  late = λ came early. verified ∙ h.late (sym come ∙ came) (sym (early-same k e p (no_step k e other).0) ∙ early);
  updated = λ final local. verified ∙ on_either (is_finalise e) (is_final p) final (was_verified k p ≡ true)
      (λ now. absurd (begun_or_not (last_step k p) ((settled board p e next now).1 k) (sym (ap is_updated_last last) ∙ local)))
      (λ before. h.updated before (sym (ap is_updated_last last) ∙ local));
  up = λ u. come ∙ h.up (sym (ap is_up_last last) ∙ u);
  gone = λ g. come ∙ h.gone (sym (ap is_gone_last last) ∙ g);
} where
  last : last_step k (e ∷ p) ≡ last_step k p
  last = last-other k e p other

  come : has_come k (e ∷ p) ≡ has_come k p
  come = come-same k e p (no_step k e other).0

  verified : was_verified k (e ∷ p) ≡ was_verified k p
  verified = verified-same k e p (no_step k e other).1

-- a core's course after a step of its own
course_own : (board : Board) (p : List Event) (e : Event) → is_next board p e ≡ true → (k : ℕ) → IsCourse p k → is_step_of k e ≡ true
    → IsCourse (e ∷ p) k
unfolding came_early was_verified
course_own board p (Check c) next k h own =
    let last = last-own k (Check c) p own in record {
      late = λ came early. verified-same k (Check c) p refl ∙ h.late came (sym (early-same k (Check c) p refl) ∙ early);
      updated = λ final local. absurd (let bad : false ≡ true = sym (ap is_updated_last last) ∙ local in let no : ⊥ = cc in no);
      up = λ u. absurd (let bad : false ≡ true = sym (ap is_up_last last) ∙ u in let no : ⊥ = cc in no);
      gone = λ g. absurd (let bad : false ≡ true = sym (ap is_gone_last last) ∙ g in let no : ⊥ = cc in no);
    }
course_own board p (Local c) next k h own =
    let last = last-own k (Local c) p own in record {
      late = λ came early. or_left (was_verified k p) _ (h.late came (sym (early-same k (Local c) p refl) ∙ early));
      updated = λ final local. or_right (was_verified k p) ((c == k) && is_final p) (ap (λ b. b && is_final p) own ∙ final);
      up = λ u. absurd (let bad : false ≡ true = sym (ap is_up_last last) ∙ u in let no : ⊥ = cc in no);
      gone = λ g. absurd (let bad : false ≡ true = sym (ap is_gone_last last) ∙ g in let no : ⊥ = cc in no);
    }
course_own board p (Store c) next k h own =
    let last = last-own k (Store c) p own in
    let same : c ≡ k = (Decides-eqb c k).0 own in
    let local : is_updated_last (last_step k p) ≡ true = subst (λ (j : ℕ). is_updated_last (last_step j p) ≡ true) same (turn_of board p (Store c) c refl next).follows in record {
      late = λ came early. verified-same k (Store c) p refl ∙ h.updated (not_false (is_final p) (by_store (sym (ap (λ b. b && not (is_final p)) own) ∙ (or_parts (came_early k p) _ early).1))) local;
      updated = λ final u. absurd (let bad : false ≡ true = sym (ap is_updated_last last) ∙ u in let no : ⊥ = cc in no);
      up = λ u. ap (λ b. b || has_come k p) own;
      gone = λ g. absurd (let bad : false ≡ true = sym (ap is_gone_last last) ∙ g in let no : ⊥ = cc in no);
    } where
      not_false : (b : Bool) → not b ≡ false → b ≡ true
      not_false true e = refl
      not_false false e = sym e

      by_store : not (is_final p) ≡ false → not (is_final p) ≡ false
      by_store e = e
course_own board p (Offline c) next k h own =
    let last = last-own k (Offline c) p own in
    let same : c ≡ k = (Decides-eqb c k).0 own in
    let came : has_come k p ≡ true = h.up (subst (λ (j : ℕ). is_up_last (last_step j p) ≡ true) same (turn_of board p (Offline c) c refl next).follows) in record {
      late = λ came early. verified-same k (Offline c) p refl ∙ h.late came (sym (early-same k (Offline c) p refl) ∙ early);
      updated = λ final u. absurd (let bad : false ≡ true = sym (ap is_updated_last last) ∙ u in let no : ⊥ = cc in no);
      up = λ u. absurd (let bad : false ≡ true = sym (ap is_up_last last) ∙ u in let no : ⊥ = cc in no);
      gone = λ g. came;
    }
course_own board p Finalise next k h own = absurd (let no : ⊥ = cc in no)

-- of steps in order each core has such a course
pub course : (board : Board) (p : List Event) → in_order board p ≡ true → (k : ℕ) → IsCourse p k
unfolding in_order came_early was_verified
course board [] order k = record {
  late = λ came early. absurd (let no : ⊥ = cc in no);
  updated = λ final local. absurd (let no : ⊥ = cc in no);
  up = λ u. absurd (let no : ⊥ = cc in no);
  gone = λ g. absurd (let no : ⊥ = cc in no);
}
course board (e ∷ p) order k = by (is_step_of k e) refl (course board p ((and_parts (is_next board p e) (in_order board p) order).1) k) where
  by : (b : Bool) → is_step_of k e ≡ b → IsCourse p k → IsCourse (e ∷ p) k
  by true own before = course_own board p e ((and_parts (is_next board p e) (in_order board p) order).0) k before own
  by false other before = course_other board p e ((and_parts (is_next board p e) (in_order board p) order).0) k before other
