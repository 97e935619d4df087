-- What a step leaves of why a core is held back, and which cores the steps say are admitted.
use Rattle.std.proofs.Common.{◌≡◌, ℕ, Bool, true, false, not, ◌&&◌, ◌||◌, List, [], ◌∷◌, Option, Some, None, refl, sym, ◌∙◌, ap, if◌then◌else◌}
use Rattle.std.specs.Prelude.{◌==◌, is_none, is_some}
use Rattle.std.specs.Option.{option_or}
use Rattle.std.proofs.lemmas.Bool.Decides.{Decides-eqb}
use Rattle.armcaps_tables.specs.Core.{Core}
use Rattle.armcaps_boot.specs.declared.cause.Cause.{Cause}
use Rattle.armcaps_boot.specs.declared.core_state.CoreState.{CoreState}
use Rattle.armcaps_boot.specs.declared.core_state.CoreState.TheVariants.{Admitted}
use Rattle.armcaps_board.specs.declared.event.Event.{Event}
use Rattle.armcaps_board.specs.declared.event.Event.TheVariants.{Check, Local, Store, Offline, Finalise}
use Rattle.armcaps_boot.specs.declared.past.Past.{Past}
use Rattle.armcaps_boot.specs.declared.past.Past.TheVariants.{Never, Early, Late}
use Rattle.armcaps_board.specs.Board.{Board}
use Rattle.armcaps_board.specs.Order.{in_order, is_up_last}
use Rattle.armcaps_board.specs.Steps.{is_final, is_step_of, last_step}
use Rattle.armcaps_boot.specs.Admission.{came_early, early_cores_after, has_come, is_among_admitted, is_among_early, is_among_late, was_verified}
use Rattle.armcaps_boot.specs.ParkOrPanic.{held_back, stops_machine}
use Rattle.armcaps_boot.specs.After.{past_from, state_from, state_of}
use Rattle.armcaps_boot.specs.Causes.{cause_at_check, cause_at_verification}
use Rattle.armcaps_boot.specs.States.{is_admitted, is_admitted_past, is_early, is_early_past, is_late, is_late_past, past_of}
use Rattle.armcaps_boot.proofs.ChosenCores.{chosen-same}
use Rattle.armcaps_board.proofs.Turns.{last-other, last-own}
use Rattle.armcaps_boot.proofs.Histories.{course, early-final, early_came, is_gone_last, no_step, verified-same, verified_final, without_step}

-- why a core is held back, by what is looked at
abbrev pub held_from : Bool → Option Cause → Bool → Bool → Option Cause → Option Cause
held_from stepped early verified came late = if stepped then option_or early (if verified && not came then late else None) else None

pub held_is : (board : Board) (p : List Event) (k : ℕ)
    → held_back board p k ≡ held_from (is_some (last_step k p)) (cause_at_check board k) (was_verified k p) (came_early k p) (cause_at_verification board (early_cores_after board p) k)
unfolding held_back
held_is board p k = refl

-- as what a core was admitted
abbrev pub past_by : Bool → Bool → Past
past_by came has = if came then Early else if has then Late else Never

-- after finalisation the early cores stay, and with them each core's late cause
pub early_cores_after-final : (board : Board) (e : Event) (p : List Event) → is_final p ≡ true → early_cores_after board (e ∷ p) ≡ early_cores_after board p
early_cores_after-final board e p final =
    chosen-same (is_among_early board (e ∷ p)) (is_among_early board p) board.cores
    (λ j. ap (λ (b : Bool). (j == board.boot) || (b && is_none (cause_at_check board j))) (early-final j e p final))

pub late-final : (board : Board) (e : Event) (p : List Event) (k : ℕ) → is_final p ≡ true → cause_at_verification board (early_cores_after board (e ∷ p)) k ≡ cause_at_verification board (early_cores_after board p) k
late-final board e p k final =
    ap (λ (l : List Core). cause_at_verification board l k) (early_cores_after-final board e p final)

from_same : (s t v u c d : Bool) (early l m : Option Cause) → t ≡ s → u ≡ v → (v ≡ true → d ≡ c) → (v ≡ true → m ≡ l)
    → held_from t early u d m ≡ held_from s early v c l
from_same s t true u c d early l m se ve ce le = rw (se, ve, ce refl, le refl) refl
from_same s t false u c d early l m se ve ce le = rw (se, ve) refl

-- a step that is neither the first of a core nor its local one leaves why the core is held back
pub held_stays : (board : Board) (e : Event) (p : List Event) (k : ℕ)
    → is_some (last_step k (e ∷ p)) ≡ is_some (last_step k p) → was_verified k (e ∷ p) ≡ was_verified k p
    → held_back board (e ∷ p) k ≡ held_back board p k
held_stays board e p k stepped verified =
    held_is board (e ∷ p) k
    ∙ from_same (is_some (last_step k p)) (is_some (last_step k (e ∷ p))) (was_verified k p) (was_verified k (e ∷ p)) (came_early k p) (came_early k (e ∷ p))
    (cause_at_check board k) (cause_at_verification board (early_cores_after board p) k) (cause_at_verification board (early_cores_after board (e ∷ p)) k) stepped verified
    (λ v. early-final k e p (verified_final k p v)) (λ v. late-final board e p k (verified_final k p v))
    ∙ sym (held_is board p k)

pub held-other : (board : Board) (e : Event) (p : List Event) (k : ℕ) → is_step_of k e ≡ false → held_back board (e ∷ p) k ≡ held_back board p k
held-other board e p k other = held_stays board e p k (ap is_some (last-other k e p other)) (verified-same k e p (no_step k e other).1)

pub other_number : (j k : ℕ) → (j ≡ k → ⊥) → (j == k) ≡ false
other_number j k other = by (j == k) refl where
  by : (b : Bool) → (j == k) ≡ b → b ≡ false
  by true e = absurd (other ((Decides-eqb j k).0 e))
  by false e = refl

-- no last step of a core is finalisation
pub not_finalise : (k : ℕ) (p : List Event) → last_step k p ≡ Some Finalise → ⊥
not_finalise k [] e = cc
not_finalise k (x ∷ p) e = by (is_step_of k x) refl (not_finalise k p) where
  never : (y : Event) → is_step_of k y ≡ true → Some y ≡ Some Finalise → ⊥
  never Finalise own same = cc
  never (Check c) own same = cc
  never (Local c) own same = cc
  never (Store c) own same = cc
  never (Offline c) own same = cc

  by : (b : Bool) → is_step_of k x ≡ b → (last_step k p ≡ Some Finalise → ⊥) → ⊥
  by true own more = never x own (sym (last-own k x p own) ∙ e)
  by false other more = more (sym (last-other k x p other) ∙ e)

-- the state of a core by what the steps say of it, and whether it is then an early one, or was ever admitted
abbrev state_by : Option Event → Option Cause → Bool → Bool → Bool → Option Cause → CoreState
state_by last early verified came has late = state_from last (held_from (is_some last) early verified came late) (past_by came has)

-- what the steps in order say of a core
pub record IsCase (last : Option Event) (verified came has : Bool) : Type 0 where
  pub early : came ≡ true → has ≡ true
  pub late : has ≡ true → came ≡ false → verified ≡ true
  pub up : is_up_last last ≡ true → has ≡ true
  pub gone : is_gone_last last ≡ true → has ≡ true
  pub fresh : last ≡ None → has ≡ false
  pub own : last ≡ Some Finalise → ⊥

pub case_of : (board : Board) (p : List Event) → in_order board p ≡ true → (k : ℕ)
    → IsCase (last_step k p) (was_verified k p) (came_early k p) (has_come k p)
case_of board p order k = let c = course board p order k in record {
  early = early_came k p;
  late = c.late;
  up = c.up;
  gone = c.gone;
  fresh = λ none. (without_step k p none).0;
  own = not_finalise k p;
}

-- a core that is held back is not admitted
held_is_not_admitted : (e : Event) (cause : Cause) (was : Past) → past_of (state_from (Some e) (Some cause) was) ≡ Never
held_is_not_admitted e cause was = by (stops_machine cause) refl where
  by : (b : Bool) → stops_machine cause ≡ b → past_of (state_from (Some e) (Some cause) was) ≡ Never
  by true stops = rw stops refl
  by false stops = rw stops refl

-- as what the state shows a core that is not held back
pub shown_early : (last : Option Event) → is_some last ≡ true → (last ≡ Some Finalise → ⊥) → past_of (state_from last None Early) ≡ Early
shown_early None some own = absurd (let no : ⊥ = cc in no)
shown_early (Some (Check c)) some own = refl
shown_early (Some (Local c)) some own = refl
shown_early (Some (Store c)) some own = refl
shown_early (Some (Offline c)) some own = refl
shown_early (Some Finalise) some own = absurd (own refl)

pub shown_late : (last : Option Event) → is_some last ≡ true → (last ≡ Some Finalise → ⊥) → past_of (state_from last None Late) ≡ Late
shown_late None some own = absurd (let no : ⊥ = cc in no)
shown_late (Some (Check c)) some own = refl
shown_late (Some (Local c)) some own = refl
shown_late (Some (Store c)) some own = refl
shown_late (Some (Offline c)) some own = refl
shown_late (Some Finalise) some own = absurd (own refl)

pub shown_never : (last : Option Event) → is_up_last last ≡ false → is_gone_last last ≡ false → past_of (state_from last None Never) ≡ Never
shown_never None up gone = refl
shown_never (Some (Check c)) up gone = refl
shown_never (Some (Local c)) up gone = refl
shown_never (Some (Store c)) up gone = absurd (let no : ⊥ = cc in no)
shown_never (Some (Offline c)) up gone = absurd (let no : ⊥ = cc in no)
shown_never (Some Finalise) up gone = refl

pub never_true : (b : Bool) → (b ≡ true → ⊥) → b ≡ false
never_true true h = absurd (h refl)
never_true false h = refl

-- as what a core was admitted, by what the steps say of it
abbrev shown : Option Cause → Bool → Bool → Bool → Option Cause → Past
shown (Some cause) verified came has late = Never
shown None verified true has late = Early
shown None verified false true (Some cause) = Never
shown None verified false true None = Late
shown None verified false false late = Never

past_shown : (last : Option Event) (early : Option Cause) (verified came has : Bool) (late : Option Cause) → IsCase last verified came has
    → past_of (state_by last early verified came has late) ≡ shown early verified came has late
past_shown None (Some cause) verified came has late h = refl
past_shown (Some e) (Some cause) verified came has late h = held_is_not_admitted e cause (past_by came has)
past_shown None None verified true has late h = absurd (let bad : true ≡ false = sym (h.early refl) ∙ h.fresh refl in let no : ⊥ = cc in no)
past_shown None None verified false true late h = absurd (let bad : true ≡ false = h.fresh refl in let no : ⊥ = cc in no)
past_shown None None verified false false late h = refl
past_shown (Some e) None true true has late h = shown_early (Some e) refl h.own
past_shown (Some e) None false true has late h = shown_early (Some e) refl h.own
past_shown (Some e) None true false true (Some cause) h = held_is_not_admitted e cause Late
past_shown (Some e) None true false true None h = shown_late (Some e) refl h.own
past_shown (Some e) None false false true late h = absurd (let bad : false ≡ true = h.late refl refl in let no : ⊥ = cc in no)
past_shown (Some e) None true false false (Some cause) h = held_is_not_admitted e cause Never
past_shown (Some e) None true false false None h =
    shown_never (Some e) (never_true (is_up_last (Some e)) (λ u. let bad : false ≡ true = h.up u in cc)) (never_true (is_gone_last (Some e)) (λ g. let bad : false ≡ true = h.gone g in cc))
past_shown (Some e) None false false false late h =
    shown_never (Some e) (never_true (is_up_last (Some e)) (λ u. let bad : false ≡ true = h.up u in cc)) (never_true (is_gone_last (Some e)) (λ g. let bad : false ≡ true = h.gone g in cc))

shown_is_early : (early : Option Cause) (verified came has : Bool) (late : Option Cause)
    → is_early_past (shown early verified came has late) ≡ (came && is_none early)
shown_is_early (Some cause) verified true has late = refl
shown_is_early (Some cause) verified false has late = refl
shown_is_early None verified true has late = refl
shown_is_early None verified false true (Some cause) = refl
shown_is_early None verified false true None = refl
shown_is_early None verified false false late = refl

shown_is_admitted : (early : Option Cause) (verified came has : Bool) (late : Option Cause)
    → is_admitted_past (shown early verified came has late) ≡ ((came && is_none early) || (has && not came && is_none early && is_none late))
shown_is_admitted (Some cause) verified true true late = refl
shown_is_admitted (Some cause) verified true false late = refl
shown_is_admitted (Some cause) verified false true late = refl
shown_is_admitted (Some cause) verified false false late = refl
shown_is_admitted None verified true has late = refl
shown_is_admitted None verified false true (Some cause) = refl
shown_is_admitted None verified false true None = refl
shown_is_admitted None verified false false late = refl

shown_is_late : (early : Option Cause) (verified came has : Bool) (late : Option Cause)
    → is_late_past (shown early verified came has late) ≡ (has && not came && is_none early && is_none late)
shown_is_late (Some cause) verified true true late = refl
shown_is_late (Some cause) verified true false late = refl
shown_is_late (Some cause) verified false true late = refl
shown_is_late (Some cause) verified false false late = refl
shown_is_late None verified true true late = refl
shown_is_late None verified true false late = refl
shown_is_late None verified false true (Some cause) = refl
shown_is_late None verified false true None = refl
shown_is_late None verified false false late = refl

-- the state of a core that is not the boot core
pub state_of-other : (board : Board) (p : List Event) (k : ℕ) → (k == board.boot) ≡ false
    → state_of board p k ≡ state_from (last_step k p) (held_back board p k) (past_from k p)
unfolding state_of
state_of-other board p k other = rw other refl

pub state_of-boot : (board : Board) (p : List Event) (k : ℕ) → (k == board.boot) ≡ true → state_of board p k ≡ Admitted false
unfolding state_of
state_of-boot board p k here = rw here refl

past_of_state : (board : Board) (p : List Event) (k : ℕ) → in_order board p ≡ true → (k == board.boot) ≡ false
    → past_of (state_of board p k) ≡ shown (cause_at_check board k) (was_verified k p) (came_early k p) (has_come k p) (cause_at_verification board (early_cores_after board p) k)
past_of_state board p k order other =
    ap past_of (state_of-other board p k other ∙ ap (λ (o : Option Cause). state_from (last_step k p) o (past_from k p)) (held_is board p k))
    ∙ past_shown (last_step k p) (cause_at_check board k) (was_verified k p) (came_early k p) (has_come k p) (cause_at_verification board (early_cores_after board p) k)
    (case_of board p order k)

-- what a test of a core's state says, by what it says of the boot core and of what the steps say of another
by_state : (board : Board) (p : List Event) (k : ℕ) (test : Past → Bool) (among : Bool → Bool) → in_order board p ≡ true → test Early ≡ among true
    → test (shown (cause_at_check board k) (was_verified k p) (came_early k p) (has_come k p) (cause_at_verification board (early_cores_after board p) k)) ≡ among false
    → test (past_of (state_of board p k)) ≡ among (k == board.boot)
by_state board p k test among order here other = by (k == board.boot) refl where
  by : (b : Bool) → (k == board.boot) ≡ b → test (past_of (state_of board p k)) ≡ among b
  by true is = ap (λ (s : CoreState). test (past_of s)) (state_of-boot board p k is) ∙ here
  by false is = ap test (past_of_state board p k order is) ∙ other

-- the early cores, the late ones and those that were ever admitted are those whose states say so
pub early_by_state : (board : Board) (p : List Event) (k : ℕ) → in_order board p ≡ true → is_early (state_of board p k) ≡ is_among_early board p k
early_by_state board p k order =
    by_state board p k is_early_past (λ b. b || (came_early k p && is_none (cause_at_check board k))) order refl
    (shown_is_early (cause_at_check board k) (was_verified k p) (came_early k p) (has_come k p) (cause_at_verification board (early_cores_after board p) k))

pub admitted_by_state : (board : Board) (p : List Event) (k : ℕ) → in_order board p ≡ true → is_admitted (state_of board p k) ≡ is_among_admitted board p k
admitted_by_state board p k order =
    by_state board p k is_admitted_past
    (λ b. (b || (came_early k p && is_none (cause_at_check board k)))
    || (not b && has_come k p && not (came_early k p) && is_none (cause_at_check board k) && is_none (cause_at_verification board (early_cores_after board p) k)))
    order refl
    (shown_is_admitted (cause_at_check board k) (was_verified k p) (came_early k p) (has_come k p) (cause_at_verification board (early_cores_after board p) k))

pub late_by_state : (board : Board) (p : List Event) (k : ℕ) → in_order board p ≡ true → is_late (state_of board p k) ≡ is_among_late board p k
late_by_state board p k order =
    by_state board p k is_late_past
    (λ b. not b && has_come k p && not (came_early k p) && is_none (cause_at_check board k) && is_none (cause_at_verification board (early_cores_after board p) k))
    order refl
    (shown_is_late (cause_at_check board k) (was_verified k p) (came_early k p) (has_come k p) (cause_at_verification board (early_cores_after board p) k))
