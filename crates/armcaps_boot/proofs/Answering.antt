-- What is known at a step of a core in its order, and what of it is the same whatever the step.
use Rattle.std.proofs.Common.{◌≡◌, ◌<◌, ◌≤◌, ◌+◌, ◌⊎◌, inl, inr, ℕ, zero, suc, Bool, true, false, ◌||◌, List, ◌∷◌, length, map, set, Option, Some, None, Ok, refl, sym, ◌∙◌, ap, subst, arith}
use Rattle.std.specs.Prelude.{◌==◌, nat_lt, is_some}
use Rattle.std.specs.List.{range_with_len}
use Rattle.std.specs.Option.{option_or}
use Rattle.std.proofs.lemmas.List.FromFn.{length-map-range_with_len}
use Rattle.std.proofs.lemmas.Bool.{cases_eq, lt-ltb}
use Rattle.armcaps_tables.specs.Core.{Core}
use Rattle.armcaps_boot.specs.declared.cause.Cause.{Cause}
use Rattle.armcaps_boot.specs.declared.core_state.CoreState.{CoreState}
use Rattle.armcaps_boot.specs.declared.core_state.CoreState.TheVariants.{Parked as IsParked, Panicked as HasPanicked}
use Rattle.armcaps_board.specs.declared.event.Event.{Event}
use Rattle.armcaps_board.specs.declared.event.Event.TheVariants.{Finalise}
use Rattle.armcaps_boot.specs.declared.park_or_panic.Halt.{Halt}
use Rattle.armcaps_boot.specs.declared.past.Past.{Past}
use Rattle.armcaps_boot.specs.declared.reply.Reply.{Reply}
use Rattle.armcaps_board.specs.Board.{Board}
use Rattle.armcaps_board.specs.Order.{in_order}
use Rattle.armcaps_board.specs.Steps.{is_final, is_finalise, is_step_of, last_step}
use Rattle.armcaps_boot.specs.Admission.{came_early, early_cores_after, has_come, was_verified}
use Rattle.armcaps_boot.specs.ParkOrPanic.{halt_at, halt_of, held_back, stops_machine}
use Rattle.armcaps_boot.specs.After.{IsAfter, past_from, reply_from, reply_of, state_from, state_of, states_after}
use Rattle.armcaps_boot.specs.Answers.{Answer, judged, live_answer, numbered}
use Rattle.armcaps_boot.specs.Causes.{cause_at_check, cause_at_verification}
use Rattle.armcaps_boot.specs.Changes.{world_after}
use Rattle.armcaps_boot.specs.Facts.{Facts}
use Rattle.armcaps_boot.specs.States.{past_of}
use Rattle.armcaps_boot.specs.World.{World, early_cores, state_at}
use Rattle.armcaps_board.proofs.Turns.{last-other}
use Rattle.armcaps_boot.proofs.Histories.{early-same, come-same, no_step}
use Rattle.armcaps_boot.proofs.HeldBack.{IsCase, case_of, held_from, held_is, held-other, other_number, past_by, shown_early, shown_late, shown_never, never_true, state_of-boot, state_of-other}
use Rattle.armcaps_boot.proofs.Moves.{moved}
use Rattle.armcaps_boot.proofs.ShorterHistories.{early_listed, state_at-after}

-- what is known at a step of a core
pub record IsTurnIn (board : Board) (p : List Event) (w : World) (k : ℕ) : Type 0 where
  pub facts : Facts w
  pub after : IsAfter board p w
  pub order : in_order board p ≡ true
  pub running : halt_of board p ≡ None
  pub within : k < length board.cores
  pub not_boot : k ≡ board.boot → ⊥

-- a step is answered as the steps say, and then the machine is that of all the steps
pub record IsAnswered (board : Board) (p : List Event) (e : Event) (w : World) : Type 0 where
  pub reply : Reply
  pub is : reply_of board p e ≡ reply
  pub answer : live_answer w e ≡ Ok reply
  pub after : IsAfter board (e ∷ p) (world_after w e (Ok reply))

-- the step is of this core and of no other
pub record IsOwn (e : Event) (k : ℕ) : Type 0 where
  pub own : is_step_of k e ≡ true
  pub alone : (j : ℕ) → (j ≡ k → ⊥) → is_step_of j e ≡ false
  pub not_finalise : is_finalise e ≡ false

pub numbered_is : (w : World) (k : ℕ) (answer : Answer) → k < length w.board.cores → (k ≡ w.board.boot → ⊥) → numbered w k answer ≡ answer
numbered_is w k answer within other =
    let small : nat_lt k (length w.board.cores) ≡ true = lt-ltb k (length w.board.cores) within in
    let secondary : (k == w.board.boot) ≡ false = other_number k w.board.boot other in
    rw (small, secondary)

pub numbered_in : (board : Board) (p : List Event) (w : World) (k : ℕ) (answer : Answer) → IsTurnIn board p w k → numbered w k answer ≡ answer
numbered_in board p w k answer r =
    numbered_is w k answer (subst (λ (l : List Core). k < length l) (sym (ap (λ (b : Board). b.cores) r.after.of_board)) r.within) (λ e. r.not_boot (e ∙ ap (λ (b : Board). b.boot) r.after.of_board))

pub running_in : (board : Board) (p : List Event) (w : World) (k : ℕ) → IsTurnIn board p w k → w.halted ≡ None
running_in board p w k r = r.after.halted ∙ r.running

pub shows : (board : Board) (p : List Event) (w : World) (k : ℕ) → IsTurnIn board p w k
    → state_at w.states k ≡ state_from (last_step k p) (held_back board p k) (past_from k p)
shows board p w k r =
    ap (λ (l : List CoreState). state_at l k) r.after.states ∙ state_at-after board p k r.within
    ∙ state_of-other board p k (other_number k board.boot r.not_boot)

pub check_is : (board : Board) (p : List Event) (w : World) (k : ℕ) → IsAfter board p w → cause_at_check w.board k ≡ cause_at_check board k
check_is board p w k after = ap (λ (b : Board). cause_at_check b k) after.of_board

pub early_cores_are : (board : Board) (p : List Event) (w : World) → IsAfter board p w → in_order board p ≡ true
    → early_cores w.board w.states ≡ early_cores_after board p
early_cores_are board p w after order =
    ap (λ (s : List CoreState). early_cores w.board s) after.states
    ∙ ap (λ (b : Board). early_cores b (states_after board p)) after.of_board
    ∙ early_listed board p order

pub verification_is : (board : Board) (p : List Event) (w : World) (k : ℕ) → IsAfter board p w → in_order board p ≡ true
    → cause_at_verification w.board (early_cores w.board w.states) k ≡ cause_at_verification board (early_cores_after board p) k
verification_is board p w k after order =
    ap (λ (l : List Core). cause_at_verification w.board l k) (early_cores_are board p w after order)
    ∙ ap (λ (b : Board). cause_at_verification b (early_cores_after board p) k) after.of_board

pub parked_state : (e : Event) (cause : Cause) (was : Past) → stops_machine cause ≡ false → state_from (Some e) (Some cause) was ≡ IsParked cause
parked_state e cause was goes = rw goes

pub panicked_state : (e : Event) (cause : Cause) (was : Past) → stops_machine cause ≡ true → state_from (Some e) (Some cause) was ≡ HasPanicked cause
panicked_state e cause was stops = rw stops

-- a core without a step is not held back
pub not_held : (board : Board) (p : List Event) (k : ℕ) → last_step k p ≡ None → held_back board p k ≡ None
not_held board p k none =
    held_is board p k
    ∙ ap (λ (o : Option Event). held_from (is_some o) (cause_at_check board k) (was_verified k p) (came_early k p) (cause_at_verification board (early_cores_after board p) k)) none

pub stepped_if_held : (board : Board) (p : List Event) (k : ℕ) (cause : Cause) → held_back board p k ≡ Some cause → is_some (last_step k p) ≡ true
stepped_if_held board p k cause held = by (last_step k p) refl where
  by : (o : Option Event) → last_step k p ≡ o → is_some (last_step k p) ≡ true
  by None none = absurd (let bad : Some cause ≡ None = sym held ∙ not_held board p k none in let no : ⊥ = cc in no)
  by (Some e) some = ap (λ (o : Option Event). is_some o) some

-- a core that is held back is parked, since the machine runs
pub record IsHeldIn (w : World) (k : ℕ) (cause : Cause) : Type 0 where
  pub goes : stops_machine cause ≡ false
  pub parked : state_at w.states k ≡ IsParked cause

pub held_in : (board : Board) (p : List Event) (w : World) (k : ℕ) → IsTurnIn board p w k → (cause : Cause) → held_back board p k ≡ Some cause
    → IsHeldIn w k cause
held_in board p w k r cause held = by (last_step k p) refl where
  by : (o : Option Event) → last_step k p ≡ o → IsHeldIn w k cause
  by None none = absurd (let bad : Some cause ≡ None = sym held ∙ not_held board p k none in let no : ⊥ = cc in no)
  by (Some e) some = on (stops_machine cause) refl where
    is : state_at w.states k ≡ state_from (Some e) (Some cause) (past_from k p)
    is = shows board p w k r ∙ ap (λ (o : Option Event). state_from o (held_back board p k) (past_from k p)) some
        ∙ ap (λ (o : Option Cause). state_from (Some e) o (past_from k p)) held

    on : (b : Bool) → stops_machine cause ≡ b → IsHeldIn w k cause
    on true stops = absurd (r.facts.halted.only (running_in board p w k r) k cause (is ∙ panicked_state e cause (past_from k p) stops))
    on false goes = record { goes = goes; parked = is ∙ parked_state e cause (past_from k p) goes }

-- as what a core was admitted that is not held back
unheld_past : (last : Option Event) (verified came has : Bool) → IsCase last verified came has
    → past_of (state_from last None (past_by came has)) ≡ past_by came has
unheld_past None verified true has h = absurd (let bad : true ≡ false = sym (h.early refl) ∙ h.fresh refl in let no : ⊥ = cc in no)
unheld_past None verified false true h = absurd (let bad : true ≡ false = h.fresh refl in let no : ⊥ = cc in no)
unheld_past None verified false false h = refl
unheld_past (Some e) verified true has h = shown_early (Some e) refl h.own
unheld_past (Some e) verified false true h = shown_late (Some e) refl h.own
unheld_past (Some e) verified false false h =
    shown_never (Some e) (never_true _ (λ u. let bad : false ≡ true = h.up u in cc)) (never_true _ (λ g. let bad : false ≡ true = h.gone g in cc))

pub past_in : (board : Board) (p : List Event) (w : World) (k : ℕ) → IsTurnIn board p w k → held_back board p k ≡ None
    → past_of (state_at w.states k) ≡ past_from k p
past_in board p w k r free =
    ap past_of (shows board p w k r ∙ ap (λ (o : Option Cause). state_from (last_step k p) o (past_from k p)) free)
    ∙ unheld_past (last_step k p) (was_verified k p) (came_early k p) (has_come k p) (case_of board p r.order k)

pub judged_reply : (cause : Option Cause) → judged cause ≡ Ok (reply_from None cause)
judged_reply None = refl
judged_reply (Some cause) = by (stops_machine cause) refl where
  by : (b : Bool) → stops_machine cause ≡ b → judged (Some cause) ≡ Ok (reply_from None (Some cause))
  by true stops = rw stops
  by false goes = rw goes

pub halt_next : (board : Board) (e : Event) (p : List Event) → halt_of board p ≡ None → halt_of board (e ∷ p) ≡ halt_at board e
unfolding halt_of
halt_next board e p running = ap (λ (o : Option Halt). option_or o (halt_at board e)) running

-- the state of a core of which the step is none stays
pub past-same : (e : Event) (p : List Event) (k : ℕ) → came_early k (e ∷ p) ≡ came_early k p → has_come k (e ∷ p) ≡ has_come k p
    → past_from k (e ∷ p) ≡ past_from k p
past-same e p k early come = ap (λ (b : Bool). past_by b (has_come k (e ∷ p))) early ∙ ap (λ (b : Bool). past_by (came_early k p) b) come

pub state_stays : (board : Board) (e : Event) (p : List Event) (j : ℕ) → is_step_of j e ≡ false → state_of board p j ≡ state_of board (e ∷ p) j
state_stays board e p j other = by (j == board.boot) refl where
  by : (b : Bool) → (j == board.boot) ≡ b → state_of board p j ≡ state_of board (e ∷ p) j
  by true here = state_of-boot board p j here ∙ sym (state_of-boot board (e ∷ p) j here)
  by false secondary =
      state_of-other board p j secondary
      ∙ ap (λ (o : Option Event). state_from o (held_back board p j) (past_from j p)) (sym (last-other j e p other))
      ∙ ap (λ (o : Option Cause). state_from (last_step j (e ∷ p)) o (past_from j p)) (sym (held-other board e p j other))
      ∙ ap (λ (was : Past). state_from (last_step j (e ∷ p)) (held_back board (e ∷ p) j) was)
      (sym (past-same e p j (early-same j e p (no_step j e other).0) (come-same j e p (no_step j e other).0)))
      ∙ sym (state_of-other board (e ∷ p) j secondary)

states_agree : (f g : ℕ → CoreState) (from count : ℕ) → ((j : ℕ) → from ≤ j → f j ≡ g j)
    → map f (range_with_len from count) ≡ map g (range_with_len from count)
states_agree f g from zero same = refl
states_agree f g from (suc count) same =
    let here = same from (omega arith) in
    let more = states_agree f g (from + 1) count (λ j low. same j (omega arith)) in
    rw (here, more)

pub states_set : (f g : ℕ → CoreState) (s : CoreState) (from count k at : ℕ) → k < count → from + k ≡ at → g at ≡ s
    → ((j : ℕ) → (j ≡ at → ⊥) → f j ≡ g j) → set (map f (range_with_len from count)) k s ≡ map g (range_with_len from count)
states_set f g s from zero k at within place is same = absurd (omega arith)
states_set f g s from (suc count) zero at within place is same =
    let here : g from ≡ s = ap g (let e : from ≡ at = omega arith in e) ∙ is in
    let more = states_agree f g (from + 1) count (λ j low. same j (λ e. absurd (omega arith))) in
    rw (here, more)
states_set f g s from (suc count) (suc k) at within place is same =
    let here : f from ≡ g from = same from (λ e. absurd (omega arith)) in
    let more = states_set f g s (from + 1) count k at (omega arith) (omega arith) is same in
    rw (here, more)

final_same : (e : Event) (p : List Event) → is_finalise e ≡ false → is_final (e ∷ p) ≡ is_final p
final_same e p not_finalise = ap (λ (b : Bool). b || is_final p) not_finalise

-- the machine after a step that gave the core this state
pub after_moved : (board : Board) (p : List Event) (e : Event) (w : World) (k : ℕ) (state : CoreState) (halted : Option Halt) (system : List ℕ) (noted : List Bool) (kept : ℕ)
    → IsTurnIn board p w k → IsOwn e k → state_of board (e ∷ p) k ≡ state → halted ≡ halt_at board e
    → IsAfter board (e ∷ p) (moved w k state halted system noted kept)
unfolding states_after
after_moved board p e w k state halted system noted kept r o is halts = record {
  of_board = r.after.of_board;
  states = ap (λ (l : List CoreState). set l k state) r.after.states
      ∙ states_set (state_of board p) (state_of board (e ∷ p)) state 0 (length board.cores) k k r.within (omega arith) is (λ j other. state_stays board e p j (o.alone j other));
  final = r.after.final ∙ sym (final_same e p o.not_finalise);
  halted = halts ∙ sym (halt_next board e p r.running);
}

-- the machine after a step that was skipped
pub after_skipped : (board : Board) (p : List Event) (e : Event) (w : World) (k : ℕ) → IsTurnIn board p w k → IsOwn e k
    → state_of board (e ∷ p) k ≡ state_of board p k → halt_at board e ≡ None → IsAfter board (e ∷ p) w
unfolding states_after
after_skipped board p e w k r o is goes = record {
  of_board = r.after.of_board;
  states = r.after.states ∙ states_agree (state_of board p) (state_of board (e ∷ p)) 0 (length board.cores) (λ j low. by j (cases_eq j k));
  final = r.after.final ∙ sym (final_same e p o.not_finalise);
  halted = r.after.halted ∙ r.running ∙ sym (halt_next board e p r.running ∙ goes);
} where
  by : (j : ℕ) → (j ≡ k) ⊎ (j ≡ k → ⊥) → state_of board p j ≡ state_of board (e ∷ p) j
  by j (inl here) = ap (state_of board p) here ∙ sym is ∙ sym (ap (state_of board (e ∷ p)) here)
  by j (inr other) = state_stays board e p j (o.alone j other)

-- finalisation leaves each core's state
pub states_stay : (board : Board) (p : List Event) → states_after board p ≡ states_after board (Finalise ∷ p)
unfolding states_after
states_stay board p = states_agree (state_of board p) (state_of board (Finalise ∷ p)) 0 (length board.cores) (λ j low. state_stays board Finalise p j refl)

pub length_after : (board : Board) (p : List Event) → length (states_after board p) ≡ length board.cores
unfolding states_after
length_after board p = length-map-range_with_len (state_of board p) 0 (length board.cores)
