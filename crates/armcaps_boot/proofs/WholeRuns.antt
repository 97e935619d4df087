-- What the machine before its first step is, and what can be relied on once all steps are made.
use Rattle.std.proofs.Common.{◌≡◌, ◌<◌, ◌⊎◌, inl, inr, ℕ, zero, suc, ◌+◌, Bool, true, false, not, ◌&&◌, ◌||◌, List, [], ◌∷◌, length, map, set, replicate, Option, Some, None, Ok, refl, sym, ◌∙◌, ap, subst, arith}
use Rattle.std.specs.Prelude.{◌==◌, is_none, is_some}
use Rattle.std.specs.List.{range_with_len}
use Rattle.std.proofs.lemmas.Bool.Decides.{Decides-eqb}
use Rattle.armcaps_tables.specs.Core.{Core}
use Rattle.armcaps_boot.specs.declared.cause.Cause.{Cause}
use Rattle.armcaps_boot.specs.declared.core_state.CoreState.{CoreState}
use Rattle.armcaps_boot.specs.declared.core_state.CoreState.TheVariants.{Absent, Admitted, Parked}
use Rattle.armcaps_board.specs.declared.event.Event.{Event}
use Rattle.armcaps_board.specs.declared.event.Event.TheVariants.{Check, Local, Store, Offline, Finalise}
use Rattle.armcaps_boot.specs.declared.past.Past.{Past}
use Rattle.armcaps_board.specs.Board.{Board, IsBoard, core_at}
use Rattle.armcaps_board.specs.Order.{in_order, is_begun_last, is_complete, is_next, is_some_in_flight, is_up_last}
use Rattle.armcaps_board.specs.Steps.{is_final, last_step}
use Rattle.armcaps_boot.specs.Admission.{came_early, early_cores_after, has_come, is_among_admitted, is_among_early, is_among_late, was_verified}
use Rattle.armcaps_boot.specs.ParkOrPanic.{halt_at, halt_of, held_back}
use Rattle.armcaps_boot.specs.After.{IsAfter, past_from, reply_of, state_from, state_of, states_after}
use Rattle.armcaps_boot.specs.Answers.{Answer}
use Rattle.armcaps_boot.specs.Causes.{capability_enabled, cause_at_check, cause_at_verification, has_capability}
use Rattle.armcaps_boot.specs.Changes.{world_after}
use Rattle.armcaps_boot.specs.Facts.{Facts}
use Rattle.armcaps_boot.specs.First.{first_states, first_world}
use Rattle.armcaps_boot.specs.Outcome.{IsAdmittedOrParked, IsFirstCause, IsSafe, is_enabled_after}
use Rattle.armcaps_boot.specs.Safety.{WasAdmitted, core_has, is_enabled}
use Rattle.armcaps_boot.specs.States.{is_admitted, is_admitted_past}
use Rattle.armcaps_boot.specs.World.{World, state_at}
use Rattle.armcaps_boot.proofs.Answering.{IsHeldIn, IsTurnIn, early_cores_are, held_in, past_in, states_set}
use Rattle.armcaps_boot.proofs.Beginning.{first_facts}
use Rattle.armcaps_boot.proofs.AnySteps.{step_after, step_answered}
use Rattle.std.proofs.lemmas.Bool.{and_parts, not-true, false≢true}
use Rattle.armcaps_logic.proofs.Options.{option_or_first}
use Rattle.armcaps_board.proofs.Turns.{none_in_flight, turn_of}
use Rattle.armcaps_boot.proofs.Histories.{course, early_came, is_gone_last, on_either}
use Rattle.armcaps_boot.proofs.HeldBack.{admitted_by_state, held_from, held_is, not_finalise, other_number, past_by, state_of-boot, state_of-other}
use Rattle.armcaps_boot.proofs.SafeSystem.{enabled_is_supported, needed_is_enabled}
use Rattle.armcaps_boot.proofs.ShorterHistories.{state_at-after}
use Rattle.armcaps_boot.proofs.StepLaw.{step_keeps_facts}

all_absent : (from count : ℕ) → replicate count Absent ≡ map (λ (n : ℕ). Absent) (range_with_len from count)
all_absent from zero = refl
all_absent from (suc count) = ap (λ (l : List CoreState). Absent ∷ l) (all_absent (from + 1) count)

first_states_are : (board : Board) → board.boot < length board.cores → first_states (length board.cores) board.boot ≡ states_after board []
unfolding states_after
first_states_are board within =
    ap (λ (l : List CoreState). set l board.boot (Admitted false)) (all_absent 0 (length board.cores))
    ∙ states_set (λ n. Absent) (state_of board []) (Admitted false) 0 (length board.cores) board.boot board.boot within (omega arith)
    (state_of-boot board [] board.boot ((Decides-eqb board.boot board.boot).1 refl))
    (λ j other. sym (state_of-other board [] j (other_number j board.boot other)))

-- a machine before its first step
pub begins : (board : Board) → board.boot < length board.cores → IsAfter board [] (first_world board)
unfolding halt_of
begins board within = record {
  of_board = refl;
  states = first_states_are board within;
  final = refl;
  halted = refl;
}

-- a machine that the steps lead to
pub record IsReached (board : Board) (p : List Event) : Type 0 where
  pub world : World
  pub facts : Facts world
  pub after : IsAfter board p world

pub reached : (board : Board) (p : List Event) → IsBoard board → in_order board p ≡ true → halt_of board p ≡ None → IsReached board p
unfolding in_order halt_of
reached board [] b order running = record {
  world = first_world board;
  facts = first_facts board b;
  after = begins board b.within;
}
reached board (e ∷ p) b order running =
    let next = (and_parts (is_next board p e) (in_order board p) order).0 in
    let before_order = (and_parts (is_next board p e) (in_order board p) order).1 in
    let still = option_or_first (halt_of board p) (halt_at board e) running in
    let r = reached board p b before_order still in
    let w = r.world in
    let answer = step_answered board p e w r.facts r.after before_order next still in record {
      world = world_after w e (Ok (reply_of board p e));
      facts = subst (λ (a : Answer). Facts (world_after w e a)) answer (step_keeps_facts w e r.facts);
      after = step_after board p e w r.facts r.after before_order next still;
    }

-- a core that has come is one of the board
come_within : (board : Board) (p : List Event) (k : ℕ) → in_order board p ≡ true → has_come k p ≡ true → k < length board.cores
unfolding in_order
come_within board [] k order come = absurd (let no : ⊥ = cc in no)
come_within board (Store c ∷ p) k order come =
    let t = turn_of board p (Store c) c refl ((and_parts (is_next board p (Store c)) (in_order board p) order).0) in
    on_either (c == k) (has_come k p) come (k < length board.cores) (λ own. subst (λ (j : ℕ). j < length board.cores) ((Decides-eqb c k).0 own) t.within)
    (λ before. come_within board p k ((and_parts (is_next board p (Store c)) (in_order board p) order).1) before)
come_within board (Check c ∷ p) k order come = come_within board p k ((and_parts (is_next board p (Check c)) (in_order board p) order).1) come
come_within board (Local c ∷ p) k order come = come_within board p k ((and_parts (is_next board p (Local c)) (in_order board p) order).1) come
come_within board (Offline c ∷ p) k order come = come_within board p k ((and_parts (is_next board p (Offline c)) (in_order board p) order).1) come
come_within board (Finalise ∷ p) k order come = come_within board p k ((and_parts (is_next board p Finalise) (in_order board p) order).1) come

late_came : (boot come early at_check late : Bool) → (not boot && come && not early && at_check && late) ≡ true → come ≡ true
late_came boot true early at_check late h = refl
late_came true false early at_check late h = absurd (false≢true h)
late_came false false early at_check late h = absurd (false≢true h)

-- an admitted core is one of the board
among_within : (board : Board) (p : List Event) (k : ℕ) → IsBoard board → in_order board p ≡ true → is_among_admitted board p k ≡ true → k < length board.cores
among_within board p k b order among =
    on_either (is_among_early board p k) (is_among_late board p k) among (k < length board.cores)
    (λ early. on_either (k == board.boot) (came_early k p && is_none (cause_at_check board k)) early (k < length board.cores)
    (λ here. subst (λ (j : ℕ). j < length board.cores) (sym ((Decides-eqb k board.boot).0 here)) b.within)
    (λ came. come_within board p k order (early_came k p (and_parts (came_early k p) (is_none (cause_at_check board k)) came).0)))
    (λ late. come_within board p k order (late_came (k == board.boot) (has_come k p) (came_early k p) (is_none (cause_at_check board k))
    (is_none (cause_at_verification board (early_cores_after board p) k)) late))

enabled_is : (board : Board) (p : List Event) (w : World) (n : ℕ) → IsAfter board p w → in_order board p ≡ true
    → is_enabled w n ≡ is_enabled_after board p n
enabled_is board p w n after order =
    ap (λ (l : List Core). capability_enabled w.board l n) (early_cores_are board p w after order)
    ∙ ap (λ (b : Board). capability_enabled b (early_cores_after board p) n) after.of_board

has_is : (board : Board) (p : List Event) (w : World) (core n : ℕ) → IsAfter board p w → core_has w core n ≡ has_capability board (core_at board.cores core) n
has_is board p w core n after = ap (λ (b : Board). has_capability b (core_at b.cores core) n) after.of_board

was_admitted : (board : Board) (p : List Event) (w : World) (core : ℕ) → IsBoard board → IsAfter board p w → in_order board p ≡ true
    → is_among_admitted board p core ≡ true → WasAdmitted w core
was_admitted board p w core b after order among =
    let within = among_within board p core b order among in
    ap (λ (l : List CoreState). is_admitted (state_at l core)) after.states ∙ ap is_admitted (state_at-after board p core within)
    ∙ admitted_by_state board p core order ∙ among

-- what held a core back
held_cases : (early : Option Cause) (verified came : Bool) (late : Option Cause) (cause : Cause) → held_from true early verified came late ≡ Some cause
    → (early ≡ Some cause) ⊎ ((early ≡ None) × (came ≡ false) × (late ≡ Some cause))
held_cases (Some x) verified came late cause h = inl h
held_cases None true true late cause h = absurd (let no : ⊥ = cc in no)
held_cases None true false late cause h = inr (refl, refl, h)
held_cases None false came late cause h = absurd (let no : ⊥ = cc in no)

-- a core that has made a step and is not on its way up has come
settled_come : (last : Option Event) (has : Bool) → is_some last ≡ true → is_begun_last last ≡ false → (last ≡ Some Finalise → ⊥)
    → (is_up_last last ≡ true → has ≡ true) → (is_gone_last last ≡ true → has ≡ true) → has ≡ true
settled_come None has some begun own up gone = absurd (let no : ⊥ = cc in no)
settled_come (Some (Check c)) has some begun own up gone = absurd (let no : ⊥ = cc in no)
settled_come (Some (Local c)) has some begun own up gone = absurd (let no : ⊥ = cc in no)
settled_come (Some (Store c)) has some begun own up gone = up refl
settled_come (Some (Offline c)) has some begun own up gone = gone refl
settled_come (Some Finalise) has some begun own up gone = absurd (own refl)

came_admitted : (came has : Bool) → has ≡ true → is_admitted_past (past_by came has) ≡ true
came_admitted true has h = refl
came_admitted false true h = refl
came_admitted false false h = h

-- the state of a core of the machine, and of the steps
state_is : (board : Board) (p : List Event) (w : World) (k : ℕ) → IsTurnIn board p w k → state_at w.states k ≡ state_of board p k
state_is board p w k r = ap (λ (l : List CoreState). state_at l k) r.after.states ∙ state_at-after board p k r.within

held_rightly : (board : Board) (p : List Event) (w : World) (k : ℕ) → IsTurnIn board p w k → is_some (last_step k p) ≡ true → is_begun_last (last_step k p) ≡ false
    → IsAdmittedOrParked board p k
held_rightly board p w k r stepped begun = by (held_back board p k) refl where
  come : has_come k p ≡ true
  come = let c = course board p r.order k in
      settled_come (last_step k p) (has_come k p) stepped begun (not_finalise k p) c.up c.gone

  by : (held : Option Cause) → held_back board p k ≡ held → IsAdmittedOrParked board p k
  by None free =
      inl (sym (admitted_by_state board p k r.order) ∙ ap is_admitted (sym (state_is board p w k r)) ∙ ap is_admitted_past (past_in board p w k r free)
      ∙ came_admitted (came_early k p) (has_come k p) come)
  by (Some cause) held = inr (cause, record { parked = sym (state_is board p w k r) ∙ h.parked; first = on (held_cases (cause_at_check board k) (was_verified k p) (came_early k p) (cause_at_verification board (early_cores_after board p) k) cause from) }) where
    from : held_from true (cause_at_check board k) (was_verified k p) (came_early k p) (cause_at_verification board (early_cores_after board p) k) ≡ Some cause
    from = sym (ap (λ (b : Bool). held_from b (cause_at_check board k) (was_verified k p) (came_early k p) (cause_at_verification board (early_cores_after board p) k)) stepped)
        ∙ sym (held_is board p k) ∙ held

    h : IsHeldIn w k cause
    h = held_in board p w k r cause held

    on : (cause_at_check board k ≡ Some cause) ⊎ ((cause_at_check board k ≡ None) × (came_early k p ≡ false) × (cause_at_verification board (early_cores_after board p) k ≡ Some cause))
        → IsFirstCause board p k cause
    on (inl at_check) = inl at_check
    on (inr late) = inr (record { came = come; late = late.1; none_at_check = late.0; at_verification = late.2 })

-- a parked core has made a step and is not the boot core
parked_stepped : (last : Option Event) (held : Option Cause) (was : Past) (cause : Cause) → state_from last held was ≡ Parked cause → is_some last ≡ true
parked_stepped None held was cause e = absurd (let no : ⊥ = cc in no)
parked_stepped (Some event) held was cause e = refl

same_cause : (state : CoreState) (one other : Cause) → state ≡ Parked one → state ≡ Parked other → one ≡ other
same_cause state one other e f = let bad : Parked one ≡ Parked other = sym e ∙ f in cc

pub safe : (board : Board) (p : List Event) → IsBoard board → in_order board p ≡ true → is_complete p ≡ true → halt_of board p ≡ None → IsSafe board p
safe board p b order complete running = record {
  supported = λ n core scope on among.
      sym (has_is board p w core n r.after)
      ∙ enabled_is_supported w r.facts final n scope (enabled_is board p w n r.after order ∙ on) core (was_admitted board p w core b r.after order among);
  needed = λ n core erratum among has.
      sym (enabled_is board p w n r.after order)
      ∙ needed_is_enabled w r.facts final n erratum core (was_admitted board p w core b r.after order among) (has_is board p w core n r.after ∙ has);
  held = λ core within stepped. by core within stepped (core == board.boot) refl;
  parked = λ core cause within is. parked core cause within is (core == board.boot) refl;
} where
  r : IsReached board p
  r = reached board p b order running

  w : World
  w = r.world

  final : w.final ≡ true
  final = r.after.final ∙ (and_parts (is_final p) (not (is_some_in_flight p)) complete).0

  turn : (core : ℕ) → core < length board.cores → (core == board.boot) ≡ false → IsTurnIn board p w core
  turn core within other = record {
    facts = r.facts;
    after = r.after;
    order = order;
    running = running;
    within = within;
    not_boot = λ e. let bad : false ≡ true = sym other ∙ (Decides-eqb core board.boot).1 e in cc;
  }

  settles : (core : ℕ) → is_begun_last (last_step core p) ≡ false
  settles core = none_in_flight p (not-true _ ((and_parts (is_final p) (not (is_some_in_flight p)) complete).1)) core

  by : (core : ℕ) → core < length board.cores → is_some (last_step core p) ≡ true → (boot : Bool) → (core == board.boot) ≡ boot → IsAdmittedOrParked board p core
  by core within stepped true here =
      inl (ap (λ (b : Bool). (b || (came_early core p && is_none (cause_at_check board core))) || is_among_late board p core) here)
  by core within stepped false other = held_rightly board p w core (turn core within other) stepped (settles core)

  -- a parked core is not admitted, so it is held back, and for one cause alone
  judge : (core : ℕ) (cause : Cause) → core < length board.cores → state_of board p core ≡ Parked cause → IsAdmittedOrParked board p core → IsFirstCause board p core cause
  judge core cause within is (inl among) =
      absurd (let bad : false ≡ true = sym (ap is_admitted is) ∙ admitted_by_state board p core order ∙ among in let no : ⊥ = cc in no)
  judge core cause within is (inr held) = subst (λ (c : Cause). IsFirstCause board p core c) (same_cause (state_of board p core) held.0 cause held.1.parked is) held.1.first

  parked : (core : ℕ) (cause : Cause) → core < length board.cores → state_of board p core ≡ Parked cause → (boot : Bool) → (core == board.boot) ≡ boot → IsFirstCause board p core cause
  parked core cause within is true here = absurd (let bad : Admitted false ≡ Parked cause = sym (state_of-boot board p core here) ∙ is in let no : ⊥ = cc in no)
  parked core cause within is false other =
      let stepped = parked_stepped (last_step core p) (held_back board p core) (past_from core p) cause (sym (state_of-other board p core other) ∙ is) in
      judge core cause within is (by core within stepped false other)
