-- A core's local step in its order is answered as the steps say, and the machine after it is that of all the steps.
use Rattle.std.proofs.Common.{◌≡◌, ℕ, Bool, true, false, cond, not, ◌&&◌, ◌||◌, List, ◌∷◌, Option, Some, None, Ok, refl, sym, ◌∙◌, ap}
use Rattle.std.specs.Prelude.{◌==◌, is_some}
use Rattle.armcaps_boot.specs.declared.cause.Cause.{Cause}
use Rattle.armcaps_boot.specs.declared.core_state.CoreState.TheVariants.{Updated, Parked as IsParked}
use Rattle.armcaps_board.specs.declared.event.Event.{Event}
use Rattle.armcaps_board.specs.declared.event.Event.TheVariants.{Check, Local, Store, Offline, Finalise}
use Rattle.armcaps_boot.specs.declared.past.Past.{Past}
use Rattle.armcaps_boot.specs.declared.reply.Reply.TheVariants.{Done, Parked}
use Rattle.armcaps_board.specs.Board.{Board}
use Rattle.armcaps_board.specs.Order.{is_checked_last}
use Rattle.armcaps_board.specs.Steps.{is_final, last_step}
use Rattle.armcaps_boot.specs.Admission.{came_early, early_cores_after, has_come, was_verified}
use Rattle.armcaps_boot.specs.ParkOrPanic.{held_back, stops_machine}
use Rattle.armcaps_boot.specs.After.{past_from, reply_from, reply_of, state_from}
use Rattle.armcaps_boot.specs.Answers.{cause_at_local, judged, live_answer, local_answer}
use Rattle.armcaps_boot.specs.Causes.{cause_at_check, cause_at_verification}
use Rattle.armcaps_boot.specs.Changes.{noted_with}
use Rattle.armcaps_boot.specs.States.{is_admitted, is_admitted_past, past_of}
use Rattle.armcaps_boot.specs.World.{World, early_cores, state_at}
use Rattle.armcaps_boot.proofs.Answering.{IsTurnIn, IsAnswered, after_moved, judged_reply, verification_is, numbered_in, parked_state, past-same, past_in, running_in, shows, stepped_if_held}
use Rattle.std.proofs.lemmas.Bool.{or_left, or_right}
use Rattle.armcaps_board.proofs.Turns.{last-own}
use Rattle.armcaps_boot.proofs.Histories.{early-same, come-same, verified_final}
use Rattle.armcaps_boot.proofs.HeldBack.{held_from, held_is, late-final, past_by}
use Rattle.armcaps_boot.proofs.StepLaw.{misfit_does_not_stop}
use Rattle.armcaps_boot.proofs.OwnSteps.{own_number, local_own, skipped, state_next, stepped_by, no_early}
use Rattle.armcaps_boot.proofs.CheckParksOrPanics.{goes_reply}

checked_answer : (last : Option Event) (cause : Option Cause) (was : Past) → is_checked_last last ≡ true → local_answer cause (state_from last None was) ≡ judged cause
checked_answer (Some (Check c)) cause was h = refl
checked_answer None cause was h = absurd (let no : ⊥ = cc in no)
checked_answer (Some (Local c)) cause was h = absurd (let no : ⊥ = cc in no)
checked_answer (Some (Store c)) cause was h = absurd (let no : ⊥ = cc in no)
checked_answer (Some (Offline c)) cause was h = absurd (let no : ⊥ = cc in no)
checked_answer (Some Finalise) cause was h = absurd (let no : ⊥ = cc in no)

-- the late cause of an early core is none, so whether it came early makes no difference
if_not_early : (came : Bool) (late : Option Cause) → (came ≡ true → late ≡ None) → cond (true && not came) late None ≡ late
if_not_early true late none = sym (none refl)
if_not_early false late none = refl

-- a core that is free before its local step is held back after it by the cause that the machine finds
local_held : (board : Board) (p : List Event) (w : World) (k : ℕ) → IsTurnIn board p w k → is_some (last_step k p) ≡ true → held_back board p k ≡ None
    → held_back board (Local k ∷ p) k ≡ cause_at_local w k
unfolding was_verified
local_held board p w k r stepped free = by (is_final p) refl where
  late : Option Cause
  late = cause_at_verification w.board (early_cores w.board w.states) k

  from_is : (verified came : Bool) (late_after : Option Cause) → was_verified k (Local k ∷ p) ≡ verified → cause_at_verification board (early_cores_after board (Local k ∷ p)) k ≡ late_after
      → held_back board (Local k ∷ p) k ≡ held_from true None verified (came_early k p) late_after
  from_is verified came late_after v l =
      held_is board (Local k ∷ p) k
      ∙ ap (λ (b : Bool). held_from b (cause_at_check board k) (was_verified k (Local k ∷ p)) (came_early k (Local k ∷ p)) (cause_at_verification board (early_cores_after board (Local k ∷ p)) k))
      (ap (λ (o : Option Event). is_some o) (last-own k (Local k) p (own_number k)))
      ∙ ap (λ (o : Option Cause). held_from true o (was_verified k (Local k ∷ p)) (came_early k (Local k ∷ p)) (cause_at_verification board (early_cores_after board (Local k ∷ p)) k)) (no_early board p k stepped free)
      ∙ ap (λ (b : Bool). held_from true None b (came_early k (Local k ∷ p)) (cause_at_verification board (early_cores_after board (Local k ∷ p)) k)) v
      ∙ ap (λ (b : Bool). held_from true None verified b (cause_at_verification board (early_cores_after board (Local k ∷ p)) k)) (early-same k (Local k) p refl)
      ∙ ap (λ (o : Option Cause). held_from true None verified (came_early k p) o) l

  none_verified : is_final p ≡ false → was_verified k p ≡ false
  none_verified first = on (was_verified k p) refl where
    on : (b : Bool) → was_verified k p ≡ b → b ≡ false
    on true v = sym (verified_final k p v) ∙ first
    on false v = refl

  admitted : came_early k p ≡ true → is_admitted (state_at w.states k) ≡ true
  admitted early = ap is_admitted_past (past_in board p w k r free) ∙ ap (λ (b : Bool). is_admitted_past (past_by b (has_come k p))) early

  by : (b : Bool) → is_final p ≡ b → held_back board (Local k ∷ p) k ≡ cause_at_local w k
  by false first =
      from_is false false (cause_at_verification board (early_cores_after board (Local k ∷ p)) k)
      (ap (λ (b : Bool). b || ((k == k) && is_final p)) (none_verified first) ∙ ap (λ (b : Bool). (k == k) && b) first ∙ ap (λ (b : Bool). b && false) (own_number k)) refl
      ∙ sym (ap (λ (b : Bool). cond b late None) (r.after.final ∙ first))
  by true final =
      from_is true false late
      (or_right (was_verified k p) ((k == k) && is_final p) (ap (λ (b : Bool). b && is_final p) (own_number k) ∙ final))
      (late-final board (Local k) p k final ∙ sym (verification_is board p w k r.after r.order))
      ∙ if_not_early (came_early k p) late (λ early. (r.facts.states k).verified (r.after.final ∙ final) (admitted early))
      ∙ sym (ap (λ (b : Bool). cond b late None) (r.after.final ∙ final))

-- what held a core back before its local step holds it back after it
held_more : (early : Option Cause) (v u came : Bool) (l m : Option Cause) (cause : Cause) → (v ≡ true → u ≡ true) → (v ≡ true → m ≡ l)
    → held_from true early v came l ≡ Some cause → held_from true early u came m ≡ Some cause
held_more (Some x) v u came l m cause verified late h = h
held_more None true u came l m cause verified late h = rw (verified refl, late refl) h
held_more None false u came l m cause verified late h = absurd (let no : ⊥ = cc in no)

local_again : (board : Board) (p : List Event) (k : ℕ) (cause : Cause) → held_back board p k ≡ Some cause → held_back board (Local k ∷ p) k ≡ Some cause
unfolding was_verified
local_again board p k cause held =
    held_is board (Local k ∷ p) k
    ∙ ap (λ (b : Bool). held_from b (cause_at_check board k) (was_verified k (Local k ∷ p)) (came_early k (Local k ∷ p)) (cause_at_verification board (early_cores_after board (Local k ∷ p)) k))
    (ap (λ (o : Option Event). is_some o) (last-own k (Local k) p (own_number k)))
    ∙ ap (λ (b : Bool). held_from true (cause_at_check board k) (was_verified k (Local k ∷ p)) b (cause_at_verification board (early_cores_after board (Local k ∷ p)) k)) (early-same k (Local k) p refl)
    ∙ held_more (cause_at_check board k) (was_verified k p) (was_verified k (Local k ∷ p)) (came_early k p) (cause_at_verification board (early_cores_after board p) k) (cause_at_verification board (early_cores_after board (Local k ∷ p)) k) cause
    (λ v. or_left (was_verified k p) ((k == k) && is_final p) v) (λ v. late-final board (Local k) p k (verified_final k p v))
    (sym (ap (λ (b : Bool). held_from b (cause_at_check board k) (was_verified k p) (came_early k p) (cause_at_verification board (early_cores_after board p) k)) (stepped_if_held board p k cause held))
    ∙ sym (held_is board p k) ∙ held)

local_goes : (w : World) (k : ℕ) (cause : Cause) → cause_at_local w k ≡ Some cause → stops_machine cause ≡ false
local_goes w k cause is = by w.final refl where
  late : Option Cause
  late = cause_at_verification w.board (early_cores w.board w.states) k

  by : (b : Bool) → w.final ≡ b → stops_machine cause ≡ false
  by true final = misfit_does_not_stop _ _ _ _ _ cause (sym (ap (λ (b : Bool). cond b late None) final) ∙ is)
  by false first = absurd (let bad : None ≡ Some cause = sym (ap (λ (b : Bool). cond b late None) first) ∙ is in let no : ⊥ = cc in no)

pub local_answered : (board : Board) (p : List Event) (w : World) (k : ℕ) → IsTurnIn board p w k → is_checked_last (last_step k p) ≡ true
    → IsAnswered board p (Local k) w
unfolding reply_of
local_answered board p w k r ready = by (held_back board p k) refl where
  stepped : is_some (last_step k p) ≡ true
  stepped = stepped_by is_checked_last (last_step k p) refl ready

  by : (held : Option Cause) → held_back board p k ≡ held → IsAnswered board p (Local k) w
  by (Some cause) held = skipped board p (Local k) w k cause (local_answer (cause_at_local w k)) r (local_own k) refl refl refl refl held (local_again board p k cause held) refl
  by None free = on (cause_at_local w k) refl where
    held_after : held_back board (Local k ∷ p) k ≡ cause_at_local w k
    held_after = local_held board p w k r stepped free

    reply_is : (cause : Option Cause) → cause_at_local w k ≡ cause → reply_of board p (Local k) ≡ reply_from None cause
    reply_is cause is = ap (λ (o : Option Cause). reply_from o (held_back board (Local k ∷ p) k)) free ∙ ap (reply_from None) (held_after ∙ is)

    answer_is : (cause : Option Cause) → cause_at_local w k ≡ cause → live_answer w (Local k) ≡ Ok (reply_from None cause)
    answer_is cause is =
        numbered_in board p w k (local_answer (cause_at_local w k) (state_at w.states k)) r
        ∙ ap (local_answer (cause_at_local w k)) (shows board p w k r ∙ ap (λ (o : Option Cause). state_from (last_step k p) o (past_from k p)) free)
        ∙ checked_answer (last_step k p) (cause_at_local w k) (past_from k p) ready
        ∙ ap judged is ∙ judged_reply cause

    on : (cause : Option Cause) → cause_at_local w k ≡ cause → IsAnswered board p (Local k) w
    on None is = record {
      reply = Done;
      is = reply_is None is;
      answer = answer_is None is;
      after = after_moved board p (Local k) w k (Updated (past_of (state_at w.states k))) w.halted w.system (cond w.final w.noted (noted_with w k)) w.common_lengths r (local_own k)
          (state_next board p (Local k) k None r.not_boot (own_number k) (held_after ∙ is)
          ∙ ap Updated (past-same (Local k) p k (early-same k (Local k) p refl) (come-same k (Local k) p refl) ∙ sym (past_in board p w k r free)))
          (running_in board p w k r);
    }
    on (Some cause) is = let goes = local_goes w k cause is in record {
      reply = Parked cause;
      is = reply_is (Some cause) is ∙ goes_reply cause goes;
      answer = answer_is (Some cause) is ∙ ap Ok (goes_reply cause goes);
      after = after_moved board p (Local k) w k (IsParked cause) w.halted w.system w.noted w.common_lengths r (local_own k)
          (state_next board p (Local k) k (Some cause) r.not_boot (own_number k) (held_after ∙ is) ∙ parked_state (Local k) cause (past_from k (Local k ∷ p)) goes)
          (running_in board p w k r);
    }
