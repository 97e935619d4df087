-- A core's check in its order is answered as the steps say, and the machine after it is that of all the steps.
use Rattle.std.proofs.Common.{◌≡◌, ℕ, Bool, true, false, List, ◌∷◌, Option, Some, None, Ok, refl, sym, ◌∙◌, ap}
use Rattle.std.specs.Prelude.{is_some}
use Rattle.armcaps_boot.specs.declared.cause.Cause.{Cause}
use Rattle.armcaps_boot.specs.declared.core_state.CoreState.TheVariants.{Checked, Parked as IsParked, Panicked as HasPanicked}
use Rattle.armcaps_board.specs.declared.event.Event.{Event}
use Rattle.armcaps_board.specs.declared.event.Event.TheVariants.{Check, Local, Store, Offline, Finalise}
use Rattle.armcaps_boot.specs.declared.past.Past.{Past}
use Rattle.armcaps_boot.specs.declared.reply.Reply.TheVariants.{Done, Parked, Panicked}
use Rattle.armcaps_board.specs.Board.{Board}
use Rattle.armcaps_board.specs.Order.{is_fresh_last}
use Rattle.armcaps_board.specs.Steps.{last_step}
use Rattle.armcaps_boot.specs.Admission.{came_early, early_cores_after, was_verified}
use Rattle.armcaps_boot.specs.ParkOrPanic.{halt_for, held_back, stops_machine}
use Rattle.armcaps_boot.specs.After.{past_from, reply_from, reply_of, state_from}
use Rattle.armcaps_boot.specs.Answers.{check_answer, judged, live_answer}
use Rattle.armcaps_boot.specs.Causes.{cause_at_check, cause_at_verification}
use Rattle.armcaps_boot.specs.States.{past_of}
use Rattle.armcaps_boot.specs.World.{World, state_at}
use Rattle.armcaps_boot.proofs.Answering.{IsTurnIn, IsAnswered, IsHeldIn, after_moved, check_is, held_in, judged_reply, numbered_in, parked_state, panicked_state, past-same, past_in, running_in, shows, stepped_if_held}
use Rattle.armcaps_boot.proofs.Histories.{early-same, come-same, verified-same}
use Rattle.armcaps_boot.proofs.HeldBack.{held_is}
use Rattle.armcaps_boot.proofs.OwnSteps.{own_number, check_own, skipped, state_next, held_own, early_first, check_held}

fresh_answer : (last : Option Event) (cause : Option Cause) (was : Past) → is_fresh_last last ≡ true → check_answer cause (state_from last None was) ≡ judged cause
fresh_answer None cause was fresh = refl
fresh_answer (Some (Offline c)) cause was fresh = refl
fresh_answer (Some (Check c)) cause was fresh = absurd (let no : ⊥ = cc in no)
fresh_answer (Some (Local c)) cause was fresh = absurd (let no : ⊥ = cc in no)
fresh_answer (Some (Store c)) cause was fresh = absurd (let no : ⊥ = cc in no)
fresh_answer (Some Finalise) cause was fresh = absurd (let no : ⊥ = cc in no)

-- what stops the machine at a check
pub no_halt : (k : ℕ) (cause : Cause) → stops_machine cause ≡ false → halt_for k (Some cause) ≡ None
no_halt k cause goes = rw goes

some_halt : (k : ℕ) (cause : Cause) → stops_machine cause ≡ true → halt_for k (Some cause) ≡ Some (record { core = k; cause = cause })
some_halt k cause stops = rw stops

pub goes_reply : (cause : Cause) → stops_machine cause ≡ false → reply_from None (Some cause) ≡ Parked cause
goes_reply cause goes = rw goes

pub stops_reply : (cause : Cause) → stops_machine cause ≡ true → reply_from None (Some cause) ≡ Panicked cause
stops_reply cause stops = rw stops

pub check_answered : (board : Board) (p : List Event) (w : World) (k : ℕ) → IsTurnIn board p w k → is_fresh_last (last_step k p) ≡ true
    → IsAnswered board p (Check k) w
unfolding reply_of
check_answered board p w k r fresh = by (held_back board p k) refl where
  state_is : (held : Option Cause) → held_back board p k ≡ held → state_at w.states k ≡ state_from (last_step k p) held (past_from k p)
  state_is held is = shows board p w k r ∙ ap (λ (o : Option Cause). state_from (last_step k p) o (past_from k p)) is

  by : (held : Option Cause) → held_back board p k ≡ held → IsAnswered board p (Check k) w
  by (Some cause) held =
      skipped board p (Check k) w k cause (check_answer (cause_at_check w.board k)) r (check_own k) refl refl refl refl held again (goes (cause_at_check board k) refl) where
        h : IsHeldIn w k cause
        h = held_in board p w k r cause held

        stepped : is_some (last_step k p) ≡ true
        stepped = stepped_if_held board p k cause held

        again : held_back board (Check k ∷ p) k ≡ Some cause
        again = held_own board p (Check k) k (own_number k) stepped (verified-same k (Check k) p refl) ∙ held

        goes : (early : Option Cause) → cause_at_check board k ≡ early → halt_for k (cause_at_check board k) ≡ None
        goes None none = ap (halt_for k) none
        goes (Some found) some =
            let same : found ≡ cause =
            early_first (is_some (last_step k p)) (was_verified k p) (came_early k p) (cause_at_check board k) (cause_at_verification board (early_cores_after board p) k) cause found stepped (sym (held_is board p k) ∙ held) some in
            ap (halt_for k) some ∙ no_halt k found (ap stops_machine same ∙ h.goes)
  by None free = on (cause_at_check board k) refl where
    reply_is : (early : Option Cause) → cause_at_check board k ≡ early → reply_of board p (Check k) ≡ reply_from None early
    reply_is early is =
        ap (λ (o : Option Cause). reply_from o (held_back board (Check k ∷ p) k)) free ∙ ap (reply_from None) (check_held board p k free ∙ is)

    answer_is : (early : Option Cause) → cause_at_check board k ≡ early → live_answer w (Check k) ≡ Ok (reply_from None early)
    answer_is early is =
        numbered_in board p w k (check_answer (cause_at_check w.board k) (state_at w.states k)) r
        ∙ ap (check_answer (cause_at_check w.board k)) (state_is None free)
        ∙ fresh_answer (last_step k p) (cause_at_check w.board k) (past_from k p) fresh
        ∙ ap judged (check_is board p w k r.after ∙ is) ∙ judged_reply early

    held_after : (early : Option Cause) → cause_at_check board k ≡ early → held_back board (Check k ∷ p) k ≡ early
    held_after early is = check_held board p k free ∙ is

    on : (early : Option Cause) → cause_at_check board k ≡ early → IsAnswered board p (Check k) w
    on None is = record {
      reply = Done;
      is = reply_is None is;
      answer = answer_is None is;
      after = after_moved board p (Check k) w k (Checked (past_of (state_at w.states k))) w.halted w.system w.noted w.common_lengths r (check_own k)
          (state_next board p (Check k) k None r.not_boot (own_number k) (held_after None is)
          ∙ ap Checked (past-same (Check k) p k (early-same k (Check k) p refl) (come-same k (Check k) p refl) ∙ sym (past_in board p w k r free)))
          (running_in board p w k r ∙ sym (ap (halt_for k) is));
    }
    on (Some cause) is = judge (stops_machine cause) refl where
      judge : (b : Bool) → stops_machine cause ≡ b → IsAnswered board p (Check k) w
      judge true stops = record {
        reply = Panicked cause;
        is = reply_is (Some cause) is ∙ stops_reply cause stops;
        answer = answer_is (Some cause) is ∙ ap Ok (stops_reply cause stops);
        after = after_moved board p (Check k) w k (HasPanicked cause) (Some (record { core = k; cause = cause })) w.system w.noted w.common_lengths r (check_own k)
            (state_next board p (Check k) k (Some cause) r.not_boot (own_number k) (held_after (Some cause) is) ∙ panicked_state (Check k) cause (past_from k (Check k ∷ p)) stops)
            (sym (ap (halt_for k) is ∙ some_halt k cause stops));
      }
      judge false goes = record {
        reply = Parked cause;
        is = reply_is (Some cause) is ∙ goes_reply cause goes;
        answer = answer_is (Some cause) is ∙ ap Ok (goes_reply cause goes);
        after = after_moved board p (Check k) w k (IsParked cause) w.halted w.system w.noted w.common_lengths r (check_own k)
            (state_next board p (Check k) k (Some cause) r.not_boot (own_number k) (held_after (Some cause) is) ∙ parked_state (Check k) cause (past_from k (Check k ∷ p)) goes)
            (running_in board p w k r ∙ sym (ap (halt_for k) is ∙ no_halt k cause goes));
      }
