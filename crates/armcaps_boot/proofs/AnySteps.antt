-- Finalisation and any step in its order is answered as the steps say, and the machine after it is that of all the steps.
use Rattle.std.proofs.Common.{◌≡◌, ◌<◌, ℕ, Bool, true, false, List, ◌∷◌, length, Option, Some, None, Ok, refl, sym, ◌∙◌, ap, subst, arith}
use Rattle.std.specs.Prelude.{◌==◌}
use Rattle.armcaps_boot.specs.declared.cause.Cause.{Cause}
use Rattle.armcaps_boot.specs.declared.core_state.CoreState.{CoreState}
use Rattle.armcaps_board.specs.declared.event.Event.{Event}
use Rattle.armcaps_board.specs.declared.event.Event.TheVariants.{Check, Local, Store, Offline, Finalise}
use Rattle.armcaps_boot.specs.declared.park_or_panic.Halt.{Halt}
use Rattle.armcaps_boot.specs.declared.past.Past.{Past}
use Rattle.armcaps_boot.specs.declared.reply.Reply.{Reply}
use Rattle.armcaps_boot.specs.declared.reply.Reply.TheVariants.{Done}
use Rattle.armcaps_board.specs.Board.{Board}
use Rattle.armcaps_board.specs.Order.{in_order, is_begun_last, is_next}
use Rattle.armcaps_board.specs.Steps.{last_step}
use Rattle.armcaps_boot.specs.ParkOrPanic.{halt_of, held_back, stops_machine}
use Rattle.armcaps_boot.specs.After.{IsAfter, past_from, reply_of, state_from, state_of}
use Rattle.armcaps_boot.specs.Answers.{answer_of, finalise_answer, first_in_flight, live_answer, unless_halted}
use Rattle.armcaps_boot.specs.Changes.{world_after}
use Rattle.armcaps_boot.specs.Facts.{Facts}
use Rattle.armcaps_boot.specs.States.{is_in_flight}
use Rattle.armcaps_boot.specs.World.{World, state_at}
use Rattle.armcaps_boot.proofs.Answering.{IsAnswered, halt_next, length_after, states_stay}
use Rattle.armcaps_board.proofs.Turns.{settled, turn_of}
use Rattle.armcaps_boot.proofs.HeldBack.{state_of-boot, state_of-other}
use Rattle.armcaps_boot.proofs.FirstNumbers.{first_of-none}
use Rattle.armcaps_boot.proofs.ShorterHistories.{state_at-after}
use Rattle.armcaps_boot.proofs.CheckParksOrPanics.{check_answered}
use Rattle.armcaps_boot.proofs.LateCoreParked.{local_answered}
use Rattle.armcaps_boot.proofs.StoreStep.{store_answered, offline_answered}

-- a core that has not begun to come up is not in flight
flies : (last : Option Event) (held : Option Cause) (was : Past) → is_begun_last last ≡ false → is_in_flight (state_from last held was) ≡ false
flies None held was h = refl
flies (Some e) (Some cause) was h = by (stops_machine cause) refl where
  by : (b : Bool) → stops_machine cause ≡ b → is_in_flight (state_from (Some e) (Some cause) was) ≡ false
  by true stops = rw stops
  by false goes = rw goes
flies (Some (Check c)) None was h = absurd (let no : ⊥ = cc in no)
flies (Some (Local c)) None was h = absurd (let no : ⊥ = cc in no)
flies (Some (Store c)) None was h = refl
flies (Some (Offline c)) None was h = refl
flies (Some Finalise) None was h = refl

none_flies : (board : Board) (p : List Event) (w : World) → IsAfter board p w → ((k : ℕ) → is_begun_last (last_step k p) ≡ false)
    → first_in_flight w.states ≡ None
none_flies board p w after settles =
    first_of-none (λ k. is_in_flight (state_at w.states k)) 0 (length w.states)
    (λ k low high. at k (omega (arith, length_after board p, ap length after.states))) where
      at : (k : ℕ) → k < length board.cores → is_in_flight (state_at w.states k) ≡ false
      at k within = ap (λ (l : List CoreState). is_in_flight (state_at l k)) after.states ∙ ap is_in_flight (state_at-after board p k within) ∙ by (k == board.boot) refl where
        by : (b : Bool) → (k == board.boot) ≡ b → is_in_flight (state_of board p k) ≡ false
        by true here = ap is_in_flight (state_of-boot board p k here)
        by false other = ap is_in_flight (state_of-other board p k other) ∙ flies (last_step k p) (held_back board p k) (past_from k p) (settles k)

pub finalise_answered : (board : Board) (p : List Event) (w : World) → IsAfter board p w → halt_of board p ≡ None
    → is_next board p Finalise ≡ true → IsAnswered board p Finalise w
unfolding reply_of
finalise_answered board p w after running next =
    let settles = settled board p Finalise next refl in record {
      reply = Done;
      is = refl;
      answer = ap (λ (o : Option ℕ). finalise_answer w.final o) (none_flies board p w after settles.1)
          ∙ ap (λ (b : Bool). finalise_answer b None) (after.final ∙ settles.0);
      after = record {
        of_board = after.of_board;
        states = after.states ∙ states_stay board p;
        final = refl;
        halted = after.halted ∙ running ∙ sym (halt_next board Finalise p running);
      };
    }

pub turn_answered : (board : Board) (p : List Event) (e : Event) (w : World) → Facts w → IsAfter board p w → in_order board p ≡ true
    → is_next board p e ≡ true → halt_of board p ≡ None → IsAnswered board p e w
turn_answered board p (Check k) w facts after order next running =
    let t = turn_of board p (Check k) k refl next in
    check_answered board p w k (record { facts = facts; after = after; order = order; running = running; within = t.within; not_boot = t.not_boot }) t.follows
turn_answered board p (Local k) w facts after order next running =
    let t = turn_of board p (Local k) k refl next in
    local_answered board p w k (record { facts = facts; after = after; order = order; running = running; within = t.within; not_boot = t.not_boot }) t.follows
turn_answered board p (Store k) w facts after order next running =
    let t = turn_of board p (Store k) k refl next in
    store_answered board p w k (record { facts = facts; after = after; order = order; running = running; within = t.within; not_boot = t.not_boot }) t.follows
turn_answered board p (Offline k) w facts after order next running =
    let t = turn_of board p (Offline k) k refl next in
    offline_answered board p w k (record { facts = facts; after = after; order = order; running = running; within = t.within; not_boot = t.not_boot }) t.follows
turn_answered board p Finalise w facts after order next running = finalise_answered board p w after running next

pub step_answered : (board : Board) (p : List Event) (e : Event) (w : World) → Facts w → IsAfter board p w → in_order board p ≡ true
    → is_next board p e ≡ true → halt_of board p ≡ None → answer_of w e ≡ Ok (reply_of board p e)
step_answered board p e w facts after order next running =
    let a = turn_answered board p e w facts after order next running in
    ap (λ (h : Option Halt). unless_halted h (live_answer w e)) (after.halted ∙ running) ∙ a.answer ∙ ap Ok (sym a.is)

pub step_after : (board : Board) (p : List Event) (e : Event) (w : World) → Facts w → IsAfter board p w → in_order board p ≡ true
    → is_next board p e ≡ true → halt_of board p ≡ None → IsAfter board (e ∷ p) (world_after w e (Ok (reply_of board p e)))
step_after board p e w facts after order next running =
    let a = turn_answered board p e w facts after order next running in
    subst (λ (reply : Reply). IsAfter board (e ∷ p) (world_after w e (Ok reply))) (sym a.is) a.after
