-- A core's store and its going in their order are answered as the steps say, and the machine after them is that of all the steps.
use Rattle.std.proofs.Common.{◌≡◌, ℕ, Bool, true, false, cond, not, ◌&&◌, ◌||◌, List, ◌∷◌, Option, Some, None, Ok, refl, sym, ◌∙◌, ap}
use Rattle.std.specs.Prelude.{bit_and}
use Rattle.armcaps_sanit.specs.System.{merged_words}
use Rattle.armcaps_boot.specs.declared.cause.Cause.{Cause}
use Rattle.armcaps_boot.specs.declared.core_state.CoreState.TheVariants.{Admitted, Offline as Gone}
use Rattle.armcaps_board.specs.declared.event.Event.{Event}
use Rattle.armcaps_board.specs.declared.event.Event.TheVariants.{Local, Store, Offline}
use Rattle.armcaps_boot.specs.declared.past.Past.{Past}
use Rattle.armcaps_boot.specs.declared.reply.Reply.TheVariants.{Done}
use Rattle.armcaps_board.specs.Board.{Board, core_at}
use Rattle.armcaps_board.specs.Order.{is_up_last, is_updated_last}
use Rattle.armcaps_board.specs.Steps.{is_final, last_step}
use Rattle.armcaps_boot.specs.Admission.{came_early, has_come}
use Rattle.armcaps_boot.specs.ParkOrPanic.{held_back}
use Rattle.armcaps_boot.specs.After.{past_from, reply_from, reply_of, state_from}
use Rattle.armcaps_boot.specs.Answers.{offline_answer, store_answer}
use Rattle.armcaps_boot.specs.Changes.{admitted_after, gone_after}
use Rattle.armcaps_boot.specs.States.{is_late_past, past_of}
use Rattle.armcaps_boot.specs.World.{World, state_at}
use Rattle.armcaps_boot.proofs.Answering.{IsTurnIn, IsAnswered, after_moved, numbered_in, past-same, past_in, running_in, shows}
use Rattle.armcaps_boot.proofs.Histories.{course, early-same, come-same, verified-same, verified_final}
use Rattle.armcaps_boot.proofs.HeldBack.{past_by}
use Rattle.armcaps_boot.proofs.OwnSteps.{own_number, store_own, offline_own, skipped, state_next, stepped_by, held_own}

updated_answer : (last : Option Event) (was : Past) → is_updated_last last ≡ true → store_answer (state_from last None was) ≡ Ok Done
updated_answer last was = elim last as (λ l. is_updated_last l ≡ true → store_answer (state_from l None was) ≡ Ok Done) [
  | Some (Local c) ↦ λ h. refl
  | _ ↦ λ h. absurd (let no : ⊥ = cc in no)
]

up_answer : (last : Option Event) (was : Past) → is_up_last last ≡ true → offline_answer (state_from last None was) ≡ Ok Done
up_answer last was = elim last as (λ l. is_up_last l ≡ true → offline_answer (state_from l None was) ≡ Ok Done) [
  | Some (Store c) ↦ λ h. refl
  | _ ↦ λ h. absurd (let no : ⊥ = cc in no)
]

store_state : (final came has : Bool) → (came ≡ false → has ≡ true → final ≡ true)
    → Admitted (is_late_past (past_by (came || not final) true)) ≡ admitted_after final (past_by came has)
store_state true true has later = refl
store_state true false true later = refl
store_state true false false later = refl
store_state false true has later = refl
store_state false false true later = absurd (let bad : false ≡ true = later refl refl in let no : ⊥ = cc in no)
store_state false false false later = refl

pub store_answered : (board : Board) (p : List Event) (w : World) (k : ℕ) → IsTurnIn board p w k → is_updated_last (last_step k p) ≡ true
    → IsAnswered board p (Store k) w
unfolding reply_of came_early
store_answered board p w k r ready = by (held_back board p k) refl where
  stays : held_back board (Store k ∷ p) k ≡ held_back board p k
  stays = held_own board p (Store k) k (own_number k) (stepped_by is_updated_last (last_step k p) refl ready) (verified-same k (Store k) p refl)

  by : (held : Option Cause) → held_back board p k ≡ held → IsAnswered board p (Store k) w
  by (Some cause) held = skipped board p (Store k) w k cause store_answer r (store_own k) refl refl refl refl held (stays ∙ held) refl
  by None free = record {
    reply = Done;
    is = ap (λ (o : Option Cause). reply_from o (held_back board (Store k ∷ p) k)) free ∙ ap (reply_from None) (stays ∙ free);
    answer = numbered_in board p w k (store_answer (state_at w.states k)) r
        ∙ ap store_answer (shows board p w k r ∙ ap (λ (o : Option Cause). state_from (last_step k p) o (past_from k p)) free)
        ∙ updated_answer (last_step k p) (past_from k p) ready;
    after = after_moved board p (Store k) w k (admitted_after w.final (past_of (state_at w.states k))) w.halted
        (merged_words w.system (core_at w.board.cores k)) w.noted (cond w.final w.common_lengths (bit_and w.common_lengths (core_at w.board.cores k).lengths)) r (store_own k)
        (state_next board p (Store k) k None r.not_boot (own_number k) (stays ∙ free)
        ∙ ap (λ (b : Bool). Admitted (is_late_past (past_by (came_early k p || (b && not (is_final p))) (b || has_come k p)))) (own_number k)
        ∙ store_state (is_final p) (came_early k p) (has_come k p) (λ late come. verified_final k p ((course board p r.order k).late come late))
        ∙ ap (λ (b : Bool). admitted_after b (past_from k p)) (sym r.after.final)
        ∙ ap (admitted_after w.final) (sym (past_in board p w k r free)))
        (running_in board p w k r);
  }

leaves : (was : Past) → Gone (is_late_past was) ≡ gone_after was
leaves was = refl

pub offline_answered : (board : Board) (p : List Event) (w : World) (k : ℕ) → IsTurnIn board p w k → is_up_last (last_step k p) ≡ true
    → IsAnswered board p (Offline k) w
unfolding reply_of
offline_answered board p w k r ready = by (held_back board p k) refl where
  stays : held_back board (Offline k ∷ p) k ≡ held_back board p k
  stays = held_own board p (Offline k) k (own_number k) (stepped_by is_up_last (last_step k p) refl ready) (verified-same k (Offline k) p refl)

  by : (held : Option Cause) → held_back board p k ≡ held → IsAnswered board p (Offline k) w
  by (Some cause) held = skipped board p (Offline k) w k cause offline_answer r (offline_own k) refl refl refl refl held (stays ∙ held) refl
  by None free = record {
    reply = Done;
    is = ap (λ (o : Option Cause). reply_from o (held_back board (Offline k ∷ p) k)) free ∙ ap (reply_from None) (stays ∙ free);
    answer = numbered_in board p w k (offline_answer (state_at w.states k)) r
        ∙ ap offline_answer (shows board p w k r ∙ ap (λ (o : Option Cause). state_from (last_step k p) o (past_from k p)) free)
        ∙ up_answer (last_step k p) (past_from k p) ready;
    after = after_moved board p (Offline k) w k (gone_after (past_of (state_at w.states k))) w.halted w.system w.noted w.common_lengths r (offline_own k)
        (state_next board p (Offline k) k None r.not_boot (own_number k) (stays ∙ free)
        ∙ ap (λ (was : Past). Gone (is_late_past was)) (past-same (Offline k) p k (early-same k (Offline k) p refl) (come-same k (Offline k) p refl))
        ∙ leaves (past_from k p) ∙ ap gone_after (sym (past_in board p w k r free)))
        (running_in board p w k r);
  }
