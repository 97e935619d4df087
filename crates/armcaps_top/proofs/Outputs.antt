-- What querys write of a machine whose steps are all made.
use Rattle.std.proofs.Common.{◌≡◌, ℕ, ◌<◌, ◌≤◌, ◌⊎◌, inl, inr, Bool, true, false, not, cond, List, length, Option, Some, None, refl, ap, subst, ◌∙◌, arith}
use Rattle.std.specs.Prelude.{◌==◌}
use Rattle.std.proofs.lemmas.List.{get_or_past}
use Rattle.std.proofs.lemmas.Bool.{cases_lt}
use Rattle.armcaps_boot.specs.declared.cause.Cause.{Cause}
use Rattle.armcaps_boot.specs.declared.core_state.CoreState.{CoreState}
use Rattle.armcaps_boot.specs.declared.core_state.CoreState.TheVariants.{Absent, Parked, Panicked as HasPanicked}
use Rattle.armcaps_board.specs.declared.event.Event.{Event}
use Rattle.armcaps_board.specs.declared.event.Event.TheVariants.{Check, Local, Store, Offline, Finalise}
use Rattle.armcaps_boot.specs.declared.past.Past.{Past}
use Rattle.armcaps_board.specs.Board.{Board}
use Rattle.armcaps_board.specs.Order.{is_begun_last, is_complete, is_some_in_flight}
use Rattle.armcaps_board.specs.Steps.{is_final, last_step}
use Rattle.armcaps_boot.specs.ParkOrPanic.{halt_of, held_back, steps_made, stops_machine}
use Rattle.armcaps_boot.specs.After.{IsAfter, past_from, state_from, state_of}
use Rattle.armcaps_boot.specs.Facts.{Facts}
use Rattle.armcaps_boot.specs.Findings.{findings_after, findings_of}
use Rattle.armcaps_boot.specs.World.{World, state_at}
use Rattle.std.proofs.lemmas.Bool.{and_parts, not-true}
use Rattle.armcaps_board.proofs.Turns.{none_in_flight}
use Rattle.armcaps_boot.proofs.HeldBack.{state_of-boot, state_of-other}
use Rattle.armcaps_boot.proofs.ShorterHistories.{state_at-after}
use Rattle.armcaps_report.specs.Settled.{AreSettled, is_settled}
use Rattle.armcaps_boot.proofs.StepByStep.{made_whole}

-- where no step stopped the machine, all are made
pub whole_after : (board : Board) (steps : List Event) (world : World) → halt_of board steps ≡ None → IsAfter board (steps_made board steps) world
    → IsAfter board steps world
whole_after board steps world going made = subst (λ (s : List Event). IsAfter board s world) (made_whole board steps going) made

-- what is found is what the steps come to
pub findings_are : (board : Board) (steps : List Event) (world : World) → IsAfter board steps world → findings_of world ≡ findings_after board steps
findings_are board steps world after =
    rw (after.of_board, after.states) refl

by_stop : (stops : Bool) (cause : Cause) → ((c : Cause) → cond stops (HasPanicked cause) (Parked cause) ≡ HasPanicked c → ⊥)
    → is_settled (cond stops (HasPanicked cause) (Parked cause)) ≡ true
by_stop true cause fine = absurd (fine cause refl)
by_stop false cause fine = refl

settled_from : (last : Option Event) (held : Option Cause) (was : Past) → is_begun_last last ≡ false → ((c : Cause) → state_from last held was ≡ HasPanicked c → ⊥)
    → is_settled (state_from last held was) ≡ true
settled_from None held was begun fine = refl
settled_from (Some event) (Some cause) was begun fine = by_stop (stops_machine cause) cause fine
settled_from (Some (Check core)) None was begun fine = absurd (let no : ⊥ = cc in no)
settled_from (Some (Local core)) None was begun fine = absurd (let no : ⊥ = cc in no)
settled_from (Some (Store core)) None was begun fine = refl
settled_from (Some (Offline core)) None was begun fine = refl
settled_from (Some Finalise) None was begun fine = refl

-- once all steps are made, none of which stopped the machine, finalisation was done
pub is_finalised : (board : Board) (steps : List Event) (world : World) → IsAfter board steps world → is_complete steps ≡ true → world.final ≡ true
is_finalised board steps world after complete = after.final ∙ (and_parts (is_final steps) (not (is_some_in_flight steps)) complete).0

-- and no core is on its way up
pub are_settled : (board : Board) (steps : List Event) (world : World) → Facts world → IsAfter board steps world → is_complete steps ≡ true
    → halt_of board steps ≡ None → AreSettled world.states
are_settled board steps world facts after complete going = λ number. at number (cases_lt number (length board.cores))
  where
    fine : (number : ℕ) (cause : Cause) → state_at world.states number ≡ HasPanicked cause → ⊥
    fine number cause is = facts.halted.only (after.halted ∙ going) number cause is

    here : (number : ℕ) → number < length board.cores → state_at world.states number ≡ state_of board steps number
    here number within = ap (λ (states : List CoreState). state_at states number) after.states ∙ state_at-after board steps number within

    by_boot : (number : ℕ) → number < length board.cores → (b : Bool) → (number == board.boot) ≡ b → is_settled (state_of board steps number) ≡ true
    by_boot number within true is = ap is_settled (state_of-boot board steps number is)
    by_boot number within false is =
        let other = state_of-other board steps number is in
        let quiet = none_in_flight steps (not-true _ (and_parts (is_final steps) (not (is_some_in_flight steps)) complete).1) number in
        ap is_settled other ∙ settled_from (last_step number steps) (held_back board steps number) (past_from number steps) quiet
        (λ cause panicked. fine number cause (here number within ∙ other ∙ panicked))

    at : (number : ℕ) → (number < length board.cores) ⊎ (length board.cores ≤ number) → is_settled (state_at world.states number) ≡ true
    at number (inl within) = ap is_settled (here number within) ∙ by_boot number within (number == board.boot) refl
    at number (inr past) =
        let far : length world.states ≤ number = omega (arith, past, facts.sizes, ap (λ (b : Board). length b.cores) after.of_board) in
        ap is_settled (get_or_past world.states number Absent far)
