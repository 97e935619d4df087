-- A machine that is brought up step by step.
use Rattle.std.proofs.Common.{◌≡◌, ℕ, ◌+◌, ◌<◌, ◌≤◌, List, length, sym, ap, subst, ◌∙◌, arith}
use Rattle.std.specs.Prelude.{reverse, Option, Some, None}
use Rattle.armcaps_board.specs.declared.event.Event.{Event}
use Rattle.armcaps_board.specs.declared.event.Event.TheVariants.{Check}
use Rattle.armcaps_boot.specs.declared.park_or_panic.Halt.{Halt}
use Rattle.armcaps_board.specs.Board.{Board}
use Rattle.armcaps_boot.specs.ParkOrPanic.{halt_of, steps_made}
use Rattle.armcaps_boot.specs.After.{IsAfter}
use Rattle.armcaps_boot.specs.World.{World}
use Rattle.armcaps_boot.specs.StepByStep.{IsAt, steps_before}
use Rattle.armcaps_boot.proofs.StepByStep.{made_whole, steps_whole, stops_at}

-- the board of a machine that has made steps of a board is that board
pub board_kept : (board : Board) (past : List Event) (world : World) → IsAfter board past world → world.board ≡ board
board_kept board past world after = after.of_board

-- one step more
pub after_step : (board : Board) (index : ℕ) (events : List Event) (world new : World) → IsAt index events board world
    → IsAfter world.board (steps_before (index + 1) events) new → IsAfter board (steps_before (index + 1) events) new
after_step board index events world new at after =
    subst (λ (b : Board). IsAfter b (steps_before (index + 1) events) new) (board_kept board (steps_before index events) world at.after) after

-- a step that does not stop the machine
pub goes_on : (board : Board) (index : ℕ) (events : List Event) (world new : World) → IsAt index events board world
    → IsAfter world.board (steps_before (index + 1) events) new → new.halted ≡ None → IsAt (index + 1) events board new
goes_on board index events world new at after going =
    let made = after_step board index events world new at after in record {
      order = at.order;
      after = made;
      going = sym made.halted ∙ going;
    }

-- what has become of all steps
pub record IsBrought (board : Board) (events : List Event) (halt : Option Halt) (world : World) : Type 0 where
  pub halt_is : halt_of board (reverse events) ≡ halt
  pub made : IsAfter board (steps_made board (reverse events)) world

-- where a step stops the machine
pub stopped : (board : Board) (index : ℕ) (events : List Event) (world new : World) (halt : Halt) → index < length events → IsAt index events board world
    → IsAfter world.board (steps_before (index + 1) events) new → new.halted ≡ Some halt → IsBrought board events (Some halt) new
stopped board index events world new halt inside at after stops =
    let made = after_step board index events world new at after in
    let found = stops_at board index events (Check 0) halt inside at.going (sym made.halted ∙ stops) in record {
      halt_is = found.halt_is;
      made = subst (λ (steps : List Event). IsAfter board steps new) (sym found.made) made;
    }

-- what stopped a machine that has made steps of a board
pub halt_found : {board : Board} {past : List Event} {world : World} {halt : Option Halt} → IsAfter board past world → halt ≡ halt_of board past → world.halted ≡ halt
halt_found after is = after.halted ∙ sym is

-- what has become of all steps, none of which stopped the machine
pub record IsFinished (board : Board) (index : ℕ) (events : List Event) (world : World) : Type 0 where
  pub steps : steps_before index events ≡ reverse events
  pub halt_is : halt_of board (reverse events) ≡ None
  pub made : IsAfter board (steps_made board (reverse events)) world

-- where none does
pub finished : (board : Board) (index : ℕ) (events : List Event) (world : World) → length events ≤ index → index ≤ length events → IsAt index events board world
    → IsFinished board index events world
finished board index events world low high at =
    let all : index ≡ length events = omega arith in
    let steps : steps_before index events ≡ reverse events = ap (λ (n : ℕ). steps_before n events) all ∙ steps_whole events in
    let going : halt_of board (reverse events) ≡ None = subst (λ (past : List Event). halt_of board past ≡ None) steps at.going in record {
      steps = steps;
      halt_is = going;
      made = subst (λ (past : List Event). IsAfter board past world) (steps ∙ sym (made_whole board (reverse events) going)) at.after;
    }
