-- A machine in the middle of its steps, which stand in their order.
use Rattle.std.specs.Prelude.{◌≡◌, ℕ, true, List, take, reverse, None}
use Rattle.armcaps_board.specs.declared.event.Event.{Event}
use Rattle.armcaps_board.specs.Board.{Board}
use Rattle.armcaps_board.specs.Order.{in_order}
use Rattle.armcaps_boot.specs.ParkOrPanic.{halt_of}
use Rattle.armcaps_boot.specs.After.{IsAfter}
use Rattle.armcaps_boot.specs.World.{World}

-- the steps before the one at this index, the newest first
abbrev pub steps_before : ℕ → List Event → List Event
steps_before index events = reverse (take index events)

-- the machine of the board has made the steps before this index, of steps that stand in order, and none of them
-- stopped it
pub record IsAt (index : ℕ) (events : List Event) (board : Board) (world : World) : Type 0 where
  pub order : in_order board (reverse events) ≡ true
  pub after : IsAfter board (steps_before index events) world
  pub going : halt_of board (steps_before index events) ≡ None
