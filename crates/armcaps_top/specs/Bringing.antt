-- The machine of a document before its steps.
use Rattle.std.specs.Prelude.{◌≡◌, true, List, reverse, None}
use Rattle.armcaps_board.specs.declared.event.Event.{Event}
use Rattle.armcaps_board.specs.Order.{is_complete}
use Rattle.armcaps_board.specs.Steps.{history}
use Rattle.armcaps_boot.specs.ParkOrPanic.{halt_of}
use Rattle.armcaps_boot.specs.StepByStep.{IsAt}
use Rattle.armcaps_boot.specs.Outcome.{IsSafe}
use Rattle.armcaps_boot.specs.World.{World}
use Rattle.armcaps_text.specs.Document.{Reading}

-- the machine of a reading has made no step yet, these are its steps, and if none of them stops it, it is safe after
-- them
pub record IsBegun (reading : Reading) (events : List Event) (world : World) : Type 0 where
  pub at : IsAt 0 events world.board world
  pub complete : is_complete (reverse events) ≡ true
  pub board : world.board ≡ reading.board
  pub steps : reverse events ≡ history reading.steps
  pub safe : halt_of reading.board (history reading.steps) ≡ None → IsSafe reading.board (history reading.steps)
