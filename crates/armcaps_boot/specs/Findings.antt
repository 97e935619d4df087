-- What there is to tell of a machine that was brought up: its board, and the state to which each core came.
use Rattle.std.specs.Prelude.{List}
use Rattle.armcaps_board.specs.declared.event.Event.{Event}
use Rattle.armcaps_board.specs.Board.{Board}
use Rattle.armcaps_boot.specs.declared.core_state.CoreState.{CoreState}
use Rattle.armcaps_boot.specs.After.{states_after}
use Rattle.armcaps_boot.specs.World.{World}

-- the board, and the state to which each core came
pub record Findings : Type 0 where
  pub board : Board
  pub states : List CoreState

-- what a machine came to
abbrev pub findings_of : World → Findings
findings_of world = record { board = world.board; states = world.states }

-- what the steps of a board, the newest first, come to
abbrev pub findings_after : Board → List Event → Findings
findings_after board steps = record { board = board; states = states_after board steps }
