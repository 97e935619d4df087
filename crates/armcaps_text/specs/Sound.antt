-- What holds of every reading.
use Rattle.std.specs.Prelude.{◌≡◌, ◌+◌, ◌*◌, ◌^◌, ◌≤◌, true}
use Rattle.armcaps_board.specs.Board.{IsBoard}
use Rattle.armcaps_board.specs.Order.{in_order, is_complete}
use Rattle.armcaps_board.specs.Steps.{history}
use Rattle.armcaps_text.specs.Document.{Reading}

-- a machine can be made of the board; each step may come after those before it, and they end with the system final
-- and no core on its way up; the image has at most 2^29 bytes, and the table of alternatives lies in it
pub record IsSound (reading : Reading) : Type 0 where
  pub board : IsBoard reading.board
  pub order : in_order reading.board (history reading.steps) ≡ true
  pub complete : is_complete (history reading.steps) ≡ true
  pub image : reading.image ≤ 2 ^ 29
  pub table : reading.layout.table + 12 * reading.layout.count ≤ reading.image
