-- What contracts see of a machine that is brought up.
use Rattle.std.specs.Prelude.{ℕ, Bool, List, Option, slice_index_or}
use Rattle.armcaps_tables.specs.Core.{Core}
use Rattle.armcaps_hwcap.specs.declared.hw_set.HwSet.{HwSet}
use Rattle.armcaps_board.specs.Board.{Board}
use Rattle.armcaps_boot.specs.declared.core_state.CoreState.{CoreState}
use Rattle.armcaps_boot.specs.declared.core_state.CoreState.TheVariants.{Absent}
use Rattle.armcaps_boot.specs.declared.park_or_panic.Halt.{Halt}
use Rattle.armcaps_boot.specs.Choosing.{chosen}
use Rattle.armcaps_boot.specs.States.{is_admitted, is_early}

-- the board, the words of the system registers, each core's state, who stopped the machine, whether finalisation was
-- done, the local capabilities noted so far, the capabilities enabled, the hwcaps, the word of CTR_EL0 at
-- finalisation (0 before), the vector lengths that all early cores have, and those told to programs
pub record World : Type 0 where
  pub board : Board
  pub system : List ℕ
  pub states : List CoreState
  pub halted : Option Halt
  pub final : Bool
  pub noted : List Bool
  pub enabled : List Bool
  pub hwcaps : HwSet
  pub final_ctr : ℕ
  pub common_lengths : ℕ
  pub lengths : ℕ

-- a core's state, by its number
abbrev pub state_at : List CoreState → ℕ → CoreState
state_at states number = slice_index_or states number Absent

-- the cores that were ever admitted, by the states of all cores, in rising number
abbrev pub admitted_cores : Board → List CoreState → List Core
admitted_cores board states = chosen (λ number. is_admitted (state_at states number)) board.cores

-- the cores that were admitted before finalisation, by the states of all cores, in rising number
abbrev pub early_cores : Board → List CoreState → List Core
early_cores board states = chosen (λ number. is_early (state_at states number)) board.cores
