-- What is brought up.
use Rattle.std.specs.Prelude.{◌≡◌, ◌<◌, ◌≤◌, ℕ, List, [], length, None, slice_index_or}
use Rattle.armcaps_enc.specs.declared.register.SysReg.TheVariants.{CtrEl0}
use Rattle.armcaps_tables.specs.Core.{Core}
use Rattle.armcaps_tables.specs.Overriding.{AllFit, FieldOverrides, override_of}
use Rattle.armcaps_tables.specs.Rows.{rows_of}

-- what is brought up: the cores, the number of the boot core, and the overrides
pub record Board : Type 0 where
  pub cores : List Core
  pub boot : ℕ
  pub overrides : FieldOverrides

-- a core, by its number
abbrev pub core_at : List Core → ℕ → Core
core_at cores number = slice_index_or cores number (record { words = []; lengths = 0 })

-- the core that runs first
abbrev pub boot_core : Board → Core
boot_core board = core_at board.cores board.boot

-- no value stands in for a field of CTR_EL0
abbrev pub IsCtrPlain : FieldOverrides → Type 0
IsCtrPlain overrides = (index : ℕ) → index < length (rows_of CtrEl0) → override_of overrides CtrEl0 index ≡ None

-- a board of which a machine can be made: the boot core is one of at most 512 cores, each override fits its field,
-- and none is of CTR_EL0
pub record IsBoard (board : Board) : Type 0 where
  pub within : board.boot < length board.cores
  pub few : length board.cores ≤ 512
  pub fit : AllFit board.overrides
  pub plain_ctr : IsCtrPlain board.overrides
