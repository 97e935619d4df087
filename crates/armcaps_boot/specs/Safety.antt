-- What is relied on before and after finalisation.
use Rattle.std.specs.Prelude.{◌≡◌, ℕ, Bool, true, ◌&&◌}
use Rattle.armcaps_caps.specs.Capabilities.{is_boot_scope}
use Rattle.armcaps_board.specs.Board.{boot_core, core_at}
use Rattle.armcaps_boot.specs.Causes.{has_capability, capability_enabled}
use Rattle.armcaps_boot.specs.States.{is_admitted}
use Rattle.armcaps_boot.specs.World.{World, state_at, early_cores}

-- a core of this number was ever admitted
abbrev pub WasAdmitted : World → ℕ → Type 0
WasAdmitted world core = is_admitted (state_at world.states core) ≡ true

-- whether a core has a capability
abbrev pub core_has : World → ℕ → ℕ → Bool
core_has world core number = has_capability world.board (core_at world.board.cores core) number

-- whether a capability is enabled over the early cores
abbrev pub is_enabled : World → ℕ → Bool
is_enabled world number = capability_enabled world.board (early_cores world.board world.states) number

-- whether a capability is enabled before finalisation: one of boot scope that the boot core has
abbrev pub is_enabled_at_first : World → ℕ → Bool
is_enabled_at_first world number = is_boot_scope number && has_capability world.board (boot_core world.board) number
