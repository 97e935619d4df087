-- Which cores are admitted by steps, the newest first (Linux, arch/arm64/kernel/smp.c, `secondary_start_kernel`, and
-- arch/arm64/kernel/cpufeature.c, `check_local_cpu_capabilities`).
use Rattle.std.specs.Prelude.{ℕ, ◌==◌, Bool, false, not, ◌&&◌, ◌||◌, List, [], ◌∷◌, is_none}
use Rattle.std.specs.List.{list_any}
use Rattle.armcaps_tables.specs.Core.{Core}
use Rattle.armcaps_board.specs.declared.event.Event.{Event}
use Rattle.armcaps_board.specs.Board.{Board}
use Rattle.armcaps_board.specs.Steps.{is_final, is_local_of, is_store_of}
use Rattle.armcaps_boot.specs.Causes.{cause_at_check, cause_at_verification}
use Rattle.armcaps_boot.specs.Choosing.{chosen}

-- the core has made its store
abbrev pub has_come : ℕ → List Event → Bool
has_come number steps = list_any (is_store_of number) steps

-- the core is early: its first store stands before finalisation
unfoldable pub came_early : ℕ → List Event → Bool
came_early number [] = false
came_early number (event ∷ steps) = came_early number steps || (is_store_of number event && not (is_final steps))

-- the core is verified: it has made a local step after finalisation
unfoldable pub was_verified : ℕ → List Event → Bool
was_verified number [] = false
was_verified number (event ∷ steps) = was_verified number steps || (is_local_of number event && is_final steps)

-- one of the early cores: the boot core, and each core that came early and has no cause at its check
abbrev pub is_among_early : Board → List Event → ℕ → Bool
is_among_early board steps number =
    (number == board.boot) || (came_early number steps && is_none (cause_at_check board number))

-- the early cores after these steps, in rising number
abbrev pub early_cores_after : Board → List Event → List Core
early_cores_after board steps = chosen (is_among_early board steps) board.cores

-- one of the late cores: it came, not early, and has neither a cause at its check nor one at its verification
abbrev pub is_among_late : Board → List Event → ℕ → Bool
is_among_late board steps number =
    not (number == board.boot) && has_come number steps && not (came_early number steps)
    && is_none (cause_at_check board number)
    && is_none (cause_at_verification board (early_cores_after board steps) number)

-- one of the cores that were ever admitted: an early or a late one
abbrev pub is_among_admitted : Board → List Event → ℕ → Bool
is_among_admitted board steps number = is_among_early board steps number || is_among_late board steps number

-- the cores that were ever admitted by these steps, in rising number
abbrev pub admitted_cores_after : Board → List Event → List Core
admitted_cores_after board steps = chosen (is_among_admitted board steps) board.cores
