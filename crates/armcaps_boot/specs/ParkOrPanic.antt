-- Which cores are held back by steps, the newest first, and why: a core that is held back is parked, or it stops the
-- machine, which is a panic (Linux, arch/arm64/kernel/cpufeature.c, `check_local_cpu_capabilities` and what it calls:
-- `cpu_die_early`, `cpu_panic_kernel`).
use Rattle.std.specs.Prelude.{Bool, true, false, not, ◌&&◌, ℕ, if◌then◌else◌, List, [], ◌∷◌, Option, Some, None, is_some}
use Rattle.std.specs.Option.{option_or}
use Rattle.armcaps_caps.specs.Capabilities.{is_panic}
use Rattle.armcaps_board.specs.declared.event.Event.{Event}
use Rattle.armcaps_board.specs.declared.event.Event.TheVariants.{Check}
use Rattle.armcaps_board.specs.Board.{Board}
use Rattle.armcaps_board.specs.Steps.{last_step}
use Rattle.armcaps_boot.specs.declared.cause.Cause.{Cause}
use Rattle.armcaps_boot.specs.declared.cause.Cause.TheVariants.{Asid, Cap, Hwcap, Vector}
use Rattle.armcaps_boot.specs.declared.park_or_panic.Halt.{Halt}
use Rattle.armcaps_boot.specs.Admission.{came_early, early_cores_after, was_verified}
use Rattle.armcaps_boot.specs.Causes.{cause_at_check, cause_at_verification}

-- whether a cause stops the whole machine, as a panic: too few ASID bits, or a conflict with a capability whose
-- conflicts are panics; for another cause a core is parked
abbrev pub stops_machine : Cause → Bool
stops_machine Asid = true
stops_machine (Cap number) = is_panic number
stops_machine (Hwcap index) = false
stops_machine (Vector length) = false

-- why a core that has made a step is held back: its cause at the check, or where it is verified and did not come
-- early its cause at verification
unfoldable pub held_back : Board → List Event → ℕ → Option Cause
held_back board steps number =
    if is_some (last_step number steps)
    then option_or (cause_at_check board number)
    (if was_verified number steps && not (came_early number steps)
    then cause_at_verification board (early_cores_after board steps) number else None)
    else None

-- a core with this cause stops the machine, if the cause is one that does
abbrev pub halt_for : ℕ → Option Cause → Option Halt
halt_for number None = None
halt_for number (Some cause) = if stops_machine cause then Some (record { core = number; cause = cause }) else None

-- what stops the machine at this step: the check of a core whose cause does
abbrev pub halt_at : Board → Event → Option Halt
halt_at board (Check number) = halt_for number (cause_at_check board number)
halt_at board _ = None

-- what stops the machine: the first of the steps at which something does
unfoldable pub halt_of : Board → List Event → Option Halt
halt_of board [] = None
halt_of board (event ∷ steps) = option_or (halt_of board steps) (halt_at board event)

-- the steps that are made: up to the one that stops the machine
unfoldable pub steps_made : Board → List Event → List Event
steps_made board [] = []
steps_made board (event ∷ steps) = if is_some (halt_of board steps) then steps_made board steps else event ∷ steps
