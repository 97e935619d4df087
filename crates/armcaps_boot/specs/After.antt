-- What steps bring a machine to, the newest first, and what each of them is answered (Linux, arch/arm64/kernel/smp.c,
-- `secondary_start_kernel`, and arch/arm64/kernel/cpufeature.c, `check_local_cpu_capabilities`).
use Rattle.std.specs.Prelude.{◌≡◌, ℕ, ◌==◌, false, if◌then◌else◌, List, ◌∷◌, length, map, Option, Some, None}
use Rattle.std.specs.List.{range_with_len}
use Rattle.std.specs.Option.{option_map_or}
use Rattle.armcaps_board.specs.declared.event.Event.{Event}
use Rattle.armcaps_board.specs.declared.event.Event.TheVariants.{Check, Local, Store, Offline, Finalise}
use Rattle.armcaps_board.specs.Board.{Board}
use Rattle.armcaps_board.specs.Steps.{core_of, is_final, last_step}
use Rattle.armcaps_boot.specs.declared.cause.Cause.{Cause}
use Rattle.armcaps_boot.specs.declared.core_state.CoreState.{CoreState}
use Rattle.armcaps_boot.specs.declared.core_state.CoreState.TheVariants.{Absent, Checked, Updated, Admitted, Offline as Gone, Parked as IsParked, Panicked as HasPanicked}
use Rattle.armcaps_boot.specs.declared.past.Past.{Past}
use Rattle.armcaps_boot.specs.declared.past.Past.TheVariants.{Never, Early, Late}
use Rattle.armcaps_boot.specs.declared.reply.Reply.{Reply}
use Rattle.armcaps_boot.specs.declared.reply.Reply.TheVariants.{Done, Parked, Panicked, Skipped}
use Rattle.armcaps_boot.specs.Admission.{came_early, has_come}
use Rattle.armcaps_boot.specs.ParkOrPanic.{halt_of, held_back, stops_machine}
use Rattle.armcaps_boot.specs.States.{is_late_past}
use Rattle.armcaps_boot.specs.World.{World}

-- as what a core was admitted by these steps
abbrev pub past_from : ℕ → List Event → Past
past_from number steps = if came_early number steps then Early else if has_come number steps then Late else Never

-- the state of a core with this last step, which is held back for this cause if for any, and was admitted as this
abbrev pub state_from : Option Event → Option Cause → Past → CoreState
state_from None held was = Absent
state_from (Some event) (Some cause) was = if stops_machine cause then HasPanicked cause else IsParked cause
state_from (Some (Check core)) None was = Checked was
state_from (Some (Local core)) None was = Updated was
state_from (Some (Store core)) None was = Admitted (is_late_past was)
state_from (Some (Offline core)) None was = Gone (is_late_past was)
state_from (Some Finalise) None was = Absent

-- the state of a core after these steps
unfoldable pub state_of : Board → List Event → ℕ → CoreState
state_of board steps number =
    if number == board.boot then Admitted false
    else state_from (last_step number steps) (held_back board steps number) (past_from number steps)

-- the states of all cores after these steps, in rising number
unfoldable pub states_after : Board → List Event → List CoreState
states_after board steps = map (state_of board steps) (range_with_len 0 (length board.cores))

-- what a step is answered whose core is held back for these causes, if for any, before the step and after it: held
-- before, it is skipped; held only now, it is parked or has stopped the machine; else the step is done
abbrev pub reply_from : Option Cause → Option Cause → Reply
reply_from (Some cause) after = Skipped
reply_from None (Some cause) = if stops_machine cause then Panicked cause else Parked cause
reply_from None None = Done

-- what a step after these is answered; finalisation, which is of no core, is done
unfoldable pub reply_of : Board → List Event → Event → Reply
reply_of board steps event =
    option_map_or (λ core. reply_from (held_back board steps core) (held_back board (event ∷ steps) core))
    (core_of event) Done

-- the machine is that of the board after these steps
pub record IsAfter (board : Board) (steps : List Event) (world : World) : Type 0 where
  pub of_board : world.board ≡ board
  pub states : world.states ≡ states_after board steps
  pub final : world.final ≡ is_final steps
  pub halted : world.halted ≡ halt_of board steps
