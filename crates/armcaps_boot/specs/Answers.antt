-- What a machine answers to a step.
use Rattle.std.specs.Prelude.{ℕ, ◌==◌, Bool, if◌then◌else◌, nat_lt, List, length, Option, Some, None, Result, Ok, Err}
use Rattle.armcaps_board.specs.declared.event.Event.{Event}
use Rattle.armcaps_board.specs.declared.event.Event.TheVariants.{Check, Local, Store, Offline, Finalise}
use Rattle.armcaps_boot.specs.declared.cause.Cause.{Cause}
use Rattle.armcaps_boot.specs.declared.core_state.CoreState.{CoreState}
use Rattle.armcaps_boot.specs.declared.core_state.CoreState.TheVariants.{Absent, Checked, Updated, Admitted, Offline as Gone, Parked as IsParked}
use Rattle.armcaps_boot.specs.declared.park_or_panic.Halt.{Halt}
use Rattle.armcaps_boot.specs.declared.refused.StepRefused.{StepRefused}
use Rattle.armcaps_boot.specs.declared.refused.StepRefused.TheVariants.{NoCore, IsBootCore, OutOfTurn, AlreadyFinal, InFlight, Halted}
use Rattle.armcaps_boot.specs.declared.reply.Reply.{Reply}
use Rattle.armcaps_boot.specs.declared.reply.Reply.TheVariants.{Done, Parked, Panicked, Skipped}
use Rattle.armcaps_boot.specs.Causes.{cause_at_check, cause_at_verification}
use Rattle.armcaps_boot.specs.ParkOrPanic.{stops_machine}
use Rattle.armcaps_boot.specs.Numbers.{first_of}
use Rattle.armcaps_boot.specs.States.{is_in_flight}
use Rattle.armcaps_boot.specs.World.{World, state_at, early_cores}

-- what comes of a step, or why it is refused
abbrev pub Answer : Type 0
Answer = Result Reply StepRefused

-- a step that a core makes which is now held back for this cause, if for any: done, or the core is parked or stops
-- the machine
abbrev pub judged : Option Cause → Answer
judged None = Ok Done
judged (Some cause) = if stops_machine cause then Ok (Panicked cause) else Ok (Parked cause)

-- what the check of a core in this state is answered, which has this cause at its check
abbrev pub check_answer : Option Cause → CoreState → Answer
check_answer cause Absent = judged cause
check_answer cause (Gone late) = judged cause
check_answer cause (IsParked reason) = Ok Skipped
check_answer cause state = Err (OutOfTurn state)

-- what the local step of a core in this state is answered, which has this cause where it is verified
abbrev pub local_answer : Option Cause → CoreState → Answer
local_answer cause (Checked was) = judged cause
local_answer cause (IsParked reason) = Ok Skipped
local_answer cause state = Err (OutOfTurn state)

-- what the store of a core in this state is answered
abbrev pub store_answer : CoreState → Answer
store_answer (Updated was) = Ok Done
store_answer (IsParked reason) = Ok Skipped
store_answer state = Err (OutOfTurn state)

-- what the going of a core in this state is answered
abbrev pub offline_answer : CoreState → Answer
offline_answer (Admitted late) = Ok Done
offline_answer (IsParked reason) = Ok Skipped
offline_answer state = Err (OutOfTurn state)

-- the first core that has made its check and not yet its store
abbrev pub first_in_flight : List CoreState → Option ℕ
first_in_flight states = first_of 0 (length states) (λ number. is_in_flight (state_at states number))

-- what finalisation is answered, by whether it was done before, and by the first core on its way up
abbrev pub finalise_answer : Bool → Option ℕ → Answer
finalise_answer final None = if final then Err AlreadyFinal else Ok Done
finalise_answer final (Some core) = if final then Err AlreadyFinal else Err (InFlight core)

-- the cause that a core has at its local step: none before finalisation, and then its cause at verification, over the
-- early cores
abbrev pub cause_at_local : World → ℕ → Option Cause
cause_at_local world number =
    if world.final then cause_at_verification world.board (early_cores world.board world.states) number else None

-- the answer to a step of the core of this number, which has to be one of the machine's and not the boot core
abbrev pub numbered : World → ℕ → Answer → Answer
numbered world number answer =
    if nat_lt number (length world.board.cores)
    then (if number == world.board.boot then Err IsBootCore else answer) else Err NoCore

-- the answer to a step while nothing has stopped the machine
abbrev pub live_answer : World → Event → Answer
live_answer world (Check number) =
    numbered world number (check_answer (cause_at_check world.board number) (state_at world.states number))
live_answer world (Local number) =
    numbered world number (local_answer (cause_at_local world number) (state_at world.states number))
live_answer world (Store number) = numbered world number (store_answer (state_at world.states number))
live_answer world (Offline number) = numbered world number (offline_answer (state_at world.states number))
live_answer world Finalise = finalise_answer world.final (first_in_flight world.states)

-- once the machine is stopped each step is refused
abbrev pub unless_halted : Option Halt → Answer → Answer
unless_halted None answer = answer
unless_halted (Some halt) answer = Err (Halted halt.core halt.cause)

-- the answer to a step
abbrev pub answer_of : World → Event → Answer
answer_of world event = unless_halted world.halted (live_answer world event)
