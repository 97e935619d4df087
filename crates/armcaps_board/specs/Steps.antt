-- Steps of a machine, the newest first, and the lines of a text that stand for them.
use Rattle.std.specs.Prelude.{ℕ, ◌==◌, Bool, true, false, List, [], ◌∷◌, find, reverse, Option, Some, None}
use Rattle.std.specs.List.{flat_map, list_any}
use Rattle.std.specs.Option.{option_map_or}
use Rattle.armcaps_board.specs.declared.event.Event.{Event}
use Rattle.armcaps_board.specs.declared.event.Event.TheVariants.{Check, Local, Store, Offline, Finalise}
use Rattle.armcaps_board.specs.declared.step_line.StepLine.{StepLine}
use Rattle.armcaps_board.specs.declared.step_line.StepLine.TheVariants as line

-- the steps that a line stands for, one after the other
abbrev pub events_of : StepLine → List Event
events_of (line.Check core) = Check core ∷ []
events_of (line.Local core) = Local core ∷ []
events_of (line.Store core) = Store core ∷ []
events_of (line.Online core) = Check core ∷ Local core ∷ Store core ∷ []
events_of (line.Offline core) = Offline core ∷ []
events_of line.Finalise = Finalise ∷ []

-- the first of the steps that a line stands for
abbrev pub first_event : StepLine → Event
first_event (line.Check core) = Check core
first_event (line.Local core) = Local core
first_event (line.Store core) = Store core
first_event (line.Online core) = Check core
first_event (line.Offline core) = Offline core
first_event line.Finalise = Finalise

-- the last of the steps that a line stands for
abbrev pub last_event : StepLine → Event
last_event (line.Check core) = Check core
last_event (line.Local core) = Local core
last_event (line.Store core) = Store core
last_event (line.Online core) = Store core
last_event (line.Offline core) = Offline core
last_event line.Finalise = Finalise

-- the steps that lines stand for, the newest first
unfoldable pub history : List StepLine → List Event
history lines = reverse (flat_map events_of lines)

-- the core that a step is of, if it is of one
abbrev pub core_of : Event → Option ℕ
core_of (Check core) = Some core
core_of (Local core) = Some core
core_of (Store core) = Some core
core_of (Offline core) = Some core
core_of Finalise = None

-- the step is one of this core
abbrev pub is_step_of : ℕ → Event → Bool
is_step_of number event = option_map_or (λ core. core == number) (core_of event) false

-- the step is the store of this core
abbrev pub is_store_of : ℕ → Event → Bool
is_store_of number (Store core) = core == number
is_store_of number _ = false

-- the step is the local step of this core
abbrev pub is_local_of : ℕ → Event → Bool
is_local_of number (Local core) = core == number
is_local_of number _ = false

-- the step is finalisation
abbrev pub is_finalise : Event → Bool
is_finalise Finalise = true
is_finalise _ = false

-- the last step of a core
abbrev pub last_step : ℕ → List Event → Option Event
last_step number steps = find (is_step_of number) steps

-- finalisation was done
abbrev pub is_final : List Event → Bool
is_final steps = list_any is_finalise steps
