-- What contracts see of a machine as the code keeps it.
use Rattle.std.specs.Prelude.{◌≡◌, None}
use Rattle.armcaps_caps.specs.Set.{holds}
use Rattle.armcaps_caps.specs.Rows.{capability_count}
use Rattle.armcaps_boot.specs.declared.machine.Machine.{Machine}
use Rattle.armcaps_board.specs.declared.event.Event.{Event}
use Rattle.armcaps_boot.specs.Answers.{Answer, live_answer}
use Rattle.armcaps_boot.specs.Changes.{world_after}
use Rattle.armcaps_boot.specs.Facts.{Facts}
use Rattle.armcaps_boot.specs.Numbers.{numbers}
use Rattle.armcaps_boot.specs.World.{World}

-- a machine's parts, with its sets as lists of the numbers' places
abbrev pub world_of : Machine → World
world_of machine = record {
  board = machine.board;
  system = machine.system;
  states = machine.states.items;
  halted = machine.halted;
  final = machine.is_final;
  noted = numbers capability_count (holds machine.noted);
  enabled = numbers capability_count (holds machine.enabled);
  hwcaps = machine.hwcaps;
  final_ctr = machine.final_ctr;
  common_lengths = machine.common_lengths;
  lengths = machine.lengths;
}

-- a machine whose facts hold and that nothing has stopped
pub record CanStep (machine : Machine) : Type 0 where
  pub facts : Facts (world_of machine)
  pub running : machine.halted ≡ None

-- a machine that nothing has stopped makes a step: this is its answer, and what it leaves
pub record IsStepped (old new : Machine) (event : Event) (result : Answer) : Type 0 where
  pub answer : result ≡ live_answer (world_of old) event
  pub after : world_of new ≡ world_after (world_of old) event result
