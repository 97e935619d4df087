-- What a run does with its words, its input and its streams. Words, statuses and limits are this project's own.
use Rattle.std.specs.Prelude.{◌≡◌, ◌≢◌, ◌↔◌, ◌⊎◌, ◌≤◌, ◌+◌, ℕ, Bool, true, false, nat_lt, List, [], ◌∷◌, Option, None, Some, Err, IfSome, is_some}
use Rattle.std.specs.List.{list_any}
use Rattle.std.specs.Prelude.{nat_eq}
use Rattle.std.specs.Result.{IsOkAnd}
use Rattle.armcaps_io.specs.Causes.{Rose}
use Rattle.armcaps_io.specs.Streams.{Appends, AppendsPrefix, GivesAtMost, GivesCount, Keeps}
use Rattle.armcaps_boot.specs.ParkOrPanic.{steps_made}
use Rattle.armcaps_boot.specs.After.{IsAfter}
use Rattle.armcaps_boot.specs.Outcome.{IsSafe}
use Rattle.armcaps_boot.specs.World.{World}
use Rattle.armcaps_top.specs.Answer.{Answer, answer_for, halt_in, refused, steps_of}
use Rattle.armcaps_top.specs.Document.{Document}
use Rattle.armcaps_top.specs.Statuses.{output_status, status_of}
use Rattle.armcaps_top.specs.ErrorLines.{Tells}
use Rattle.armcaps_top.specs.declared.commands.Command.{Command}
use Rattle.armcaps_top.specs.declared.commands.Command.TheVariants.{Ask, Patch, Elf, Jump, Pool, Audit, Demo}
use Rattle.armcaps_top.specs.declared.commands.Query.TheVariants.{Report, Mrs, Trace}
use Rattle.armcaps_top.specs.declared.ending.Ending.{Ending}
use Rattle.armcaps_top.specs.declared.ending.Ending.TheVariants.{Done, ReadFault, WriteFault, Memory, NoOutput}
use Rattle.armcaps_top.specs.declared.reason.Reason.TheVariants.{Refused}
use Rattle.armcaps_top.specs.declared.refusal.Refusal.{Refusal}
use Rattle.armcaps_top.specs.declared.refusal.Refusal.TheVariants.{TooLong}

-- of its input a command reads at most so many bytes: one more than the greatest limit, which is that of format 2, or
-- under `pool` and `audit` than their own; nothing where the words are no form, and nothing under `demo`
abbrev pub most_read : Option Command → ℕ
most_read None = 0
most_read (Some (Ask query)) = 537919489
most_read (Some Patch) = 537919489
most_read (Some (Jump table count)) = 537919489
most_read (Some Elf) = 537919489
most_read (Some Pool) = 67108865
most_read (Some Audit) = 269484033
most_read (Some (Demo seed cores)) = 0

-- the command reads its input
abbrev pub reads_input : Option Command → Bool
reads_input command = nat_lt 0 (most_read command)

-- the statuses that can come under a command
abbrev pub statuses_of : Option Command → List ℕ
statuses_of None = 2 ∷ []
statuses_of (Some (Ask Report)) = 0 ∷ 3 ∷ 4 ∷ 5 ∷ 6 ∷ 7 ∷ []
statuses_of (Some (Ask Trace)) = 0 ∷ 3 ∷ 4 ∷ 5 ∷ 6 ∷ 7 ∷ []
statuses_of (Some (Ask (Mrs core word))) = 0 ∷ 3 ∷ 4 ∷ 5 ∷ 6 ∷ 7 ∷ 9 ∷ []
statuses_of (Some Patch) = 0 ∷ 3 ∷ 4 ∷ 5 ∷ 6 ∷ 7 ∷ 8 ∷ []
statuses_of (Some (Jump table count)) = 0 ∷ 3 ∷ 4 ∷ 5 ∷ 6 ∷ 7 ∷ 8 ∷ 11 ∷ []
statuses_of (Some Elf) = 0 ∷ 3 ∷ 4 ∷ 5 ∷ 6 ∷ 7 ∷ 8 ∷ 10 ∷ []
statuses_of (Some Pool) = 0 ∷ 3 ∷ 4 ∷ 5 ∷ 6 ∷ 7 ∷ []
statuses_of (Some Audit) = 0 ∷ 3 ∷ 4 ∷ 5 ∷ 6 ∷ 7 ∷ 8 ∷ 12 ∷ []
statuses_of (Some (Demo seed cores)) = 0 ∷ 5 ∷ 6 ∷ []

-- the status can come under the command
abbrev pub can_end : Option Command → ℕ → Bool
can_end command status = list_any (nat_eq status) (statuses_of command)

-- a stream before and after a call: its bytes, where it tells them, and how often it failed
pub record Change : Type 0 where
  pub old : Option (List ℕ)
  pub new : Option (List ℕ)
  pub before : ℕ
  pub now : ℕ

-- what changed of a stream that was this and is that
abbrev pub change : {A : Type 0} → (A → Option (List ℕ)) → (A → ℕ) → A → A → Change
change bytes faults old new = record { old = bytes old; new = bytes new; before = faults old; now = faults new }

-- what is written was added to the output whole
abbrev pub Writes : Answer → Change → Type 0
Writes answer out = IsOkAnd answer.output (Appends out.old out.new)

-- a first part of what is written was added to the output
abbrev pub WritesPrefix : Answer → Change → Type 0
WritesPrefix answer out = IsOkAnd answer.output (AppendsPrefix out.old out.new)

-- these are the bytes of an input that is read, where it tells them
abbrev pub AreBytesOf : Option Command → Change → List ℕ → Type 0
AreBytesOf command input bytes = reads_input command ≡ true → IfSome input.old (λ told. bytes ≡ told)

-- an input that is read was read to its end
abbrev pub IsReadWhole : Option Command → Change → Type 0
IsReadWhole command input = reads_input command ≡ true → IfSome input.old (λ told. input.new ≡ Some [])

-- an input that is read failed in this call
abbrev pub ReadFails : Option Command → Change → Type 0
ReadFails command input = (reads_input command ≡ true) × Rose input.before input.now

-- why a run ends so under a command that makes this of its input
abbrev pub EndsSo : Option Command → Answer → Change → Change → Ending → Type 0
EndsSo command answer input out Done = Writes answer out × IsReadWhole command input
EndsSo command answer input out ReadFault = ReadFails command input
EndsSo command answer input out WriteFault = Rose out.before out.now × WritesPrefix answer out
EndsSo command answer input out Memory = Unit {0}
EndsSo command answer input out (NoOutput reason) = answer.output ≡ Err reason

-- the machine of a document: its steps were made in their order, up to one that stopped it
abbrev pub IsMachineOf : Document → World → Type 0
IsMachineOf found world = IsAfter found.reading.board (steps_made found.reading.board (steps_of found)) world

-- these are the machines of these documents, one for one and in their order
abbrev pub AreMachinesOf : List Document → List World → Type 0
AreMachinesOf [] [] = Unit {0}
AreMachinesOf [] (world ∷ others) = ⊥
AreMachinesOf (found ∷ more) [] = ⊥
AreMachinesOf (found ∷ more) (world ∷ others) = IsMachineOf found world × AreMachinesOf more others

-- of each document: each system feature that is enabled is had by every admitted core, each workaround that an
-- admitted core needs is enabled, and a core with steps is admitted, or parked by its first cause
abbrev pub AreSafe : List Document → Type 0
AreSafe [] = Unit {0}
AreSafe (found ∷ more) = IsSafe found.reading.board (steps_of found) × AreSafe more

-- a step of one of the documents stops its machine
abbrev pub is_some_stopped : List Document → Bool
is_some_stopped machines = list_any (λ found. is_some (halt_in found)) machines

-- the input is refused, and brings no machine up
abbrev pub IsRefused : Answer → Type 0
IsRefused answer = (refusal : Refusal) × (answer ≡ refused refusal)

-- what a run promises of a command, its input, the output and the error stream, the machines that it leaves, and its
-- status; no command where the words are no form of one
pub record Promises (command : Option Command) (input out err : Change) (machines : List World) (status : ℕ)
    : Type 0 where
  -- the bytes of the input, which the command works on
  pub bytes : List ℕ
  pub told_bytes : AreBytesOf command input bytes
  -- there is an ending whose status and reason these are, and whose line the error stream got
  pub ending : Ending
  pub status_is : status ≡ status_of ending
  pub reason : EndsSo command (answer_for command bytes) input out ending
  pub told : Tells ending err.old err.new err.before err.now
  -- only these statuses come, and 2 just where the words are no form
  pub statuses : can_end command status ≡ true
  pub usage : (status ≡ 2) ↔ (command ≡ None)
  -- the output got what the command writes, and nothing else; an input that is read was read whole; and what can be
  -- relied on
  pub done : status ≡ 0 → Writes (answer_for command bytes) out × IsReadWhole command input
  pub safe : status ≡ 0 → AreSafe (answer_for command bytes).machines
  -- the input is refused
  pub refused : status ≡ 3 → IsRefused (answer_for command bytes)
  -- of an input that is refused for its length, one byte past the limit was read
  pub too_long : (limit : ℕ) → ending ≡ NoOutput (Refused (TooLong limit)) → GivesCount input.old input.new (limit + 1)
  -- the input failed in this call; or the output, which got a first part of what the command writes
  pub read_fault : status ≡ 4 → ReadFails command input
  pub write_fault : status ≡ 5 → Rose out.before out.now × WritesPrefix (answer_for command bytes) out
  -- a step stops a machine
  pub stopped : status ≡ 7 → is_some_stopped (answer_for command bytes).machines ≡ true
  -- in every status but 0 and 5 the output got nothing
  pub silent : status ≢ 0 → status ≢ 5 → Keeps out.old out.new
  -- an input that is not read is as it was, and of none more is read than the command may
  pub unread : reads_input command ≡ false → Keeps input.old input.new
  pub read_at_most : GivesAtMost input.old input.new (most_read command)
  -- the machines that are left are those that the command brings up; there are none in the statuses 2 to 4
  pub machines_are : status ≢ 4 → status ≢ 6 → AreMachinesOf (answer_for command bytes).machines machines
  pub no_machine : 2 ≤ status → status ≤ 4 → machines ≡ []
  -- each status but 4, 5 and 6 is that of what the command writes, or of the reason why it writes nothing
  pub judged : status ≢ 4 → status ≢ 5 → status ≢ 6 → status ≡ output_status (answer_for command bytes).output
  -- and it is so where neither the output failed nor an input that is read, unless there was no memory
  pub exact : ¬ ReadFails command input → ¬ Rose out.before out.now
      → (status ≡ output_status (answer_for command bytes).output) ⊎ (status ≡ 6)
