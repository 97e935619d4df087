-- What the parts of a run promise each other.
use Rattle.std.specs.Prelude.{◌≡◌, ◌≢◌, ◌+◌, ◌*◌, ◌^◌, ℕ, ◌<◌, ◌≤◌, true, false, List, [], length, ◌∷◌, ◌++◌, Option, Some, None, Result, Ok, Err, IfSome, IfOk, IfErr}
use Rattle.std.specs.List.{AllZip}
use Rattle.armcaps_alt.specs.Entries.{Features, selected_of}
use Rattle.armcaps_alt.specs.Refusals.{first_refusal}
use Rattle.armcaps_alt.specs.declared.table_place.Layout.{Layout}
use Rattle.armcaps_boot.specs.declared.park_or_panic.Halt.{Halt}
use Rattle.armcaps_board.specs.Steps.{history}
use Rattle.armcaps_boot.specs.ParkOrPanic.{halt_of, steps_made}
use Rattle.armcaps_boot.specs.After.{IsAfter}
use Rattle.armcaps_boot.specs.Findings.{findings_after, findings_of}
use Rattle.armcaps_boot.specs.Outcome.{IsSafe}
use Rattle.armcaps_boot.specs.World.{World}
use Rattle.armcaps_io.specs.Causes.{Rose}
use Rattle.armcaps_io.specs.Streams.{GivesAtMost, GivesCount, Keeps}
use Rattle.armcaps_patch.specs.Counting.{words_of_sites}
use Rattle.armcaps_report.specs.Settled.{AreSettled}
use Rattle.armcaps_text.specs.Document.{Reading}
use Rattle.armcaps_text.specs.Formats.{format_of}
use Rattle.armcaps_text.specs.Sound.{IsSound}
use Rattle.armcaps_top.specs.Answer.{Answer, answer_of, of_document, unless_stopped}
use Rattle.armcaps_top.specs.Demo.{words_covered}
use Rattle.armcaps_top.specs.Document.{document}
use Rattle.armcaps_top.specs.Run.{AreBytesOf, AreMachinesOf, AreSafe, Change, EndsSo, IsReadWhole, ReadFails, most_read, reads_input}
use Rattle.armcaps_top.specs.declared.commands.Command.{Command}
use Rattle.armcaps_top.specs.declared.commands.Command.TheVariants.{Pool, Audit, Demo}
use Rattle.armcaps_top.specs.declared.ending.Ending.{Ending}
use Rattle.armcaps_top.specs.declared.ending.Ending.TheVariants.{Done, ReadFault, WriteFault, Memory, NoOutput}
use Rattle.armcaps_top.specs.declared.reason.Reason.{Reason}
use Rattle.armcaps_top.specs.declared.reason.Reason.TheVariants.{Refused, Panicked, MachinePanicked}
use Rattle.armcaps_top.specs.declared.refusal.Refusal.{Refusal}
use Rattle.armcaps_top.specs.declared.refusal.Refusal.TheVariants.{TooLong}

-- the cores of `demo` are 1 to 64
abbrev pub AreCoresGiven : Option Command → Type 0
AreCoresGiven (Some (Demo seed cores)) = (1 ≤ cores) × (cores ≤ 64)
AreCoresGiven _ = Unit {0}

-- the source failed, or there was no memory
abbrev pub IsFailure : ℕ → ℕ → Ending → Type 0
IsFailure before now ReadFault = Rose before now
IsFailure before now Memory = Unit {0}
IsFailure before now _ = ⊥

-- what an input is read as refuses it so
abbrev pub IsRefusedSo : {A : Type 0} → Result A Refusal → Ending → Type 0
IsRefusedSo read (NoOutput (Refused refusal)) = read ≡ Err refusal
IsRefusedSo read Memory = Unit {0}
IsRefusedSo read _ = ⊥

-- the bytes of an input, which are those that it tells, are no document
pub record IsNoDocument (input : Option (List ℕ)) (refusal : Refusal) : Type 0 where
  pub bytes : List ℕ
  pub told : IfSome input (λ told. bytes ≡ told)
  pub is : document bytes ≡ Err refusal

-- the bytes of an input, which are those that it tells, are more than a limit
pub record IsLonger (input : Option (List ℕ)) (limit : ℕ) : Type 0 where
  pub bytes : List ℕ
  pub told : IfSome input (λ told. bytes ≡ told)
  pub longer : limit < length bytes

-- why an input that has a limit was not read whole
abbrev pub IsUnreadPast : ℕ → Option (List ℕ) → ℕ → ℕ → Ending → Type 0
IsUnreadPast limit input before now (NoOutput (Refused (TooLong most))) = (most ≡ limit) × IsLonger input limit
IsUnreadPast limit input before now ReadFault = Rose before now
IsUnreadPast limit input before now Memory = Unit {0}
IsUnreadPast limit input before now _ = ⊥

-- the most bytes of an input that a command works on, by the input's format, or under `pool` and `audit` in both
-- formats
abbrev pub limit_of : Command → List ℕ → ℕ
limit_of Pool input = 67108864
limit_of Audit input = 269484032
limit_of _ input = (format_of input).input

-- why an input was not read whole
abbrev pub IsUnread : Option (List ℕ) → ℕ → ℕ → Ending → Type 0
IsUnread input before now (NoOutput (Refused refusal)) = IsNoDocument input refusal
IsUnread input before now ReadFault = Rose before now
IsUnread input before now Memory = Unit {0}
IsUnread input before now _ = ⊥

-- the run ends so in place of an output, unless memory ran out
abbrev pub IsInstead : Result (List ℕ) Reason → Ending → Type 0
IsInstead output Memory = Unit {0}
IsInstead output (NoOutput reason) = output ≡ Err reason
IsInstead output _ = ⊥

-- the run ends so for this reason, if there is one, unless memory ran out
abbrev pub IsWhy : Option Reason → Ending → Type 0
IsWhy why Memory = Unit {0}
IsWhy why (NoOutput reason) = why ≡ Some reason
IsWhy why _ = ⊥

-- how a run ends that brings up several machines, where the one of this number would end it so alone
abbrev pub ending_of_machine : ℕ → Ending → Ending
ending_of_machine number (NoOutput (Panicked halt)) = NoOutput (MachinePanicked number halt)
ending_of_machine number ending = ending

-- the machine of a reading, all of whose steps were made, and none of which stopped it
pub record IsThrough (reading : Reading) (world : World) : Type 0 where
  pub machine : IsAfter reading.board (steps_made reading.board (history reading.steps)) world
  pub going : halt_of reading.board (history reading.steps) ≡ None
  pub safe : IsSafe reading.board (history reading.steps)
  pub found : findings_of world ≡ findings_after reading.board (history reading.steps)
  pub final : world.final ≡ true
  pub settled : AreSettled world.states

-- the machines of these readings, one for one and in their order, all of whose steps were made, none of which stopped
-- its machine
abbrev pub AreThrough : List Reading → List World → Type 0
AreThrough readings machines = AllZip IsThrough readings machines

-- the machine of a reading was brought up whole, and is left after those that were there
pub record IsUp (reading : Reading) (old new : List World) : Type 0 where
  pub world : World
  pub left : new ≡ old ++ world ∷ []
  pub through : IsThrough reading world

-- the machine of a reading was brought up to the step that stopped it so, and is left after those that were there
pub record IsHalted (reading : Reading) (reason : Reason) (old new : List World) : Type 0 where
  pub world : World
  pub left : new ≡ old ++ world ∷ []
  pub machine : IsAfter reading.board (steps_made reading.board (history reading.steps)) world
  pub stopped : (output : Result (List ℕ) Reason)
      → unless_stopped (halt_of reading.board (history reading.steps)) output ≡ Err reason

-- what stopped a machine, as it is answered
abbrev pub IsHaltOf : Option Halt → Result (Unit {0}) Ending → Type 0
IsHaltOf halt (Ok done) = halt ≡ None
IsHaltOf halt (Err (NoOutput (Panicked stop))) = halt ≡ Some stop
IsHaltOf halt (Err Memory) = Unit {0}
IsHaltOf halt _ = ⊥

-- why a machine was not brought up whole
abbrev pub IsNotUp : Reading → List World → List World → Ending → Type 0
IsNotUp reading old new (NoOutput reason) = IsHalted reading reason old new
IsNotUp reading old new Memory = Unit {0}
IsNotUp reading old new _ = ⊥

-- an input was read to its end, if the command reads it, and these are its bytes
pub record IsRead (command : Command) (input : Change) (bytes : List ℕ) : Type 0 where
  pub told_bytes : AreBytesOf (Some command) input bytes
  pub whole : IsReadWhole (Some command) input

-- bytes that came of an input, which are all that it tells, are refused by the command for this reason
pub record IsNotTaken (command : Command) (input : Change) (reason : Reason) : Type 0 where
  pub bytes : List ℕ
  pub told_bytes : AreBytesOf (Some command) input bytes
  pub refused : answer_of command bytes ≡ record { machines = []; output = Err reason }

-- why an input was not read whole
abbrev pub IsNotRead : Command → Change → Ending → Type 0
IsNotRead command input (NoOutput reason) = IsNotTaken command input reason
IsNotRead command input ReadFault = ReadFails (Some command) input
IsNotRead command input Memory = Unit {0}
IsNotRead command input _ = ⊥

-- what is made of an answer before it is written: its output, or how the run ends; its machines are left
pub record Comes (answer : Answer) (machines : List World) (made : Result (List ℕ) Ending) : Type 0 where
  pub output : IfOk made (λ text. answer.output ≡ Ok text)
  pub instead : IfErr made (IsInstead answer.output)
  pub machines_are : made ≢ Err Memory → AreMachinesOf answer.machines machines
  pub safe : IfOk made (λ text. AreSafe answer.machines)

-- the bytes of what was made, where something was
abbrev pub as_bytes : {A : Type 0} → (A → List ℕ) → Result A Ending → Result (List ℕ) Ending
as_bytes bytes (Ok made) = Ok (bytes made)
as_bytes bytes (Err ending) = Err ending

-- a sound reading whose machine is brought up where there is none
pub record IsReady (reading : Reading) (machines : List World) : Type 0 where
  pub sound : IsSound reading
  pub none : machines ≡ []

-- what is counted of an image: its table lies within it, no entry of it is refused, and no two selected sites overlap
pub record IsCountable (features : Features) (image : List ℕ) (layout : Layout) : Type 0 where
  pub size : length image ≤ 2 ^ 29
  pub table : layout.table + 12 * layout.count ≤ length image
  pub accepted : first_refusal features image layout ≡ None
  pub apart : let selected = selected_of features image layout in
      words_covered image selected ≡ words_of_sites selected

-- what is made of a reading under a query, whose document may have any image
abbrev pub Answers : Command → Reading → List World → Result (List ℕ) Ending → Type 0
Answers command reading machines made =
    (image : List ℕ) → Comes (of_document command (Ok (record { reading = reading; image = image }))) machines made

-- what became of an answer: how it was written, or how the run ends in its place
pub record Ends (command : Command) (answer : Answer) (out : Change) (machines : List World) (ending : Ending)
    : Type 0 where
  pub so : (input : Change) → IsReadWhole (Some command) input → EndsSo (Some command) answer input out ending
  pub read : ending ≢ ReadFault
  pub safe : ending ≡ Done → AreSafe answer.machines
  pub silent : ending ≢ Done → ending ≢ WriteFault → Keeps out.old out.new
  pub machines_are : ending ≢ Memory → AreMachinesOf answer.machines machines

-- what a command does that ends so
pub record Performs (command : Command) (input out : Change) (machines : List World) (ending : Ending) : Type 0 where
  pub bytes : List ℕ
  pub told_bytes : AreBytesOf (Some command) input bytes
  pub reason : EndsSo (Some command) (answer_of command bytes) input out ending
  pub safe : ending ≡ Done → AreSafe (answer_of command bytes).machines
  pub too_long : (limit : ℕ) → ending ≡ NoOutput (Refused (TooLong limit)) → GivesCount input.old input.new (limit + 1)
  pub silent : ending ≢ Done → ending ≢ WriteFault → Keeps out.old out.new
  pub unread : reads_input (Some command) ≡ false → Keeps input.old input.new
  pub read_at_most : GivesAtMost input.old input.new (most_read (Some command))
  pub machines_are : ending ≢ ReadFault → ending ≢ Memory → AreMachinesOf (answer_of command bytes).machines machines
  pub no_machine : ending ≡ ReadFault → machines ≡ []
