-- The status of each ending of a run. Statuses are this project's own.
use Rattle.std.specs.Prelude.{ℕ, List, Result, Ok, Err}
use Rattle.armcaps_top.specs.declared.ending.Ending.{Ending}
use Rattle.armcaps_top.specs.declared.ending.Ending.TheVariants.{Done, ReadFault, WriteFault, Memory, NoOutput}
use Rattle.armcaps_top.specs.declared.reason.Reason.{Reason}
use Rattle.armcaps_top.specs.declared.reason.Reason.TheVariants.{Usage, Refused, Panicked, MachinePanicked, NotRead, NotPatched, NotElf, NotLoaded, NotJumped, Differs}

-- the status of a reason why nothing is written
abbrev pub reason_status : Reason → ℕ
reason_status Usage = 2
reason_status (Refused refusal) = 3
reason_status (Panicked halt) = 7
reason_status (MachinePanicked machine halt) = 7
reason_status (NotPatched entry kind) = 8
reason_status (NotRead refused) = 9
reason_status (NotJumped refused) = 11
reason_status (NotElf kind) = 10
reason_status (NotLoaded entry kind) = 10
reason_status (Differs place) = 12

-- the status that the process ends with
abbrev pub status_of : Ending → ℕ
status_of Done = 0
status_of ReadFault = 4
status_of WriteFault = 5
status_of Memory = 6
status_of (NoOutput reason) = reason_status reason

-- the status of what a command writes, or of the reason why it writes nothing
abbrev pub output_status : Result (List ℕ) Reason → ℕ
output_status (Ok output) = 0
output_status (Err reason) = reason_status reason
