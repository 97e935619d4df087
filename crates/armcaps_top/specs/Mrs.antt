-- What `mrs CORE WORD` writes: what a program on the core reads by the instruction, or why it reads nothing.
use Rattle.std.specs.Prelude.{ℕ, List, Result, Ok, Err}
use Rattle.armcaps_mrs.specs.declared.read.UserRead.{UserRead}
use Rattle.armcaps_mrs.specs.declared.refused.UserRefused.{UserRefused}
use Rattle.armcaps_mrs.specs.declared.refused.UserRefused.TheVariants.{NotAdmitted, Undefined}
use Rattle.armcaps_report.specs.UserReads.{read_line}
use Rattle.armcaps_report.specs.declared.user_reads.ReadRefused.{ReadRefused}
use Rattle.armcaps_report.specs.declared.user_reads.ReadRefused.TheVariants as read_refused

-- why nothing is read
abbrev pub read_refused_of : ℕ → ℕ → UserRefused → ReadRefused
read_refused_of core word (NotAdmitted state) = read_refused.NotAdmitted core
read_refused_of core word Undefined = read_refused.Undefined word

-- what is written of a read of this instruction on this core that came to this
abbrev pub read_output : ℕ → ℕ → Result UserRead UserRefused → Result (List ℕ) ReadRefused
read_output core word (Ok read) = Ok (read_line read.rt read.value)
read_output core word (Err refused) = Err (read_refused_of core word refused)
