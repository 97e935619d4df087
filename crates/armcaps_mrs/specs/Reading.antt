-- What programs of users get that read an ID register (Linux, arch/arm64/kernel/cpufeature.c, `is_emulated`,
-- `emulate_id_reg` and `emulate_sys_reg`). Which registers these are is this project's own: Linux emulates CRm 2 and
-- 3 too, the AArch32 ID registers and MVFR, and CRm 1 to 3 are left out here.
use Rattle.std.specs.Prelude.{ℕ, ◌/◌, ◌%◌, ◌^◌, ◌==◌, ◌&&◌, ◌||◌, Bool, if◌then◌else◌, nat_le, Option, Some, None, Result, Ok, Err, slice_get}
use Rattle.std.specs.Option.{option_and_then, option_map}
use Rattle.armcaps_enc.specs.declared.mrs_word.MrsWord.{MrsWord}
use Rattle.armcaps_enc.specs.declared.register.SysReg.{SysReg}
use Rattle.armcaps_enc.specs.declared.register.SysReg.TheVariants.{MidrEl1, MpidrEl1, RevidrEl1}
use Rattle.armcaps_enc.specs.IdReads.{id_read}
use Rattle.armcaps_enc.specs.Registers.{register_numbered}
use Rattle.armcaps_tables.specs.Core.{core_word}
use Rattle.armcaps_sanit.specs.Users.{user_word}
use Rattle.armcaps_boot.specs.declared.core_state.CoreState.{CoreState}
use Rattle.armcaps_boot.specs.declared.core_state.CoreState.TheVariants.{Admitted}
use Rattle.armcaps_board.specs.Board.{core_at}
use Rattle.armcaps_boot.specs.Findings.{Findings}
use Rattle.armcaps_boot.specs.World.{admitted_cores}
use Rattle.armcaps_mrs.specs.declared.refused.UserRefused.{UserRefused}
use Rattle.armcaps_mrs.specs.declared.refused.UserRefused.TheVariants.{NotAdmitted, Undefined}
use Rattle.armcaps_mrs.specs.declared.read.UserRead.{UserRead}

-- whether a read of the register with these CRn, CRm and op2 is emulated: CRn is 0, and CRm is 4 to 7, or else 0
-- where op2 is that of MIDR, MPIDR or REVIDR
abbrev pub is_emulated : ℕ → ℕ → ℕ → Bool
is_emulated crn crm op2 =
    crn == 0 && ((nat_le 4 crm && nat_le crm 7) || (crm == 0 && (op2 == 0 || op2 == 5 || op2 == 6)))

-- whether a read of the register that has this number is emulated, by its CRn, CRm and op2
abbrev pub is_emulated_number : ℕ → Bool
is_emulated_number id = is_emulated (id / 2 ^ 12 % 2 ^ 4) (id / 2 ^ 8 % 2 ^ 4) (id / 2 ^ 5 % 2 ^ 3)

-- what a core reads from a register: its own MIDR, a fixed MPIDR and REVIDR, what all cores that were ever admitted
-- show to users of a register that has fields, and 0 where there is no register
unfoldable pub value_read : Findings → ℕ → Option SysReg → ℕ
value_read found core (Some MidrEl1) = core_word (core_at found.board.cores core) MidrEl1
value_read found core (Some MpidrEl1) = 2 ^ 31
value_read found core (Some RevidrEl1) = 0
value_read found core (Some register) =
    user_word found.board.overrides (admitted_cores found.board found.states) register
value_read found core None = 0

-- what an instruction word reads, where its read is emulated
abbrev pub emulated_word : ℕ → Option MrsWord
emulated_word word = option_and_then (λ read. if is_emulated_number read.id then Some read else None) (id_read word)

-- what a core gets
abbrev pub read_by : Findings → ℕ → MrsWord → UserRead
read_by found core read = record { rt = read.rt; value = value_read found core (register_numbered read.id) }

-- a core that runs reads; in every other state it is refused, whatever the word
abbrev pub judged : Option CoreState → Option UserRead → Result UserRead UserRefused
judged (Some (Admitted late)) (Some read) = Ok read
judged (Some (Admitted late)) None = Err Undefined
judged state read = Err (NotAdmitted state)

-- what a read of a user's program comes to, by the core's number and the instruction word
unfoldable pub user_read : Findings → ℕ → ℕ → Result UserRead UserRefused
user_read found core word = judged (slice_get found.states core) (option_map (read_by found core) (emulated_word word))
