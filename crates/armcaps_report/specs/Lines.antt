-- The lines of a report. Each ends with a line feed.
use Rattle.std.specs.Prelude.{ℕ, ◌*◌, ◌==◌, Bool, if◌then◌else◌, List, [], ◌∷◌, ◌++◌, codes}
use Rattle.std.specs.Fmt.{decimal}
use Rattle.armcaps_enc.specs.declared.register.SysReg.{SysReg}
use Rattle.armcaps_enc.specs.Registers.{name_of, short_name_of}
use Rattle.armcaps_tables.specs.Row.{Row}
use Rattle.armcaps_sanit.specs.declared.noted.Note.{Note}
use Rattle.armcaps_sanit.specs.declared.noted.Note.TheVariants as note
use Rattle.armcaps_boot.specs.declared.core_state.CoreState.{CoreState}
use Rattle.armcaps_boot.specs.declared.core_state.CoreState.TheVariants.{Absent, Admitted, Offline, Parked}
use Rattle.armcaps_hwcap.specs.Hwcaps.{hwcap_name}
use Rattle.armcaps_report.specs.Texts.{capability_text, cause_text, word_text}

-- whether a core first came after finalisation or before it
abbrev pub time_text : Bool → List ℕ
time_text late = if late then codes "late" else codes "early"

-- what became of a core; none that is on its way up or stopped the machine is reported
unfoldable pub state_text : CoreState → List ℕ
state_text Absent = codes "absent"
state_text (Admitted late) = time_text late
state_text (Offline late) = time_text late ++ codes " offline"
state_text (Parked cause) = codes "parked " ++ cause_text cause
state_text _ = []

-- the line of a core
unfoldable pub core_line : ℕ → ℕ → CoreState → List ℕ
core_line boot number state =
    codes "core " ++ decimal number ++ codes " "
    ++ (if number == boot then codes "boot" else state_text state) ++ 10 ∷ []

-- the line of a system register
abbrev pub register_line : SysReg → ℕ → List ℕ
register_line register word = codes "reg " ++ name_of register ++ codes " " ++ word_text word ++ 10 ∷ []

-- the line of a register as users see it
abbrev pub user_line : SysReg → ℕ → List ℕ
user_line register word = codes "user " ++ name_of register ++ codes " " ++ word_text word ++ 10 ∷ []

-- the line of a register, where it varies
abbrev pub varies_line : SysReg → Bool → List ℕ
varies_line register varies = if varies then codes "varies " ++ name_of register ++ 10 ∷ [] else []

-- the line of a field: what its override came to on the boot core; nothing where it has none
abbrev pub note_line : SysReg → Row → Note → List ℕ
note_line register row note.None = []
note_line register row note.Forced =
    codes "note " ++ short_name_of register ++ codes "." ++ row.name ++ codes " forced\n"
note_line register row note.Ignored =
    codes "note " ++ short_name_of register ++ codes "." ++ row.name ++ codes " ignored\n"
note_line register row note.Already =
    codes "note " ++ short_name_of register ++ codes "." ++ row.name ++ codes " already\n"

-- the line of a capability, where it is enabled
abbrev pub capability_line : Bool → ℕ → List ℕ
capability_line enabled number = if enabled then capability_text number ++ 10 ∷ [] else []

-- the line of a word of hwcaps
unfoldable pub word_line : List ℕ → ℕ → List ℕ
word_line name word = name ++ codes " " ++ word_text word ++ 10 ∷ []

-- the name of a hwcap after a space, where it is advertised
abbrev pub flag_text : Bool → ℕ → List ℕ
flag_text advertised index = if advertised then codes " " ++ hwcap_name index else []

-- the line of a vector length, where programs are told of it
abbrev pub length_line : Bool → ℕ → List ℕ
length_line told length = if told then codes "vl " ++ decimal (128 * length) ++ 10 ∷ [] else []
