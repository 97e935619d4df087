-- The report of a machine that was brought up: its groups of lines, one after the other. The format is this project's
-- own.
use Rattle.std.specs.Prelude.{ℕ, Bool, List, [], ◌∷◌, ◌++◌, length, codes, slice_get}
use Rattle.std.specs.Option.{option_map_or}
use Rattle.std.specs.List.{flat_map, list_any, range_with_len}
use Rattle.armcaps_enc.specs.declared.register.SysReg.{SysReg}
use Rattle.armcaps_enc.specs.Registers.{tracked}
use Rattle.armcaps_tables.specs.Core.{Core}
use Rattle.armcaps_tables.specs.Overriding.{FieldOverrides}
use Rattle.armcaps_tables.specs.Rows.{rows_of}
use Rattle.armcaps_sanit.specs.Notes.{field_note}
use Rattle.armcaps_sanit.specs.System.{system_word}
use Rattle.armcaps_sanit.specs.Users.{user_word}
use Rattle.armcaps_sanit.specs.Varying.{core_varies}
use Rattle.armcaps_caps.specs.Rows.{capability_count}
use Rattle.armcaps_hwcap.specs.Rows.{hwcap_count}
use Rattle.armcaps_hwcap.specs.Words.{hwcap_word, hwcap2_word}
use Rattle.armcaps_board.specs.Board.{boot_core}
use Rattle.armcaps_boot.specs.Causes.{capability_enabled, hwcap_advertised, is_system_length}
use Rattle.armcaps_boot.specs.Findings.{Findings}
use Rattle.armcaps_boot.specs.World.{admitted_cores, early_cores, state_at}
use Rattle.armcaps_report.specs.declared.group.Group.{Group}
use Rattle.armcaps_report.specs.declared.group.Group.TheVariants.{Header, Cores, Registers, UserWords, Variations, Notes, Capabilities, Hwcaps, VectorLengths, End}
use Rattle.armcaps_report.specs.Lines.{capability_line, core_line, flag_text, length_line, note_line, register_line, user_line, varies_line, word_line}

-- whether some of these cores differs from the boot core in a strict field of the register
abbrev pub varies_among : Core → List Core → SysReg → Bool
varies_among boot cores register = list_any (λ core. core_varies boot core register) cores

-- the line of the field at an index of a register's table
unfoldable pub note_line_at : FieldOverrides → Core → SysReg → ℕ → List ℕ
note_line_at overrides boot register index =
    option_map_or (λ row. note_line register row (field_note overrides boot register index row))
    (slice_get (rows_of register) index) []

-- the lines of a register's fields
abbrev pub note_lines : FieldOverrides → Core → SysReg → List ℕ
note_lines overrides boot register =
    flat_map (note_line_at overrides boot register) (range_with_len 0 (length (rows_of register)))

-- the names of the hwcaps that pass a test
unfoldable pub flags_text : (ℕ → Bool) → List ℕ
flags_text advertised = flat_map (λ index. flag_text (advertised index) index) (range_with_len 0 hwcap_count)

-- the two words of hwcaps, and their names
abbrev pub hwcap_lines : (ℕ → Bool) → List ℕ
hwcap_lines advertised =
    word_line (codes "hwcap") (hwcap_word advertised) ++ word_line (codes "hwcap2") (hwcap2_word advertised)
    ++ codes "flags" ++ flags_text advertised ++ 10 ∷ []

-- what became of each core
abbrev pub core_lines : Findings → List ℕ
core_lines found =
    flat_map (λ number. core_line found.board.boot number (state_at found.states number))
    (range_with_len 0 (length found.board.cores))

-- the system registers, over the cores that were ever admitted
abbrev pub register_lines : Findings → List ℕ
register_lines found =
    flat_map (λ register. register_line register
    (system_word found.board.overrides (admitted_cores found.board found.states) register)) tracked

-- the registers as users see them, over the cores that were ever admitted
abbrev pub user_lines : Findings → List ℕ
user_lines found =
    flat_map (λ register. user_line register
    (user_word found.board.overrides (admitted_cores found.board found.states) register)) tracked

-- the registers in which some such core differs from the boot core
abbrev pub varies_lines : Findings → List ℕ
varies_lines found =
    flat_map (λ register. varies_line register
    (varies_among (boot_core found.board) (admitted_cores found.board found.states) register)) tracked

-- what the overrides of all fields came to
abbrev pub all_note_lines : Findings → List ℕ
all_note_lines found = flat_map (note_lines found.board.overrides (boot_core found.board)) tracked

-- the capabilities that are enabled
unfoldable pub capability_lines : Findings → List ℕ
capability_lines found =
    flat_map (λ number. capability_line
    (capability_enabled found.board (early_cores found.board found.states) number) number)
    (range_with_len 0 capability_count)

-- the vector lengths that programs are told of
unfoldable pub length_lines : Findings → List ℕ
length_lines found =
    flat_map (λ length. length_line (is_system_length found.board (early_cores found.board found.states) length) length)
    (range_with_len 1 16)

-- each group
unfoldable pub group_text : Findings → Group → List ℕ
group_text found Header = codes "armcaps report 1\n"
group_text found Cores = core_lines found
group_text found Registers = register_lines found
group_text found UserWords = user_lines found
group_text found Variations = varies_lines found
group_text found Notes = all_note_lines found
group_text found Capabilities = capability_lines found
group_text found Hwcaps = hwcap_lines (hwcap_advertised found.board (early_cores found.board found.states))
group_text found VectorLengths = length_lines found
group_text found End = codes "end\n"

-- the groups in their order
abbrev pub groups : List Group
groups = Header ∷ Cores ∷ Registers ∷ UserWords ∷ Variations ∷ Notes ∷ Capabilities ∷ Hwcaps ∷ VectorLengths ∷ End ∷ []

-- the report
unfoldable pub report_of : Findings → List ℕ
report_of found = flat_map (group_text found) groups
