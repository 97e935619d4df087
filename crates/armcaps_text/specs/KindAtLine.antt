-- What can be wrong with a line, by what the lines before it come to. Each kind is asked only where no lower kind
-- holds. Kind 1 is that of line 1, and 2 and 3 are those of a line that has not ended: they stand in Document.
use Rattle.std.specs.Prelude.{ℕ, ◌+◌, ◌*◌, ◌==◌, ◌&&◌, ◌||◌, not, Bool, true, false, nat_lt, nat_le, is_none, if◌then◌else◌, List, [], ◌∷◌, find, length, Option, None, option_map}
use Rattle.std.specs.FinMap.{contains_key}
use Rattle.std.specs.List.{list_any}
use Rattle.std.specs.Option.{option_map_or}
use Rattle.armcaps_board.specs.Order.{is_complete, is_in_turn, is_wrong_finalise}
use Rattle.armcaps_board.specs.Steps.{core_of, first_event, history}
use Rattle.armcaps_enc.specs.Registers.{place_of}
use Rattle.armcaps_text.specs.Before.{Before}
use Rattle.armcaps_text.specs.Meaning.{section_of}
use Rattle.armcaps_text.specs.declared.form.Form.{Form}
use Rattle.armcaps_text.specs.declared.form.Form.TheVariants as form
use Rattle.armcaps_text.specs.declared.format.Format.{Format}
use Rattle.armcaps_text.specs.declared.kind.TextKind.{TextKind}
use Rattle.armcaps_text.specs.declared.kind.TextKind.TheVariants as kind
use Rattle.armcaps_text.specs.declared.line.Line.{Line}
use Rattle.armcaps_text.specs.declared.line.Line.TheVariants as line

-- the line is passed over
abbrev pub is_skipped : Line (List ℕ) → Bool
is_skipped given = elim given [ line.Skipped ↦ true | _ ↦ false ]

-- 4: the first token is no word of the format
abbrev pub is_unknown : Line (List ℕ) → Bool
is_unknown given = elim given [ line.Unknown ↦ true | _ ↦ false ]

-- a second header
abbrev pub is_second_header : Line (List ℕ) → Bool
is_second_header given = elim given [ line.Header ↦ true | _ ↦ false ]

-- sections of which at most one line stands
abbrev pub has_one_line : ℕ → Bool
has_one_line section = list_any (λ one. one == section) (2 ∷ 3 ∷ 6 ∷ 8 ∷ [])

-- a section lower than that of an earlier line; or of a section of one line a second one, after which none of a higher
-- section has stood
abbrev pub is_in_passed_section : Before → Line (List ℕ) → Bool
is_in_passed_section before given =
    nat_lt (section_of given) before.section
    || (has_one_line (section_of given) && (section_of given == before.section))

-- the form tells of the core begun last
abbrev pub is_form_of_core : Form → Bool
is_form_of_core given = elim given [ form.Register reg ↦ true | form.VectorLengths ↦ true | _ ↦ false ]

-- the line tells of the core begun last
abbrev pub tells_of_core : Line (List ℕ) → Bool
tells_of_core given = elim given [
  | line.Register reg word ↦ true
  | line.VectorLengths lengths ↦ true
  | line.Malformed form wrong ↦ is_form_of_core form
  | _ ↦ false
]

-- a line of a core's register or vector lengths, or of the boot core, before any core
abbrev pub lacks_core : Before → Line (List ℕ) → Bool
lacks_core before given = (length before.cores == 0) && (tells_of_core given || (section_of given == 2))

-- a line above section 2 without a boot core
abbrev pub lacks_boot : Before → Line (List ℕ) → Bool
lacks_boot before given = nat_lt 2 (section_of given) && is_none before.boot

-- 5: the line stands where it cannot
abbrev pub is_out_of_order : Before → Line (List ℕ) → Bool
is_out_of_order before given =
    is_second_header given || is_in_passed_section before given || lacks_core before given || lacks_boot before given

-- 6: the number of tokens is not the form's
abbrev pub has_wrong_count : Line (List ℕ) → Bool
has_wrong_count given = elim given [
  | line.Malformed form wrong ↦ elim wrong [ kind.Tokens ↦ true | _ ↦ false ]
  | _ ↦ false
]

-- 7: a token is not a number in its range
abbrev pub has_wrong_number : Line (List ℕ) → Bool
has_wrong_number given = elim given [
  | line.Malformed form wrong ↦ elim wrong [ kind.Number ↦ true | _ ↦ false ]
  | _ ↦ false
]

-- 8: a token is no name of those that the form takes
abbrev pub has_wrong_name : Line (List ℕ) → Bool
has_wrong_name given = elim given [
  | line.Malformed form wrong ↦ elim wrong [ kind.Name ↦ true | _ ↦ false ]
  | _ ↦ false
]

-- 9: a register twice in a core, its vector lengths twice, a number or a callback's offset twice
abbrev pub is_twice : Before → Line (List ℕ) → Bool
is_twice before given = elim given [
  | line.Register reg word ↦ list_any (λ other. place_of other == place_of reg) before.named
  | line.VectorLengths lengths ↦ before.measured
  | line.Number number capability ↦ contains_key before.numbers number
  | line.Given number on ↦ contains_key before.numbers number
  | line.Callback offset kind ↦ contains_key before.callbacks offset
  | _ ↦ false
]

-- 10: a core that is not the next one; a boot core or a step's core that has not begun
abbrev pub has_wrong_core_number : Before → Line (List ℕ) → Bool
has_wrong_core_number before given = elim given [
  | line.Core core ↦ not (core == length before.cores)
  | line.Boot core ↦ not (nat_lt core (length before.cores))
  | line.Step step ↦ option_map_or (λ core. not (nat_lt core (length before.cores))) (core_of (first_event step)) false
  | _ ↦ false
]

-- 11: one core more than the format allows
abbrev pub is_one_core_too_many : Format → Before → Line (List ℕ) → Bool
is_one_core_too_many format before given = elim given [
  | line.Core core ↦ nat_le format.cores (length before.cores)
  | _ ↦ false
]

-- the number is the boot core's
abbrev pub is_boot_core : Before → ℕ → Bool
is_boot_core before core = option_map_or (λ boot. core == boot) before.boot false

-- 12: a step of the boot core
abbrev pub is_boot_step : Before → Line (List ℕ) → Bool
is_boot_step before given = elim given [
  | line.Step step ↦ option_map_or (is_boot_core before) (core_of (first_event step)) false
  | _ ↦ false
]

-- 13: a step that its core cannot make after its last one; of `online`, the check
abbrev pub is_out_of_turn : Before → Line (List ℕ) → Bool
is_out_of_turn before given = elim given [
  | line.Step step ↦ not (is_in_turn (history before.steps) (first_event step))
  | _ ↦ false
]

-- 14: a second `finalise`, or one while a core is on its way up
abbrev pub is_untimely : Before → Line (List ℕ) → Bool
is_untimely before given = elim given [
  | line.Step step ↦ is_wrong_finalise (history before.steps) (first_event step)
  | _ ↦ false
]

-- 15: a section above 4 without `finalise`, or while a core is on its way up
abbrev pub is_incomplete : Before → Line (List ℕ) → Bool
is_incomplete before given = nat_lt 4 (section_of given) && not (is_complete (history before.steps))

-- 16: a command line of more than 2048 bytes
abbrev pub is_command_line_too_long : Line (List ℕ) → Bool
is_command_line_too_long given = elim given [ line.CommandLine text ↦ nat_lt 2048 (length text) | _ ↦ false ]

-- 17: the table of alternatives, of twelve bytes an entry, ends outside the image
abbrev pub is_table_outside : Before → Line (List ℕ) → Bool
is_table_outside before given = elim given [
  | line.Image length ↦ option_map_or (λ layout. nat_lt length (layout.table + 12 * layout.count)) before.layout false
  | _ ↦ false
]

-- whether each kind holds at a line, in rising order
abbrev pub kinds_asked : Format → Before → Line (List ℕ) → List (Bool × TextKind)
kinds_asked format before given =
    (is_unknown given, kind.UnknownLine)
    ∷ (is_out_of_order before given, kind.Order)
    ∷ (has_wrong_count given, kind.Tokens)
    ∷ (has_wrong_number given, kind.Number)
    ∷ (has_wrong_name given, kind.Name)
    ∷ (is_twice before given, kind.Twice)
    ∷ (has_wrong_core_number before given, kind.CoreNumber)
    ∷ (is_one_core_too_many format before given, kind.TooMany)
    ∷ (is_boot_step before given, kind.BootStep)
    ∷ (is_out_of_turn before given, kind.Turn)
    ∷ (is_untimely before given, kind.Finalise)
    ∷ (is_incomplete before given, kind.Incomplete)
    ∷ (is_command_line_too_long given, kind.CmdlineTooLong)
    ∷ (is_table_outside before given, kind.TableOutside)
    ∷ []

-- the first kind that holds
abbrev pub first_true : List (Bool × TextKind) → Option TextKind
first_true asked = option_map (λ (one : Bool × TextKind). one.1) (find (λ (one : Bool × TextKind). one.0) asked)

-- the lowest kind that holds at a line after line 1; a line that is passed over has none
unfoldable pub kind_after : Format → Before → Line (List ℕ) → Option TextKind
kind_after format before given = if is_skipped given then None else first_true (kinds_asked format before given)
