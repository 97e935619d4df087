-- What the lines before a line come to. Where lines give one thing more than once, the last of them counts; such a
-- text is refused at the second.
use Rattle.std.specs.Prelude.{ℕ, ◌==◌, max, Bool, true, false, if◌then◌else◌, List, [], map, fold, filter_map, drop, reverse, Option, Some, None, unwrap_or}
use Rattle.std.specs.FinMap.{FinMap, from_entries}
use Rattle.std.specs.List.{list_any, slice_split, last_or}
use Rattle.std.specs.Option.{option_or}
use Rattle.std.specs.Ordering.{nat_cmp}
use Rattle.armcaps_alt.specs.declared.callback_kind.CallbackKind.{CallbackKind}
use Rattle.armcaps_alt.specs.declared.named_number.Named.{Named}
use Rattle.armcaps_alt.specs.declared.named_number.Named.TheVariants as named
use Rattle.armcaps_alt.specs.declared.smccc_conduit.Conduit.{Conduit}
use Rattle.armcaps_alt.specs.declared.table_place.Layout.{Layout}
use Rattle.armcaps_enc.specs.declared.register.SysReg.{SysReg}
use Rattle.armcaps_enc.specs.Registers.{place_of, registers}
use Rattle.armcaps_tables.specs.Core.{Core}
use Rattle.armcaps_text.specs.Meaning.{section_of}
use Rattle.armcaps_text.specs.declared.line.Line.{Line}
use Rattle.armcaps_text.specs.declared.line.Line.TheVariants as line
use Rattle.armcaps_board.specs.declared.step_line.StepLine.{StepLine}

-- the line begins a core
abbrev pub is_core : Line (List ℕ) → Bool
is_core given = elim given [ line.Core core ↦ true | _ ↦ false ]

-- the register that the line gives a word to
abbrev pub register_given : Line (List ℕ) → Option SysReg
register_given given = elim given [ line.Register reg word ↦ Some reg | _ ↦ None ]

-- the word that the line gives to the register at this place
abbrev pub word_given : ℕ → Line (List ℕ) → Option ℕ
word_given place given = elim given [
  | line.Register reg word ↦ if place_of reg == place then Some word else None
  | _ ↦ None
]

-- the vector lengths that the line gives
abbrev pub lengths_given : Line (List ℕ) → Option ℕ
lengths_given given = elim given [ line.VectorLengths lengths ↦ Some lengths | _ ↦ None ]

-- the line gives vector lengths
abbrev pub is_lengths : Line (List ℕ) → Bool
is_lengths given = elim given [ line.VectorLengths lengths ↦ true | _ ↦ false ]

-- the boot core that the line gives
abbrev pub boot_given : Line (List ℕ) → Option ℕ
boot_given given = elim given [ line.Boot core ↦ Some core | _ ↦ None ]

-- the command line that the line gives
abbrev pub command_line_given : Line (List ℕ) → Option (List ℕ)
command_line_given given = elim given [ line.CommandLine text ↦ Some text | _ ↦ None ]

-- the steps that the line gives
abbrev pub step_given : Line (List ℕ) → Option StepLine
step_given given = elim given [ line.Step step ↦ Some step | _ ↦ None ]

-- the number that the line names, and what it stands for
abbrev pub name_given : Line (List ℕ) → Option (ℕ × Named)
name_given given = elim given [
  | line.Number number capability ↦ Some (number, named.Cap capability)
  | line.Given number on ↦ Some (number, named.Given on)
  | _ ↦ None
]

-- the callback that the line names, by its offset
abbrev pub callback_given : Line (List ℕ) → Option (ℕ × CallbackKind)
callback_given given = elim given [ line.Callback offset kind ↦ Some (offset, kind) | _ ↦ None ]

-- the conduit that the line gives
abbrev pub conduit_given : Line (List ℕ) → Option Conduit
conduit_given given = elim given [ line.Conduit conduit ↦ Some conduit | _ ↦ None ]

-- the place of the table that the line gives
abbrev pub layout_given : Line (List ℕ) → Option Layout
layout_given given = elim given [ line.Table layout ↦ Some layout | _ ↦ None ]

-- the length of the image that the line gives
abbrev pub image_given : Line (List ℕ) → Option ℕ
image_given given = elim given [ line.Image length ↦ Some length | _ ↦ None ]

-- what the last of the lines gives that gives such a thing
abbrev pub last_given : {A : Type 0} → (Line (List ℕ) → Option A) → List (Line (List ℕ)) → Option A
last_given of lines = fold (λ given one. option_or (of one) given) None lines

-- for each core in turn, the lines after its `core` line and before the next one
abbrev pub lines_by_core : List (Line (List ℕ)) → List (List (Line (List ℕ)))
lines_by_core lines = drop 1 (slice_split is_core lines)

-- the lines of the core begun last
abbrev pub lines_of_last : List (Line (List ℕ)) → List (Line (List ℕ))
lines_of_last lines = unwrap_or (last_or None (lines_by_core lines)) []

-- the word of the register at this place among the lines of a core; 0 where no line gives it
abbrev pub register_word : List (Line (List ℕ)) → ℕ → ℕ
register_word lines place = unwrap_or (last_given (word_given place) lines) 0

-- what the lines of a core tell of it
abbrev pub core_told : List (Line (List ℕ)) → Core
core_told lines = record {
  words = map (λ reg. register_word lines (place_of reg)) registers;
  lengths = unwrap_or (last_given lengths_given lines) 0;
}

-- the greatest section that a line has stood in
abbrev pub greatest_section : List (Line (List ℕ)) → ℕ
greatest_section lines = fold (λ section one. max section (section_of one)) 0 lines

-- what is known of a text by its first lines: the cores begun, the registers and whether vector lengths were given to
-- the core begun last, the boot core, the command line, the steps, the numbers and callbacks named, the conduit, the
-- table, the image's length, and the greatest section
pub record Before : Type 0 where
  pub cores : List Core
  pub named : List SysReg
  pub measured : Bool
  pub boot : Option ℕ
  pub command_line : Option (List ℕ)
  pub steps : List StepLine
  pub numbers : FinMap nat_cmp Named
  pub callbacks : FinMap nat_cmp CallbackKind
  pub conduit : Option Conduit
  pub layout : Option Layout
  pub image : Option ℕ
  pub section : ℕ

-- what lines come to
unfoldable pub before : List (Line (List ℕ)) → Before
before lines = record {
  cores = map core_told (lines_by_core lines);
  named = filter_map register_given (lines_of_last lines);
  measured = list_any is_lengths (lines_of_last lines);
  boot = last_given boot_given lines;
  command_line = last_given command_line_given lines;
  steps = filter_map step_given lines;
  numbers = from_entries (reverse (filter_map name_given lines));
  callbacks = from_entries (reverse (filter_map callback_given lines));
  conduit = last_given conduit_given lines;
  layout = last_given layout_given lines;
  image = last_given image_given lines;
  section = greatest_section lines;
}
