-- What a machine text is, what it says, and where and why another is refused.
use Rattle.std.specs.Prelude.{◌≡◌, ℕ, ◌+◌, ◌||◌, Bool, false, nat_lt, if◌then◌else◌, List, [], ◌∷◌, length, map, sum_by, find, take, Option, Some, None, option_and_then, is_some, unwrap_or}
use Rattle.std.specs.FinMap.{entries}
use Rattle.std.specs.List.{range_with_len, slice_get}
use Rattle.std.specs.Option.{option_map_or}
use Rattle.armcaps_alt.specs.Names.{NameLists}
use Rattle.armcaps_alt.specs.declared.smccc_conduit.Conduit.TheVariants as conduit
use Rattle.armcaps_alt.specs.declared.table_place.Layout.{Layout}
use Rattle.armcaps_board.specs.Board.{Board}
use Rattle.armcaps_cmdline.specs.Overrides.{command_line_overrides}
use Rattle.armcaps_text.specs.Before.{Before, before}
use Rattle.armcaps_text.specs.Formats.{format_named}
use Rattle.armcaps_text.specs.KindAtLine.{kind_after}
use Rattle.armcaps_text.specs.Lines.{lines_of}
use Rattle.armcaps_text.specs.Meaning.{line_of, is_last}
use Rattle.armcaps_text.specs.declared.format.Format.{Format}
use Rattle.armcaps_text.specs.declared.kind.TextKind.{TextKind}
use Rattle.armcaps_text.specs.declared.kind.TextKind.TheVariants as kind
use Rattle.armcaps_text.specs.declared.kind.TextRefused.{TextRefused}
use Rattle.armcaps_text.specs.declared.kind.TextRefused.TheVariants as refused
use Rattle.armcaps_text.specs.declared.line.Line.{Line}
use Rattle.armcaps_text.specs.declared.machine.Machine.{Machine}
use Rattle.armcaps_board.specs.declared.step_line.StepLine.{StepLine}

-- what a text says of a machine: what is brought up, by which steps, the named numbers and callbacks and the conduit,
-- the place of the table, and the length of the image
pub record Reading : Type 0 where
  pub board : Board
  pub steps : List StepLine
  pub names : NameLists
  pub layout : Layout
  pub image : ℕ

-- what becomes of an input: it reads, with the number of bytes up to the end of its last line; or a line of it is
-- refused
pub data Outcome : Type 0 where
  Reads : Reading → ℕ → Outcome
  Refuses : ℕ → TextKind → Outcome

-- what is brought up by lines that come to this: without a `cmdline` line the command line is empty; the boot core is
-- that of its line
abbrev pub board_after : Before → Board
board_after before = record {
  cores = before.cores;
  boot = unwrap_or before.boot 0;
  overrides = command_line_overrides (unwrap_or before.command_line []);
}

-- what lines say that come to this. Without a `conduit` line there is no conduit, without a `table` line the table
-- has no entry; the image's length is that of its line
abbrev pub reading_after : Before → Reading
reading_after before = record {
  board = board_after before;
  steps = before.steps;
  names = record {
    numbers = entries before.numbers;
    callbacks = entries before.callbacks;
    conduit = unwrap_or before.conduit conduit.None;
  };
  layout = unwrap_or before.layout (record { table = 0; count = 0 });
  image = unwrap_or before.image 0;
}

-- the lowest kind that holds at a line after line 1, by its place among those lines
abbrev pub kind_at : Format → List (Line (List ℕ)) → ℕ → Option TextKind
kind_at format lines place = option_and_then (kind_after format (before (take place lines))) (slice_get lines place)

-- the text ends at this line: some kind holds there, or it is the last line
abbrev pub ends_at : Format → List (Line (List ℕ)) → ℕ → Bool
ends_at format lines place = is_some (kind_at format lines place) || option_map_or is_last (slice_get lines place) false

-- 2 and 3: the kind of a line that does not end among the first 1,048,576 bytes
abbrev pub unended_kind : List ℕ → TextKind
unended_kind input = if nat_lt 1_048_576 (length input) then kind.TextTooLong else kind.Unfinished

-- how many bytes lines take, each with its line feed
abbrev pub bytes_of : List (List ℕ) → ℕ
bytes_of lines = sum_by (λ line. length line + 1) lines

-- refused at the line of this number, if a kind holds there, or else what it reads as
abbrev pub refused_or : ℕ → Option TextKind → Outcome → Outcome
refused_or number None reads = reads
refused_or number (Some kind) reads = Refuses number kind

-- what becomes of a text after its header where it ends at this line after line 1, if it ends at one: the line after
-- those that have ended is refused where it does not
abbrev pub outcome_at : TextKind → List ℕ → List (List ℕ) → Format → Option ℕ → Outcome
outcome_at unended header texts format None = Refuses (length texts + 2) unended
outcome_at unended header texts format (Some place) =
    let lines = map (line_of format) texts in
    refused_or (place + 2) (kind_at format lines place)
    (Reads (reading_after (before (take (place + 1) lines))) (bytes_of (header ∷ take (place + 1) texts)))

-- what becomes of a text whose first line is this header of its format: it ends at the first line where it can
unfoldable pub outcome_after : TextKind → List ℕ → List (List ℕ) → Format → Outcome
outcome_after unended header texts format =
    outcome_at unended header texts format
    (find (ends_at format (map (line_of format) texts)) (range_with_len 0 (length texts)))

-- what becomes of the lines of an input; line 1 has to name a format
abbrev pub outcome_of_lines : TextKind → List (List ℕ) → Outcome
outcome_of_lines unended [] = Refuses 1 unended
outcome_of_lines unended (header ∷ texts) =
    option_map_or (outcome_after unended header texts) (format_named header) (Refuses 1 kind.Header)

-- what becomes of an input
unfoldable pub outcome : List ℕ → Outcome
outcome input = outcome_of_lines (unended_kind input) (lines_of input)

-- what a machine is, as a text says it
abbrev pub reading_of : Machine → Reading
reading_of machine = record {
  board = machine.board;
  steps = machine.steps.items;
  names = machine.names;
  layout = machine.layout;
  image = machine.image;
}

-- the refusal is what becomes of an input, unless memory ran out
abbrev pub IsRefusal : Outcome → TextRefused → Type 0
IsRefusal outcome (refused.Line line kind) = outcome ≡ Refuses line kind
IsRefusal outcome refused.Memory = Unit {0}

-- the refusal is that of a line after this many others after line 1, by the kind that holds there, unless memory ran
-- out
abbrev pub IsRefusalAt : Option TextKind → ℕ → TextRefused → Type 0
IsRefusalAt found lines (refused.Line line kind) = (found ≡ Some kind) × (line ≡ lines + 2)
IsRefusalAt found lines refused.Memory = Unit {0}
