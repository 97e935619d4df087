-- What a line after line 1 says.
use Rattle.std.specs.Prelude.{ℕ, Bool, true, false, if◌then◌else◌, List, Result, Ok, Err}
use Rattle.std.specs.Borrow.{Bor}
use Rattle.std.specs.Option.{option_map_or}
use Rattle.armcaps_text.specs.declared.form.Form.{Form}
use Rattle.armcaps_text.specs.declared.form.Form.TheVariants as form
use Rattle.armcaps_text.specs.declared.format.Format.{Format}
use Rattle.armcaps_text.specs.declared.kind.TextKind.{TextKind}
use Rattle.armcaps_text.specs.declared.line.Line.{Line}
use Rattle.armcaps_text.specs.declared.line.Line.TheVariants.{Skipped, Unknown, Malformed, Header, Core, Register, VectorLengths, Boot, CommandLine, Step, Number, Given, Conduit, Callback, Table, Image}
use Rattle.armcaps_board.specs.declared.step_line.StepLine.{StepLine}
use Rattle.armcaps_board.specs.declared.step_line.StepLine.TheVariants.{Check, Local, Store, Online, Offline, Finalise}
use Rattle.armcaps_text.specs.declared.tokens.Tokens.{Tokens}
use Rattle.armcaps_text.specs.Arguments.{and_then, has_count, core_argument, word_argument, lengths_argument, number_arguments, given_arguments, conduit_argument, callback_arguments, table_arguments, image_argument}
use Rattle.armcaps_text.specs.Forms.{form_of, section_of_form}
use Rattle.armcaps_text.specs.Tokens.{tokens_of, is_passed_over, text_after_word}

-- a line as the bytes that it is
abbrev pub plain : Line (Bor (List ℕ)) → Line (List ℕ)
plain Skipped = Skipped
plain Unknown = Unknown
plain (Malformed form kind) = Malformed form kind
plain Header = Header
plain (Core core) = Core core
plain (Register reg word) = Register reg word
plain (VectorLengths lengths) = VectorLengths lengths
plain (Boot core) = Boot core
plain (CommandLine text) = CommandLine text.now
plain (Step step) = Step step
plain (Number number capability) = Number number capability
plain (Given number on) = Given number on
plain (Conduit conduit) = Conduit conduit
plain (Callback offset kind) = Callback offset kind
plain (Table layout) = Table layout
plain (Image length) = Image length

-- a line, or what is wrong with it, with its texts as bytes
abbrev pub plain_meaning : Result (Line (Bor (List ℕ))) TextKind → Result (Line (List ℕ)) TextKind
plain_meaning (Ok line) = Ok (plain line)
plain_meaning (Err kind) = Err kind

-- a step of the core that the tokens name
abbrev pub step_by : (ℕ → StepLine) → Tokens (List ℕ) → Result (Line (List ℕ)) TextKind
step_by step tokens = and_then (core_argument tokens) (λ core. Ok (Step (step core)))

-- what a line of this form says, or the lowest kind of what is wrong with its tokens; `end` is an image without bytes
abbrev pub meaning_of : Format → Form → Tokens (List ℕ) → List ℕ → Result (Line (List ℕ)) TextKind
meaning_of format form.Header tokens line = Ok Header
meaning_of format form.Core tokens line = and_then (core_argument tokens) (λ core. Ok (Core core))
meaning_of format (form.Register reg) tokens line = and_then (word_argument tokens) (λ word. Ok (Register reg word))
meaning_of format form.VectorLengths tokens line =
    and_then (lengths_argument tokens) (λ lengths. Ok (VectorLengths lengths))
meaning_of format form.Boot tokens line = and_then (core_argument tokens) (λ core. Ok (Boot core))
meaning_of format form.CommandLine tokens line = Ok (CommandLine (text_after_word line))
meaning_of format form.Check tokens line = step_by Check tokens
meaning_of format form.Local tokens line = step_by Local tokens
meaning_of format form.Store tokens line = step_by Store tokens
meaning_of format form.Online tokens line = step_by Online tokens
meaning_of format form.Offline tokens line = step_by Offline tokens
meaning_of format form.Finalise tokens line = and_then (has_count 1 tokens) (λ _. Ok (Step Finalise))
meaning_of format form.Number tokens line = and_then (number_arguments tokens) (λ named. Ok (Number named.0 named.1))
meaning_of format form.Given tokens line = and_then (given_arguments tokens) (λ given. Ok (Given given.0 given.1))
meaning_of format form.Conduit tokens line = and_then (conduit_argument tokens) (λ conduit. Ok (Conduit conduit))
meaning_of format form.Callback tokens line =
    and_then (callback_arguments format tokens) (λ callback. Ok (Callback callback.0 callback.1))
meaning_of format form.Table tokens line = and_then (table_arguments format tokens) (λ layout. Ok (Table layout))
meaning_of format form.End tokens line = and_then (has_count 1 tokens) (λ _. Ok (Image 0))
meaning_of format form.Image tokens line = and_then (image_argument format tokens) (λ length. Ok (Image length))

-- a line of a form, with what is wrong with its tokens in their place
abbrev pub formed : Form → Result (Line (List ℕ)) TextKind → Line (List ℕ)
formed form (Ok line) = line
formed form (Err kind) = Malformed form kind

-- what a line after line 1 says
unfoldable pub line_of : Format → List ℕ → Line (List ℕ)
line_of format line =
    let tokens = tokens_of line in
    if is_passed_over tokens then Skipped
    else option_map_or (λ form. formed form (meaning_of format form tokens line)) (form_of format tokens.word) Unknown

-- the section in which a line stands; a line that is passed over or unknown stands nowhere
abbrev pub section_of : Line (List ℕ) → ℕ
section_of Skipped = 0
section_of Unknown = 0
section_of (Malformed form kind) = section_of_form form
section_of Header = 0
section_of (Core core) = 1
section_of (Register reg word) = 1
section_of (VectorLengths lengths) = 1
section_of (Boot core) = 2
section_of (CommandLine text) = 3
section_of (Step step) = 4
section_of (Number number capability) = 5
section_of (Given number on) = 5
section_of (Conduit conduit) = 6
section_of (Callback offset kind) = 7
section_of (Table layout) = 8
section_of (Image length) = 9

-- the line is the last of its text
abbrev pub is_last : Line (List ℕ) → Bool
is_last given = elim given [ Image length ↦ true | _ ↦ false ]
