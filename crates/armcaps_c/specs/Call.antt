-- What a call from C is given and what it gives back. Statuses and lines are this project's own.
use Rattle.std.specs.Prelude.{◌≡◌, ◌≢◌, ◌⊎◌, ◌<◌, ◌≤◌, ◌==◌, ◌++◌, ℕ, if◌then◌else◌, List, [], length, take, drop, Result, Ok, Err}
use Rattle.std.specs.Result.{IsOkAnd}
use Rattle.armcaps_top.specs.Answer.{Answer, answer_for}
use Rattle.armcaps_top.specs.Commands.{command_of}
use Rattle.armcaps_top.specs.Statuses.{output_status}
use Rattle.armcaps_top.specs.Run.{AreSafe}
use Rattle.armcaps_top.specs.ErrorLines.{ending_line}
use Rattle.armcaps_top.specs.declared.ending.Ending.TheVariants.{Memory, NoOutput}
use Rattle.armcaps_top.specs.declared.reason.Reason.{Reason}
use Rattle.armcaps_c.specs.Words.{AreText, words_in}

-- a buffer of the caller that held `old`, after a text was copied to its begin: as much of the text as it has room
-- for, and behind it what it held
abbrev pub filled : List ℕ → List ℕ → List ℕ
filled text old = take (length old) text ++ drop (length text) old

-- a buffer of the caller before and after a call, and the length that the call told
pub record Buffer : Type 0 where
  pub old : List ℕ
  pub new : List ℕ
  pub count : ℕ

-- the text was copied into the buffer, as far as it has room, and its whole length was told
pub record IsGiven (text : List ℕ) (buffer : Buffer) : Type 0 where
  pub bytes : buffer.new ≡ filled text buffer.old
  pub count : buffer.count ≡ length text

-- what the words of a line make of an input
abbrev pub answer_to : List ℕ → List ℕ → Answer
answer_to line input = answer_for (command_of (words_in line)) input

-- the line of what is written, which has none, or of the reason why nothing is
abbrev pub output_line : Result (List ℕ) Reason → List ℕ
output_line (Ok output) = []
output_line (Err reason) = ending_line (NoOutput reason)

-- the line of a call that ends with a status: none where a word is no text
abbrev pub told_line : ℕ → Result (List ℕ) Reason → List ℕ
told_line status output =
    if status == 6 then ending_line Memory else if status == 1 then [] else output_line output

-- the output has room in the buffer and was copied into it
abbrev pub IsOutput : Buffer → List ℕ → Type 0
IsOutput out text = (length text ≤ length out.old) × IsGiven text out

-- the output has no room in the buffer, and its length was told
abbrev pub IsTooLong : Buffer → List ℕ → Type 0
IsTooLong out text = (length out.old < length text) × (out.count ≡ length text)

-- what the caller is given of an answer: the buffers of the output and of the error line, and a status
pub record Gives (answer : Answer) (out err : Buffer) (status : ℕ) : Type 0 where
  -- the output is in the caller's buffer whole; and what can be relied on
  pub done : status ≡ 0 → IsOkAnd answer.output (IsOutput out)
  pub safe : status ≡ 0 → AreSafe answer.machines
  -- there is an output, for which the buffer has too little room
  pub room : status ≡ 5 → IsOkAnd answer.output (IsTooLong out)
  -- each status but 1, 5 and 6 is that of what the command writes, or of the reason why it writes nothing
  pub judged : status ≢ 1 → status ≢ 5 → status ≢ 6 → status ≡ output_status answer.output
  -- the buffer of the output is as it was, but in status 0; and a length is told in 0 and 5 alone
  pub kept : status ≢ 0 → out.new ≡ out.old
  pub none : status ≢ 0 → status ≢ 5 → out.count ≡ 0
  -- the error line is in its buffer, as far as it has room
  pub told : IsGiven (told_line status answer.output) err

-- what a call promises of its line and its input, the buffers of the output and of the error line, and its status
pub record Answers (line input : List ℕ) (out err : Buffer) (status : ℕ) : Type 0 where
  -- 1 just where a word is no text, unless there was no memory to see it
  pub no_text : status ≡ 1 → ¬ AreText (words_in line)
  pub text : ¬ AreText (words_in line) → (status ≡ 1) ⊎ (status ≡ 6)
  -- the caller is given what the words make of the input; a fault of a stream (4) never comes
  pub gives : Gives (answer_to line input) out err status
  pub no_fault : status ≢ 4
