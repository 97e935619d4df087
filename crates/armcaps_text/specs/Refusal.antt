-- How a refusal is printed.
use Rattle.std.specs.Prelude.{ℕ, List, ◌++◌, codes}
use Rattle.std.specs.Fmt.{decimal}
use Rattle.armcaps_text.specs.declared.kind.TextKind.{TextKind}
use Rattle.armcaps_text.specs.declared.kind.TextKind.TheVariants.{Header, Unfinished, TextTooLong, UnknownLine, Order, Tokens, Number, Name, Twice, CoreNumber, TooMany, BootStep, Turn, Finalise, Incomplete, CmdlineTooLong, TableOutside}
use Rattle.armcaps_text.specs.declared.kind.TextRefused.{TextRefused}
use Rattle.armcaps_text.specs.declared.kind.TextRefused.TheVariants.{Line, Memory}

-- the number of a kind
abbrev pub kind_number : TextKind → ℕ
kind_number Header = 1
kind_number Unfinished = 2
kind_number TextTooLong = 3
kind_number UnknownLine = 4
kind_number Order = 5
kind_number Tokens = 6
kind_number Number = 7
kind_number Name = 8
kind_number Twice = 9
kind_number CoreNumber = 10
kind_number TooMany = 11
kind_number BootStep = 12
kind_number Turn = 13
kind_number Finalise = 14
kind_number Incomplete = 15
kind_number CmdlineTooLong = 16
kind_number TableOutside = 17

-- the word of a kind
unfoldable pub kind_word : TextKind → List ℕ
kind_word Header = codes "header"
kind_word Unfinished = codes "unfinished"
kind_word TextTooLong = codes "text-too-long"
kind_word UnknownLine = codes "unknown-line"
kind_word Order = codes "order"
kind_word Tokens = codes "tokens"
kind_word Number = codes "number"
kind_word Name = codes "name"
kind_word Twice = codes "twice"
kind_word CoreNumber = codes "core-number"
kind_word TooMany = codes "too-many"
kind_word BootStep = codes "boot-step"
kind_word Turn = codes "turn"
kind_word Finalise = codes "finalise"
kind_word Incomplete = codes "incomplete"
kind_word CmdlineTooLong = codes "cmdline-too-long"
kind_word TableOutside = codes "table-outside"

-- the text of a refusal, as `line 7: kind 13 turn`
unfoldable pub refusal_text : TextRefused → List ℕ
refusal_text (Line line kind) =
    codes "line " ++ decimal line ++ codes ": kind " ++ decimal (kind_number kind) ++ codes " " ++ kind_word kind
refusal_text Memory = codes "want of memory"
