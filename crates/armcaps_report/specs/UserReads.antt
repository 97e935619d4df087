-- How it is written what a program reads by an instruction, or why it reads nothing. The texts are this project's own.
use Rattle.std.specs.Prelude.{ℕ, ◌==◌, ◌/◌, ◌%◌, ◌^◌, if◌then◌else◌, List, [], ◌∷◌, ◌++◌, map, codes}
use Rattle.std.specs.Char.{digit_char}
use Rattle.std.specs.Fmt.{decimal}
use Rattle.armcaps_report.specs.Texts.{word_text}
use Rattle.armcaps_report.specs.declared.user_reads.ReadRefused.{ReadRefused}
use Rattle.armcaps_report.specs.declared.user_reads.ReadRefused.TheVariants.{NotAdmitted, Undefined}

-- the name of a general-purpose register
abbrev pub general_name : ℕ → List ℕ
general_name number = if number == 31 then codes "xzr" else codes "x" ++ decimal number

-- a word after a space, and the line's end
abbrev pub value_text : ℕ → List ℕ
value_text value = codes " " ++ word_text value ++ 10 ∷ []

-- the line of what is read into a general-purpose register, as `x5 0x0000000000011120`
abbrev pub read_line : ℕ → ℕ → List ℕ
read_line number value = general_name number ++ value_text value

-- the eight hexadecimal digits of a word
unfoldable pub eight_digits : ℕ → List ℕ
eight_digits word = map (λ place. digit_char (word / 16 ^ place % 16)) (7 ∷ 6 ∷ 5 ∷ 4 ∷ 3 ∷ 2 ∷ 1 ∷ 0 ∷ [])

-- why nothing is read, as `core 3 not admitted` or `word 0xd5380100 undefined`
unfoldable pub read_refused_text : ReadRefused → List ℕ
read_refused_text (NotAdmitted core) = codes "core " ++ decimal core ++ codes " not admitted"
read_refused_text (Undefined word) = codes "word 0x" ++ eight_digits word ++ codes " undefined"
