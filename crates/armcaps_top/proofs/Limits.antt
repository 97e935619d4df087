-- The limits of the formats, and inputs that are longer.
use Rattle.std.proofs.Common.{◌≡◌, ℕ, ◌+◌, ◌<◌, ◌≤◌, ◌⊎◌, inl, inr, Bool, true, false, cond, nat_lt, List, [], ◌++◌, length, Option, None, Some, refl, sym, ap, ◌∙◌, arith, length-append, lit≤}
use Rattle.std.specs.Prelude.{Err, IfErr, Ok, Result, option_and_then, slice_get, unwrap_or}
use Rattle.std.proofs.lemmas.Bool.Decides.{nat_tests}
use Rattle.std.proofs.lemmas.List.{take-append-le}
use Rattle.armcaps_io.specs.Streams.{GivesAtMost, Moves}
use Rattle.armcaps_io.proofs.StreamLemmas.{Moves-trans}
use Rattle.armcaps_text.specs.Formats.{format_named, format_of, format_one, format_two}
use Rattle.armcaps_text.specs.Lines.{ended_lines, first_mebibyte, lines_of}
use Rattle.armcaps_text.specs.declared.format.Format.{Format}
use Rattle.armcaps_top.specs.Answer.{answer_of, refused}
use Rattle.armcaps_top.specs.Document.{document, document_pair, documents}
use Rattle.armcaps_top.specs.Inside.{IsLonger, IsNoDocument, IsNotRead, IsUnreadPast}
use Rattle.armcaps_top.specs.Run.{Change, reads_input}
use Rattle.armcaps_top.specs.declared.commands.Command.{Command}
use Rattle.armcaps_top.specs.declared.commands.Command.TheVariants.{Pool, Audit}
use Rattle.armcaps_top.specs.declared.ending.Ending.{Ending}
use Rattle.armcaps_top.specs.declared.ending.Ending.TheVariants.{Done, ReadFault, WriteFault, Memory, NoOutput}
use Rattle.armcaps_top.specs.declared.reason.Reason.TheVariants.{Refused}
use Rattle.armcaps_top.specs.declared.refusal.Refusal.TheVariants.{TooLong}

by_tests : (first second : Bool) → (unwrap_or (cond first (Some format_one) (cond second (Some format_two) None)) format_one ≡ format_one)
    ⊎ (unwrap_or (cond first (Some format_one) (cond second (Some format_two) None)) format_one ≡ format_two)
by_tests true second = inl refl
by_tests false true = inr refl
by_tests false false = inl refl

by_line : (line : Option (List ℕ)) → (unwrap_or (option_and_then format_named line) format_one ≡ format_one)
    ⊎ (unwrap_or (option_and_then format_named line) format_one ≡ format_two)
unfolding format_named
by_line None = inl refl
by_line (Some line) = by_tests _ _

-- the limits of an input's format
pub record HasLimits (limit : ℕ) : Type 0 where
  pub least : 135266304 ≤ limit
  pub most : limit ≤ 537919488

limits_of : (format : Format) → (format ≡ format_one) ⊎ (format ≡ format_two) → HasLimits format.input
limits_of format (inl one) = rw one (record { least = lit≤ tt; most = lit≤ tt })
limits_of format (inr two) = rw two (record { least = lit≤ tt; most = lit≤ tt })

pub limits : (input : List ℕ) → HasLimits (format_of input).input
limits input = limits_of (format_of input) (by_line (slice_get (lines_of input) 0))

-- what follows the first 1,048,576 bytes of an input does not change its format
pub same_format : (part rest : List ℕ) → 1048576 ≤ length part → format_of (part ++ rest) ≡ format_of part
unfolding first_mebibyte
same_format part rest long =
    ap (λ (front : List ℕ). unwrap_or (option_and_then format_named (slice_get (ended_lines front) 0)) format_one) (take-append-le 1048576 part rest long)

longer : (input : List ℕ) (limit : ℕ) → (format_of input).input ≡ limit → limit < length input → document input ≡ Err (TooLong limit)
unfolding document
longer input limit is long =
    let test : nat_lt (format_of input).input (length input) ≡ true = grind (arith, nat_tests) in
    rw test (ap (λ (n : ℕ). Err (TooLong n)) is)

-- an input of which more bytes came than its format allows
pub too_long : (left after : Option (List ℕ)) (bytes : List ℕ) (limit : ℕ) → Moves left after [] bytes → limit < length bytes → 1048576 ≤ length bytes
    → (format_of bytes).input ≡ limit → IsNoDocument left (TooLong limit)
too_long None after bytes limit moved long most is = record { bytes = bytes; told = tt; is = longer bytes limit is long }
too_long (Some input) None bytes limit moved long most is = absurd moved.given
too_long (Some input) (Some rest) bytes limit moved long most is =
    let given : input ≡ bytes ++ rest = moved.given ∙ ap (λ (part : List ℕ). part ++ rest) (sym moved.grown) in
    let format : (format_of input).input ≡ limit = ap (λ (i : List ℕ). (format_of i).input) given ∙ ap (λ (f : Format). f.input) (same_format bytes rest most) ∙ is in
    record { bytes = input; told = refl; is = longer input limit format (rw given (omega (arith, length-append bytes rest))) }

-- bytes that grow past the first 1,048,576 keep their format
pub grown_format : (left after : Option (List ℕ)) (before bytes : List ℕ) → Moves left after before bytes → 1048576 ≤ length before → format_of bytes ≡ format_of before
grown_format left after before bytes moved most = ap (λ (i : List ℕ). format_of i) moved.grown ∙ same_format before moved.part most

-- a source gave in two calls no more than one byte past the limit of the format of what came first
pub gave_at_most : (left between after : Option (List ℕ)) (none first slice bytes : List ℕ) (format : Format) → none ≡ []
    → Moves left between none first → Moves between after first bytes → format ≡ format_of slice → slice ≡ first
    → length bytes ≤ format.input + 1 → GivesAtMost left after 537919489
gave_at_most left between after none first slice bytes format empty before more is same within =
    let moved : Moves left after none bytes = Moves-trans left between after none first bytes before more in
    let grown : bytes ≡ moved.part = moved.grown ∙ ap (λ (old : List ℕ). old ++ moved.part) empty in
    let limit : format.input ≡ (format_of first).input = ap (λ (f : Format). f.input) (is ∙ ap (λ (b : List ℕ). format_of b) same) in record {
      part = moved.part;
      count = omega (arith, ap length grown, within, limit, (limits first).most);
      given = moved.given;
    }

-- an input of which more bytes came than a limit
pub is_longer : (left after : Option (List ℕ)) (bytes : List ℕ) (limit : ℕ) → Moves left after [] bytes → limit < length bytes → IsLonger left limit
is_longer None after bytes limit moved long = record { bytes = bytes; told = tt; longer = long }
is_longer (Some input) None bytes limit moved long = absurd moved.given
is_longer (Some input) (Some rest) bytes limit moved long =
    let given : input ≡ bytes ++ rest = moved.given ∙ ap (λ (part : List ℕ). part ++ rest) (sym moved.grown) in
    record { bytes = input; told = refl; longer = rw given (omega (arith, length-append bytes rest)) }

pair_longer : (input : List ℕ) → 269484032 < length input → answer_of Audit input ≡ refused (TooLong 269484032)
unfolding document_pair
pair_longer input long =
    let test : nat_lt 269484032 (length input) ≡ true = grind (arith, nat_tests) in rw test refl

texts_longer : (input : List ℕ) → 67108864 < length input → answer_of Pool input ≡ refused (TooLong 67108864)
unfolding documents
texts_longer input long =
    let test : nat_lt 67108864 (length input) ≡ true = grind (arith, nat_tests) in rw test refl

-- an input that was not read whole, of a command that refuses one longer than a limit
module _ (command : Command) (limit : ℕ) (reads : reads_input (Some command) ≡ true)
    (longer : (input : List ℕ) → limit < length input → answer_of command input ≡ refused (TooLong limit)) where
  not_read : (input : Change) (ending : Ending) → IsUnreadPast limit input.old input.before input.now ending → IsNotRead command input ending
  not_read input Done is = absurd is
  not_read input ReadFault is = (reads, is)
  not_read input WriteFault is = absurd is
  not_read input Memory is = tt
  not_read input (NoOutput (Refused (TooLong most))) is = record {
    bytes = is.1.bytes;
    told_bytes = λ reads. is.1.told;
    refused = longer is.1.bytes is.1.longer ∙ ap (λ (n : ℕ). refused (TooLong n)) (sym is.0);
  }
  not_read input (NoOutput (Refused _)) is = absurd is
  not_read input (NoOutput _) is = absurd is

  unread : {A : Type 0} (made : Result A Ending) (input : Change) → IfErr made (IsUnreadPast limit input.old input.before input.now) → IfErr made (IsNotRead command input)
  unread (Ok bytes) input is = tt
  unread (Err ending) input is = not_read input ending is

pub pair_unread : {A : Type 0} (made : Result A Ending) (input : Change) → IfErr made (IsUnreadPast 269484032 input.old input.before input.now) → IfErr made (IsNotRead Audit input)
pair_unread made input is = unread Audit 269484032 refl pair_longer made input is

pub texts_unread : {A : Type 0} (made : Result A Ending) (input : Change) → IfErr made (IsUnreadPast 67108864 input.old input.before input.now) → IfErr made (IsNotRead Pool input)
texts_unread made input is = unread Pool 67108864 refl texts_longer made input is
