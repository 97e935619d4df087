-- The fields of a document's system registers.
use Rattle.std.proofs.Common.{◌≡◌, ℕ, ℤ, ◌<◌, Bool, true, false, cond, List, ◌-◌, ◌∷◌, ◌++◌, length, Option, Some, None, ◌∙◌, ap, arith, length-append}
use Rattle.std.specs.Prelude.{Ok, Err, nat_lt}
use Rattle.std.proofs.lemmas.List.{map-append}
use Rattle.std.proofs.lemmas.Bool.Decides.{nat_tests}
use Rattle.armcaps_rule.specs.Rule.{fold_of, merged}
use Rattle.armcaps_rule.proofs.Overrides.{override_ignored}
use Rattle.armcaps_enc.specs.declared.register.SysReg.{SysReg}
use Rattle.armcaps_tables.specs.Core.{Core, core_word}
use Rattle.armcaps_tables.specs.Fields.{field_in}
use Rattle.armcaps_tables.specs.Overriding.{override_of}
use Rattle.armcaps_tables.specs.Row.{Row}
use Rattle.armcaps_sanit.specs.System.{field_values, system_field}
use Rattle.armcaps_board.specs.Board.{core_at}
use Rattle.armcaps_boot.specs.Admission.{is_among_admitted}
use Rattle.armcaps_boot.proofs.ChosenCores.{Among, chosen-among}
use Rattle.armcaps_text.specs.Document as text
use Rattle.armcaps_text.specs.Document.{Outcome, Reading, outcome}
use Rattle.armcaps_text.specs.Formats.{format_of}
use Rattle.armcaps_text.specs.Sound.{IsSound}
use Rattle.armcaps_top.specs.Document.{Document, document, document_after, image_refusal, unless_refused}
use Rattle.armcaps_top.specs.Answer.{admitted_in, steps_of}
use Rattle.armcaps_top.specs.declared.refusal.Refusal.{Refusal}
use Rattle.armcaps_top.specs.declared.refusal.Refusal.TheVariants.{TooLong}

same_document : (refusal : Option Refusal) (one other : Document) → unless_refused refusal one ≡ Ok other → one ≡ other
same_document None one other is = cc
same_document (Some refusal) one other is = cc

-- a document's reading is that of its text
reads_after : (long : Bool) (refusal : Refusal) (found : Outcome) (input : List ℕ) (is : Document) → cond long (Err refusal) (document_after found input) ≡ Ok is
    → (place : ℕ) × (found ≡ text.Reads is.reading place)
reads_after true refusal found input is read = cc
reads_after false refusal (text.Refuses line kind) input is read = cc
reads_after false refusal (text.Reads reading place) input is read =
    let one = same_document (image_refusal reading.image (length input - place)) _ is read in
    (place, ap (λ (d : Document). text.Reads d.reading place) one)

-- what holds of every reading
abbrev pub AreSound : Type 0
AreSound = (input : List ℕ) (reading : Reading) (place : ℕ) → outcome input ≡ text.Reads reading place → IsSound reading

pub document_sound : AreSound → (input : List ℕ) (is : Document) → document input ≡ Ok is → IsSound is.reading
unfolding document
document_sound law input is read =
    let limit = (format_of input).input in
    let found = reads_after (nat_lt limit (length input)) (TooLong limit) (outcome input) input is read in law input is.reading found.0 found.1

-- the boot core stands among the admitted ones
boot_among : (is : Document) → IsSound is.reading → Among (admitted_in is) (core_at is.reading.board.cores is.reading.board.boot)
boot_among is sound =
    let passes : is_among_admitted is.reading.board (steps_of is) is.reading.board.boot ≡ true = grind (arith, nat_tests) in
    chosen-among (is_among_admitted is.reading.board (steps_of is)) is.reading.board.cores is.reading.board.boot sound.board.within passes

pub some_admitted : (is : Document) → IsSound is.reading → 0 < length (admitted_in is)
some_admitted is sound =
    let boot = boot_among is sound in
    rw boot.is (omega (arith, length-append boot.before (core_at is.reading.board.cores is.reading.board.boot ∷ boot.after)))

-- an override that the boot core's value does not give way to leaves no mark
pub unsafe_override : (is : Document) (reg : SysReg) (index : ℕ) (row : Row) (value : ℤ) → IsSound is.reading
    → override_of is.reading.board.overrides reg index ≡ Some value
    → (merged row.rule row.safe value (field_in row (core_word (core_at is.reading.board.cores is.reading.board.boot) reg)) ≡ value → ⊥)
    → system_field is.reading.board.overrides (admitted_in is) reg index row ≡ fold_of row.rule row.safe (field_values (admitted_in is) reg row)
unsafe_override is reg index row value sound given unsafe =
    let boot = boot_among is sound in
    let x : ℤ = field_in row (core_word (core_at is.reading.board.cores is.reading.board.boot) reg) in
    let values : field_values (admitted_in is) reg row ≡ field_values boot.before reg row ++ x ∷ field_values boot.after reg row =
    ap (λ (cores : List Core). field_values cores reg row) boot.is
    ∙ map-append (λ (core : Core). field_in row (core_word core reg)) boot.before (core_at is.reading.board.cores is.reading.board.boot ∷ boot.after) in
    rw (given, values) (override_ignored row.rule row.safe (field_values boot.before reg row) (field_values boot.after reg row) x value unsafe)
