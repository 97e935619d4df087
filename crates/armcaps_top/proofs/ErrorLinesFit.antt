-- The line of every ending fits the buffer of the error stream.
use Rattle.std.proofs.Common.{◌≡◌, ℕ, ◌≤◌, ◌+◌, ◌/◌, ◌%◌, Bool, true, false, cond, ◌&&◌, Option, None, Some, List, [], ◌∷◌, length, refl, arith, lit≤, zero, suc, length-append}
use Rattle.std.specs.Prelude.{nat_le, slice_get, codes, unwrap_or, ◌==◌}
use Rattle.std.specs.Fmt.{decimal, digit_glyph, digits, digits_onto}
use Rattle.std.specs.List.{list_all}
use Rattle.std.specs.Option.{option_map_or}
use Rattle.std.proofs.lemmas.Bool.Decides.{nat_tests}
use Rattle.armcaps_alt.specs.Refusals as entries
use Rattle.armcaps_alt.specs.declared.patch_kind.PatchKind.{PatchKind}
use Rattle.armcaps_alt.specs.declared.patch_kind.PatchKind.TheVariants as patch_kind
use Rattle.armcaps_boot.specs.declared.cause.Cause.{Cause}
use Rattle.armcaps_boot.specs.declared.cause.Cause.TheVariants.{Asid, Cap, Hwcap, Vector}
use Rattle.armcaps_caps.specs.Capabilities.{capability_name}
use Rattle.armcaps_caps.specs.Rows.{capability_rows}
use Rattle.armcaps_hwcap.specs.Hwcaps.{hwcap_name}
use Rattle.armcaps_hwcap.specs.Rows.{hwcap_rows}
use Rattle.armcaps_report.specs.Texts.{cause_text}
use Rattle.armcaps_text.specs.Refusal.{kind_word, refusal_text}
use Rattle.armcaps_text.specs.Texts.{texts_refusal_text}
use Rattle.armcaps_text.specs.declared.texts.TextsRefused.{TextsRefused}
use Rattle.armcaps_text.specs.declared.texts.TextsRefused.TheVariants as texts_refused
use Rattle.armcaps_text.specs.declared.kind.TextKind.{TextKind}
use Rattle.armcaps_text.specs.declared.kind.TextKind.TheVariants.{Header, Unfinished, TextTooLong, UnknownLine, Order, Tokens, Number, Name, Twice, CoreNumber, TooMany, BootStep, Turn, Finalise, Incomplete, CmdlineTooLong, TableOutside}
use Rattle.armcaps_top.specs.ErrorLines.{elf_entry_text, elf_kind_text, ending_line, ending_text, entry_text, halt_text, label_kind_word, labels_refused_text, reason_text, refused_text}
use Rattle.armcaps_top.specs.Elf.{elf_word, elf_words}
use Rattle.armcaps_report.specs.UserReads.{eight_digits, read_refused_text}
use Rattle.armcaps_top.specs.declared.commands.jump.LabelsRefused.{LabelsRefused}
use Rattle.armcaps_top.specs.declared.commands.jump.LabelsRefused.TheVariants as labels_refused
use Rattle.armcaps_report.specs.declared.user_reads.ReadRefused.{ReadRefused}
use Rattle.armcaps_report.specs.declared.user_reads.ReadRefused.TheVariants.{NotAdmitted, Undefined}
use Rattle.armcaps_top.specs.declared.ending.Ending.{Ending}
use Rattle.armcaps_top.specs.declared.ending.Ending.TheVariants.{Done, ReadFault, WriteFault, Memory, NoOutput}
use Rattle.armcaps_top.specs.declared.reason.Reason.{Reason}
use Rattle.armcaps_top.specs.declared.reason.Reason.TheVariants.{Usage, Refused, Panicked, MachinePanicked, NotRead, NotPatched, NotElf, NotLoaded, NotJumped, Differs}
use Rattle.armcaps_top.specs.declared.refusal.Refusal.{Refusal}
use Rattle.armcaps_top.specs.declared.refusal.Refusal.TheVariants as refusal

-- Numbers: at most 64 digits, whatever the number.

digit_put : (is_last : Bool) (digit : ℕ) (after more : List ℕ) (k : ℕ) → length more ≤ k + length (digit ∷ after)
    → length (cond is_last (digit ∷ after) more) ≤ suc k + length after
digit_put true digit after more k short = omega arith
digit_put false digit after more k short = omega arith

digits_short : (k n : ℕ) (after : List ℕ) → length (digits_onto k 10 false n after) ≤ k + length after
digits_short zero n after = omega arith
digits_short (suc k) n after =
    let digit = digit_glyph false (n % 10) in
    digit_put (n / 10 == 0) digit after (digits_onto k 10 false (n / 10) (digit ∷ after)) k (digits_short k (n / 10) (digit ∷ after))

decimal_short : (n : ℕ) → length (decimal n) ≤ 64
unfolding digits
decimal_short n = digits_short 64 n []

-- Names and words.

both : (a b : Bool) → (a && b) ≡ true → (a ≡ true) × (b ≡ true)
both true b is = (refl, is)
both false b is = (is, cc)

short_at : {R : Type 0} (name : R → List ℕ) (rows : List R) → list_all (λ row. nat_le (length (name row)) 30) rows ≡ true
    → (n : ℕ) → length (option_map_or name (slice_get rows n) []) ≤ 30
short_at name [] short n = omega arith
short_at name (row ∷ rows) short zero =
    let parts = both (nat_le (length (name row)) 30) (list_all (λ row. nat_le (length (name row)) 30) rows) short in grind (arith, nat_tests, parts.0)
short_at name (row ∷ rows) short (suc n) =
    let parts = both (nat_le (length (name row)) 30) (list_all (λ row. nat_le (length (name row)) 30) rows) short in short_at name rows parts.1 n

capabilities_short : list_all (λ row. nat_le (length row.name) 30) capability_rows ≡ true
unfolding capability_rows
capabilities_short = refl

hwcaps_short : list_all (λ row. nat_le (length row.name) 30) hwcap_rows ≡ true
unfolding hwcap_rows
hwcaps_short = refl

capability_name_short : (number : ℕ) → length (capability_name number) ≤ 30
unfolding capability_name
capability_name_short number = short_at (λ row. row.name) capability_rows capabilities_short number

hwcap_name_short : (index : ℕ) → length (hwcap_name index) ≤ 30
unfolding hwcap_name
hwcap_name_short index = short_at (λ row. row.name) hwcap_rows hwcaps_short index

kind_word_short : (kind : TextKind) → length (kind_word kind) ≤ 16
unfolding kind_word
kind_word_short Header = lit≤ tt
kind_word_short Unfinished = lit≤ tt
kind_word_short TextTooLong = lit≤ tt
kind_word_short UnknownLine = lit≤ tt
kind_word_short Order = lit≤ tt
kind_word_short Tokens = lit≤ tt
kind_word_short Number = lit≤ tt
kind_word_short Name = lit≤ tt
kind_word_short Twice = lit≤ tt
kind_word_short CoreNumber = lit≤ tt
kind_word_short TooMany = lit≤ tt
kind_word_short BootStep = lit≤ tt
kind_word_short Turn = lit≤ tt
kind_word_short Finalise = lit≤ tt
kind_word_short Incomplete = lit≤ tt
kind_word_short CmdlineTooLong = lit≤ tt
kind_word_short TableOutside = lit≤ tt

patch_kind_short : (kind : PatchKind) → length (entries.kind_word kind) ≤ 19
unfolding entries.kind_word
patch_kind_short patch_kind.UnknownCap = lit≤ tt
patch_kind_short patch_kind.Unaligned = lit≤ tt
patch_kind_short patch_kind.SiteOutside = lit≤ tt
patch_kind_short patch_kind.Length = lit≤ tt
patch_kind_short patch_kind.ReplacementOutside = lit≤ tt
patch_kind_short patch_kind.UnknownCallback = lit≤ tt
patch_kind_short patch_kind.CallbackLength = lit≤ tt
patch_kind_short patch_kind.Literal = lit≤ tt
patch_kind_short patch_kind.Range = lit≤ tt

label_kind_short : (kind : ℕ) → length (label_kind_word kind) ≤ 6
label_kind_short kind = word_short (kind == 1) (kind == 2)
  where
    word_short : (is_code is_key : Bool) → length (cond is_code (codes "code") (cond is_key (codes "key") (codes "branch"))) ≤ 6
    word_short true is_key = lit≤ tt
    word_short false true = lit≤ tt
    word_short false false = lit≤ tt

elf_word_short : (kind : ℕ) → length (elf_word kind) ≤ 30
elf_word_short kind = one_short (slice_get elf_words kind) (short_at (λ word. word) elf_words refl kind)
  where
    one_short : (word : Option (List ℕ)) → length (option_map_or (λ w. w) word []) ≤ 30 → length (unwrap_or word []) ≤ 30
    one_short None short = short
    one_short (Some word) short = short

-- Texts: two numbers, a word, and what stands between them.

cause_short : (cause : Cause) → length (cause_text cause) ≤ 100
unfolding cause_text
cause_short Asid = lit≤ tt
cause_short (Cap number) = grind (arith, length-append, decimal_short, capability_name_short)
cause_short (Hwcap index) = grind (arith, length-append, hwcap_name_short)
cause_short (Vector bits) = grind (arith, length-append, decimal_short)

texts_refused_short : (why : TextsRefused) → length (texts_refusal_text why) ≤ 240
unfolding texts_refusal_text refusal_text
texts_refused_short (texts_refused.Line number line kind) = grind (arith, length-append, decimal_short, kind_word_short)
texts_refused_short (texts_refused.Image number) = grind (arith, length-append, decimal_short)
texts_refused_short texts_refused.TooMany = lit≤ tt

refused_short : (why : Refusal) → length (refused_text why) ≤ 240
unfolding refused_text refusal_text
refused_short (refusal.Line line kind) = grind (arith, length-append, decimal_short, kind_word_short)
refused_short (refusal.TooLong limit) = grind (arith, length-append, decimal_short)
refused_short (refusal.ImageShort got of) = grind (arith, length-append, decimal_short)
refused_short (refusal.Trailing extra) = grind (arith, length-append, decimal_short)
refused_short (refusal.Texts why) = texts_refused_short why

read_refused_short : (why : ReadRefused) → length (read_refused_text why) ≤ 100
unfolding read_refused_text eight_digits
read_refused_short (NotAdmitted core) = grind (arith, length-append, decimal_short)
read_refused_short (Undefined word) = lit≤ tt

labels_refused_short : (why : LabelsRefused) → length (labels_refused_text why) ≤ 200
unfolding labels_refused_text
labels_refused_short labels_refused.TableOutside = lit≤ tt
labels_refused_short (labels_refused.Entry entry kind) = grind (arith, length-append, decimal_short, label_kind_short)

reason_short : (reason : Reason) → length (reason_text reason) ≤ 300
unfolding reason_text halt_text entry_text elf_entry_text elf_kind_text
reason_short Usage = lit≤ tt
reason_short (Refused why) = grind (arith, refused_short)
reason_short (Panicked halt) = grind (arith, length-append, decimal_short, cause_short)
reason_short (MachinePanicked machine halt) = grind (arith, length-append, decimal_short, cause_short)
reason_short (NotPatched entry kind) = grind (arith, length-append, decimal_short, patch_kind_short)
reason_short (NotRead why) = grind (arith, length-append, read_refused_short)
reason_short (NotElf kind) = grind (arith, length-append, decimal_short, elf_word_short)
reason_short (NotLoaded entry kind) = grind (arith, length-append, decimal_short, elf_word_short)
reason_short (NotJumped why) = grind (arith, length-append, labels_refused_short)
reason_short (Differs place) = grind (arith, length-append, decimal_short)

ending_short : (ending : Ending) → length (ending_text ending) ≤ 300
unfolding ending_text
ending_short Done = lit≤ tt
ending_short ReadFault = lit≤ tt
ending_short WriteFault = lit≤ tt
ending_short Memory = lit≤ tt
ending_short (NoOutput reason) = reason_short reason

-- no line is longer than the buffer
pub ending_line_short : (ending : Ending) → length (ending_line ending) ≤ 320
ending_line_short ending = grind (arith, length-append, ending_short)
