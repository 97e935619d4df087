-- An input within its limit is not refused for its length.
use Rattle.std.proofs.Common.{◌≡◌, ℕ, ◌*◌, ◌-◌, ◌≤◌, Bool, true, false, cond, nat_lt, List, [], ◌∷◌, length, drop, Some, None, ap, arith}
use Rattle.std.specs.Prelude.{Result, Ok, Err}
use Rattle.std.proofs.lemmas.Bool.Decides.{nat_tests}
use Rattle.armcaps_text.specs.Document.{Outcome, Reads, Refuses, Reading, outcome}
use Rattle.armcaps_text.specs.Formats.{format_of}
use Rattle.armcaps_text.specs.Texts.{texts_of}
use Rattle.armcaps_text.specs.declared.texts.TextsRefused.{TextsRefused}
use Rattle.armcaps_top.specs.Answer.{Answer, answer_of, of_document, of_documents, refused}
use Rattle.armcaps_top.specs.Demo.{generated_document}
use Rattle.armcaps_top.specs.Document.{Document, document, document_after, document_pair, documents, documents_after, pair_after, unless_refused}
use Rattle.armcaps_top.specs.Inside.{limit_of}
use Rattle.armcaps_top.specs.declared.commands.Command.{Command}
use Rattle.armcaps_top.specs.declared.commands.Command.TheVariants.{Ask, Patch, Elf, Jump, Pool, Audit, Demo}
use Rattle.armcaps_top.specs.declared.reason.Reason.TheVariants.{Refused}
use Rattle.armcaps_top.specs.declared.refusal.Refusal.{Refusal}
use Rattle.armcaps_top.specs.declared.refusal.Refusal.TheVariants.{TooLong, ImageShort, Trailing}
use Rattle.armcaps_top.proofs.Fitting.{never_refused}

-- one whose bytes are too few or too many for its image is refused for these
no_image : (fewer more : Bool) (given image extra limit : ℕ) (found : Document)
    → unless_refused (cond fewer (Some (ImageShort given image)) (cond more (Some (Trailing extra)) None)) found ≡ Err (TooLong limit) → ⊥
no_image true more given image extra limit found is = cc
no_image false true given image extra limit found is = cc
no_image false false given image extra limit found is = cc

after_short : (read : Outcome) (input : List ℕ) (limit : ℕ) → document_after read input ≡ Err (TooLong limit) → ⊥
after_short (Refuses line kind) input limit is = cc
after_short (Reads reading place) input limit is =
    let given : ℕ = length input - place in
    no_image (nat_lt given reading.image) (nat_lt reading.image given) given reading.image (given - reading.image) limit
    (record { reading = reading; image = drop place input }) is

document_short : (input : List ℕ) (limit : ℕ) → length input ≤ (format_of input).input → document input ≡ Err (TooLong limit) → ⊥
unfolding document
document_short input limit within is =
    let test : nat_lt (format_of input).input (length input) ≡ false = grind (arith, nat_tests) in
    after_short (outcome input) input limit (rw test at is)

pair_after_short : (read : Outcome) (input : List ℕ) (limit : ℕ) → pair_after read input ≡ Err (TooLong limit) → ⊥
pair_after_short (Refuses line kind) input limit is = cc
pair_after_short (Reads reading place) input limit is =
    let given : ℕ = length input - place in
    let both : ℕ = 2 * reading.image in
    no_image (nat_lt given both) (nat_lt both given) given both (given - both) limit
    (record { reading = reading; image = drop place input }) is

pair_short : (input : List ℕ) (limit : ℕ) → length input ≤ 269484032 → document_pair input ≡ Err (TooLong limit) → ⊥
unfolding document_pair
pair_short input limit within is =
    let test : nat_lt 269484032 (length input) ≡ false = grind (arith, nat_tests) in
    pair_after_short (outcome input) input limit (rw test at is)

-- texts are refused for no length
texts_short : (texts : Result (List Reading) TextsRefused) (limit : ℕ) → documents_after texts ≡ Err (TooLong limit) → ⊥
texts_short (Ok readings) limit is = cc
texts_short (Err refused) limit is = cc

documents_short : (input : List ℕ) (limit : ℕ) → length input ≤ 67108864 → documents input ≡ Err (TooLong limit) → ⊥
unfolding documents
documents_short input limit within is =
    let test : nat_lt 67108864 (length input) ≡ false = grind (arith, nat_tests) in
    texts_short (texts_of input) limit (rw test at is)

-- an answer of documents that is refused is one of documents that are
all_refused : (read : Result (List Document) Refusal) (refusal : Refusal) → of_documents read ≡ refused refusal → read ≡ Err refusal
all_refused (Err other) refusal is =
    let same : Err (Refused other) ≡ Err (Refused refusal) = ap (λ (answer : Answer). answer.output) is in
    let one : other ≡ refusal = cc in ap Err one
all_refused (Ok all) refusal is = absurd (never_refused all refusal (ap (λ (answer : Answer). answer.output) is))

of_refused : (command : Command) (read : Result Document Refusal) (refusal : Refusal) → of_document command read ≡ refused refusal → read ≡ Err refusal
of_refused command (Ok found) refusal is = absurd (let none : found ∷ [] ≡ [] = ap (λ (answer : Answer). answer.machines) is in let no : ⊥ = cc in no)
of_refused command (Err other) refusal is =
    let same : Err (Refused other) ≡ Err (Refused refusal) = ap (λ (answer : Answer). answer.output) is in
    let one : other ≡ refusal = cc in ap Err one

pub answer_short : (command : Command) (bytes : List ℕ) (limit : ℕ) → length bytes ≤ limit_of command bytes → answer_of command bytes ≡ refused (TooLong limit) → ⊥
answer_short (Ask query) bytes limit within is = document_short bytes limit within (of_refused (Ask query) (document bytes) (TooLong limit) is)
answer_short Patch bytes limit within is = document_short bytes limit within (of_refused Patch (document bytes) (TooLong limit) is)
answer_short (Jump table count) bytes limit within is = document_short bytes limit within (of_refused (Jump table count) (document bytes) (TooLong limit) is)
answer_short Elf bytes limit within is = document_short bytes limit within (of_refused Elf (document bytes) (TooLong limit) is)
answer_short Pool bytes limit within is = documents_short bytes limit within (all_refused (documents bytes) (TooLong limit) is)
answer_short Audit bytes limit within is = pair_short bytes limit within (of_refused Audit (document_pair bytes) (TooLong limit) is)
answer_short (Demo seed cores) bytes limit within is =
    let no = of_refused (Demo seed cores) (Ok (generated_document seed cores)) (TooLong limit) is in absurd (let never : ⊥ = cc in never)
