-- What `pool` writes is the baseline of its machines.
use Rattle.std.proofs.Common.{◌≡◌, Bool, true, false, ℕ, zero, suc, ◌+◌, ◌==◌, ◌<◌, ◌≤◌, List, [], ◌∷◌, Option, Some, None, drop, length, map, nat_lt, refl, sym, ap, subst, ◌∙◌, arith}
use Rattle.std.specs.Prelude.{Result, Ok, Err}
use Rattle.std.proofs.lemmas.List.{length-map}
use Rattle.armcaps_baseline.proofs.Baselines.{all_accept, limits, none_better}
use Rattle.armcaps_report.specs.Pooled.{pool_report_of}
use Rattle.armcaps_text.specs.Document.{Outcome, Reads, Reading, Refuses, outcome}
use Rattle.armcaps_text.specs.Texts.{before_others, nothing_or, texts_after, texts_from, texts_of, unless_image}
use Rattle.armcaps_text.specs.declared.texts.TextsRefused.{TextsRefused}
use Rattle.armcaps_top.specs.Answer.{answer_of, findings_in, first_stop, of_documents}
use Rattle.armcaps_top.specs.Document.{Document, documents, documents_after, without_image}
use Rattle.armcaps_top.specs.Patch.{unless}
use Rattle.armcaps_top.specs.Pool.{pool_output, words_found}
use Rattle.armcaps_top.specs.PooledMachines.{TellsBaseline, words_in}
use Rattle.armcaps_top.specs.declared.commands.Command.TheVariants.{Pool}
use Rattle.armcaps_top.specs.declared.reason.Reason.{Reason}
use Rattle.armcaps_top.specs.declared.refusal.Refusal.{Refusal}

-- how many texts there are
record AreSo (room : ℕ) (readings : List Reading) : Type 0 where
  some : 0 < length readings
  few : length readings ≤ room

-- at most so many
abbrev AtMost : ℕ → Result (List Reading) TextsRefused → Type 0
AtMost room texts = (readings : List Reading) → texts ≡ Ok readings → length readings ≤ room

-- one more than others
with_others : (room : ℕ) (reading : Reading) (others : Result (List Reading) TextsRefused) → AtMost room others → (readings : List Reading)
    → before_others reading others ≡ Ok readings → AreSo (suc room) readings
with_others room reading (Err refused) most readings is = absurd (let no : ⊥ = cc in no)
with_others room reading (Ok others) most readings is =
    let same : reading ∷ others ≡ readings = cc in
    let few : length others ≤ room = most others refl in
    subst (λ (r : List Reading). AreSo (suc room) r) same (record { some = omega arith; few = omega (arith, few) })

nothing_more : (room : ℕ) (others : List ℕ → Result (List Reading) TextsRefused) (bytes : List ℕ) → ((b : List ℕ) → AtMost room (others b)) → AtMost room (nothing_or others bytes)
nothing_more room others [] most readings is = let same : [] ≡ readings = cc in subst (λ (r : List Reading). length r ≤ room) same (omega arith)
nothing_more room others (byte ∷ bytes) most readings is = most (byte ∷ bytes) readings is

at_image : (room number : ℕ) (reading : Reading) (others : Result (List Reading) TextsRefused) (empty : Bool) → AtMost room others → (readings : List Reading)
    → unless_image empty number reading others ≡ Ok readings → AreSo (suc room) readings
at_image room number reading others true most readings is = with_others room reading others most readings is
at_image room number reading others false most readings is = absurd (let no : ⊥ = cc in no)

at_outcome : (room number : ℕ) (input : List ℕ) (others : List ℕ → Result (List Reading) TextsRefused) (read : Outcome) → ((b : List ℕ) → AtMost room (others b))
    → (readings : List Reading) → texts_after others number input read ≡ Ok readings → AreSo (suc room) readings
at_outcome room number input others (Refuses line kind) most readings is = absurd (let no : ⊥ = cc in no)
at_outcome room number input others (Reads reading place) most readings is =
    at_image room number reading (nothing_or others (drop place input)) (reading.image == 0) (nothing_more room others (drop place input) most) readings is

so_many : (room number : ℕ) (input : List ℕ) → AtMost room (texts_from room number input)
so_many zero number input readings is = absurd (let no : ⊥ = cc in no)
so_many (suc room) number input readings is =
    (at_outcome room number input (texts_from room (number + 1)) (outcome input) (λ bytes. so_many room (number + 1) bytes) readings is).few

texts_are : (input : List ℕ) (readings : List Reading) → texts_of input ≡ Ok readings → AreSo 64 readings
unfolding texts_of
texts_are input readings is = at_outcome 63 0 input (texts_from 63 1) (outcome input) (λ bytes. so_many 63 1 bytes) readings is

-- the documents of texts
after_texts : (texts : Result (List Reading) TextsRefused) (found : List Document) → documents_after texts ≡ Ok found
    → (readings : List Reading) × ((texts ≡ Ok readings) × (map without_image readings ≡ found))
after_texts (Ok readings) found is = let same : map without_image readings ≡ found = cc in (readings, (refl, same))
after_texts (Err refused) found is = absurd (let no : ⊥ = cc in no)

within_limit : (input : List ℕ) (longer : Bool) (found : List Document)
    → nat_lt 67108864 (length input) ≡ longer → documents input ≡ Ok found → documents_after (texts_of input) ≡ Ok found
unfolding documents
within_limit input true found test is = absurd (let never = rw test at is in let no : ⊥ = cc in no)
within_limit input false found test is = rw test at is

documents_are : (input : List ℕ) (found : List Document) → documents input ≡ Ok found → (0 < length found) × (length found ≤ 64)
documents_are input found is =
    let texts = after_texts (texts_of input) found (within_limit input (nat_lt 67108864 (length input)) found refl is) in
    let so = texts_are input texts.0 texts.1.0 in
    let count : length found ≡ length texts.0 = ap length (sym texts.1.1) ∙ length-map texts.0 without_image in
    (omega (arith, so.some, count), omega (arith, so.few, count))

-- the text that is written
text_is : (why : Option Reason) (written text : List ℕ) → unless why written ≡ Ok text → text ≡ written
text_is None written text is = let same : written ≡ text = cc in sym same
text_is (Some reason) written text is = absurd (let no : ⊥ = cc in no)

words_each_of : (found : List Document) → map words_found (map findings_in found) ≡ map words_in found
words_each_of [] = refl
words_each_of (one ∷ more) = ap (λ (words : List (List ℕ)). words_in one ∷ words) (words_each_of more)

pub tells_baseline : (input : List ℕ) (found : List Document) (text : List ℕ) → documents input ≡ Ok found → (answer_of Pool input).output ≡ Ok text → TellsBaseline found text
tells_baseline input found text read is =
    let words : List (List ℕ) = map words_in found in
    let counts = documents_are input found read in
    let some : 0 < length words = omega (arith, length-map found words_in, counts.0) in
    let made : unless (first_stop 0 found) (pool_output (map findings_in found)) ≡ Ok text =
    sym (ap (λ (all : Result (List Document) Refusal). (of_documents all).output) read) ∙ is in
    let written : text ≡ pool_report_of words = text_is (first_stop 0 found) (pool_output (map findings_in found)) text made ∙ ap pool_report_of (words_each_of found) in
    record {
      some = counts.0;
      few = counts.1;
      told = written;
      accepted = all_accept words;
      best = λ set accepted. none_better words set some accepted;
      limited = λ reg row. limits words reg row some;
    }
