-- Words that take no address from the place where they stand.
use Rattle.std.proofs.Common.{◌≡◌, ◌+◌, ◌*◌, ◌/◌, ◌<◌, ℕ, Bool, List, None, Result, Ok, ap, arith, false, not, refl, ◌∙◌}
use Rattle.std.specs.List.{list_any}
use Rattle.std.proofs.lemmas.Bool.{not-false}
use Rattle.std.proofs.lemmas.List.Folds.{list_any_none}
use Rattle.std.proofs.lemmas.List.FromFn.{get_or-map-range_with_len, length-map-range_with_len}
use Rattle.armcaps_alt.specs.Refusals.{first_kind, is_literal, is_out_of_range}
use Rattle.armcaps_image.specs.Bytes.{word_in}
use Rattle.armcaps_insn.specs.declared.correction.FixRefused.{FixRefused}
use Rattle.armcaps_insn.specs.declared.instruction_class.Class.TheVariants.{Other}
use Rattle.armcaps_insn.specs.Encodings.{class_of}
use Rattle.armcaps_insn.specs.Moved.{takes_no_address}
use Rattle.armcaps_insn.proofs.HighBytes.{takes_none}
use Rattle.armcaps_patch.specs.Replaced.{moved_words, word_tests}
use Rattle.armcaps_patch.specs.declared.kept.Kept.{Kept}
use Rattle.armcaps_patch.specs.Kept.{moved_word}

-- a word that is not told to take an address takes none
pub plain : (word : ℕ) → not (takes_no_address (class_of word)) ≡ false → class_of word ≡ Other
plain word told = takes_none (class_of word) (not-false (takes_no_address (class_of word)) told)

-- such a word moves as it is
pub plain_moved : (image : List ℕ) (kept : Kept) (k : ℕ) → class_of (word_in image (kept.repl + 4 * k)) ≡ Other → moved_word image kept k ≡ Ok (word_in image (kept.repl + 4 * k))
plain_moved image kept k is = rw is refl

-- so a word moves that is not told to take an address
pub told_moved : (image : List ℕ) (kept : Kept) (k : ℕ) → not (takes_no_address (class_of (word_in image (kept.repl + 4 * k)))) ≡ false → moved_word image kept k ≡ Ok (word_in image (kept.repl + 4 * k))
told_moved image kept k told = plain_moved image kept k (plain (word_in image (kept.repl + 4 * k)) told)

-- where all words are such, no test that a moved word never passes holds of one
none_passes : (test : Result ℕ FixRefused → Bool) → ((word : ℕ) → test (Ok word) ≡ false) → (image : List ℕ) (kept : Kept) (n : ℕ) → ((k : ℕ) → k < n → class_of (word_in image (kept.repl + 4 * k)) ≡ Other) → list_any test (moved_words image kept n) ≡ false
none_passes test fine image kept n plain = list_any_none test (moved_words image kept n) (λ k d within.
    let inside : k < n = omega (arith, within, length-map-range_with_len (moved_word image kept) 0 n) in
    let at = get_or-map-range_with_len (moved_word image kept) 0 n k k d inside (omega arith) in
    ap test (at ∙ plain_moved image kept k (plain k inside)) ∙ fine (word_in image (kept.repl + 4 * k)))

pub none_literal : (image : List ℕ) (kept : Kept) (n : ℕ) → ((k : ℕ) → k < n → class_of (word_in image (kept.repl + 4 * k)) ≡ Other) → list_any is_literal (moved_words image kept n) ≡ false
none_literal image kept n plain = none_passes is_literal (λ word. refl) image kept n plain

pub none_out_of_range : (image : List ℕ) (kept : Kept) (n : ℕ) → ((k : ℕ) → k < n → class_of (word_in image (kept.repl + 4 * k)) ≡ Other) → list_any is_out_of_range (moved_words image kept n) ≡ false
none_out_of_range image kept n plain = none_passes is_out_of_range (λ word. refl) image kept n plain

-- so no word is refused
pub none_refused : (image : List ℕ) (kept : Kept) → ((k : ℕ) → k < kept.len / 4 → class_of (word_in image (kept.repl + 4 * k)) ≡ Other) → None ≡ first_kind (word_tests image kept)
none_refused image kept plain = rw (none_literal image kept (kept.len / 4) plain, none_out_of_range image kept (kept.len / 4) plain) refl
