-- What is asked of the words of a replacement, one after the other.
use Rattle.std.proofs.Common.{◌≡◌, ◌+◌, ◌<◌, ◌||◌, ◌∷◌, ℕ, Bool, List, [], Result, Ok, ap, arith, refl, true, ◌∙◌}
use Rattle.std.proofs.Math.Bool.{or-false}
use Rattle.std.specs.List.{list_any}
use Rattle.std.proofs.lemmas.List.Folds.{list_any-append, list_any_at}
use Rattle.std.proofs.lemmas.List.FromFn.{get_or-map-range_with_len, length-map-range_with_len, map-range_with_len_more}
use Rattle.armcaps_insn.specs.declared.correction.FixRefused.{FixRefused}
use Rattle.armcaps_patch.specs.declared.kept.Kept.{Kept}
use Rattle.armcaps_patch.specs.Kept.{moved_word}
use Rattle.armcaps_patch.specs.Replaced.{moved_words}

-- one word more
pub any_more : (test : Result ℕ FixRefused → Bool) (image : List ℕ) (kept : Kept) (n : ℕ) → list_any test (moved_words image kept (n + 1)) ≡ (list_any test (moved_words image kept n) || test (moved_word image kept n))
any_more test image kept n =
    let more = map-range_with_len_more (moved_word image kept) 0 n n (omega arith) in
    rw (more, list_any-append test (moved_words image kept n) (moved_word image kept n ∷ [])) (rw (or-false (test (moved_word image kept n))) refl)

-- a word that passes
pub any_here : (test : Result ℕ FixRefused → Bool) (image : List ℕ) (kept : Kept) (k n : ℕ) → k < n → test (moved_word image kept k) ≡ true → list_any test (moved_words image kept n) ≡ true
any_here test image kept k n within passes =
    let at = get_or-map-range_with_len (moved_word image kept) 0 n k k (Ok 0) within (omega arith) in
    list_any_at test (moved_words image kept n) k (Ok 0) (omega (arith, within, length-map-range_with_len (moved_word image kept) 0 n)) (ap test at ∙ passes)
