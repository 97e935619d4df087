-- The first entry of a table that is refused.
use Rattle.std.proofs.Common.{◌≡◌, ◌<◌, ℕ, List, None, Some, arith, get_or, is_some, refl, zero-add, ◌∙◌}
use Rattle.std.specs.List.{find, range_with_len}
use Rattle.std.proofs.lemmas.List.FromFn.{get_or-range_with_len, length-range_with_len}
use Rattle.armcaps_logic.proofs.Searches.{find_absent, find_present}
use Rattle.armcaps_jump.specs.Entries.{entry_at}
use Rattle.armcaps_jump.specs.Refusals.{first_refusal, kind_of}

pub none_refused : (image : List ℕ) (table count : ℕ)
    → ((k : ℕ) → k < count → kind_of image (entry_at image table k) ≡ None) → first_refusal image table count ≡ None
none_refused image table count accepted =
    let none : find (λ number. is_some (kind_of image (entry_at image table number))) (range_with_len 0 count) ≡ None =
    find_absent _ (range_with_len 0 count) (λ k d within.
    let inside : k < count = omega (arith, length-range_with_len 0 count) in
    let here : get_or (range_with_len 0 count) k d ≡ k = get_or-range_with_len 0 count k d inside ∙ zero-add k in
    rw (here, accepted k inside) refl) in
    rw none refl

pub first_refused : (image : List ℕ) (table count k kind : ℕ) → k < count
    → ((j : ℕ) → j < k → kind_of image (entry_at image table j) ≡ None)
    → kind_of image (entry_at image table k) ≡ Some kind
    → first_refusal image table count ≡ Some (record { entry = k; kind = kind })
first_refused image table count k kind within before refused =
    let here : get_or (range_with_len 0 count) k 0 ≡ k = get_or-range_with_len 0 count k 0 within ∙ zero-add k in
    let first : find (λ number. is_some (kind_of image (entry_at image table number))) (range_with_len 0 count) ≡ Some (get_or (range_with_len 0 count) k 0) =
    find_present _ (range_with_len 0 count) k 0 (omega (arith, length-range_with_len 0 count)) (λ j less.
    let inside : j < count = omega arith in
    let there : get_or (range_with_len 0 count) j 0 ≡ j = get_or-range_with_len 0 count j 0 inside ∙ zero-add j in
    rw (there, before j less) refl) (rw (here, refused) refl) in
    rw (first, here, refused) refl
