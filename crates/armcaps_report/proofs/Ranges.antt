-- Lines that are added one after the other.
use Rattle.std.proofs.Common.{◌≡◌, ℕ, ◌+◌, ◌<◌, List, [], ◌∷◌, ◌++◌, length, take, get_or, slice_get, Some, refl, sym, ◌∙◌, ap, arith, append-nil, append_assoc, add-zero, zero-add, suc, zero}
use Rattle.std.specs.List.{flat_map, range_with_len}
use Rattle.std.proofs.lemmas.List.{take_more}
use Rattle.std.proofs.lemmas.List.Concat.{flat_map-append}
use Rattle.armcaps_logic.proofs.Lists.{item_at}

range_push : (a n : ℕ) → range_with_len a (n + 1) ≡ range_with_len a n ++ (a + n) ∷ []
range_push a zero = rw add-zero refl
range_push a (suc n) =
    let start : a + 1 + n ≡ a + suc n = omega arith in
    let more : suc n + 1 ≡ suc (n + 1) = omega arith in
    rw more (ap (λ xs. a ∷ xs) (range_push (a + 1) n ∙ ap (λ k. range_with_len (a + 1) n ++ k ∷ []) start))

-- one line more behind those of the items before
one_more : {X : Type 0} (line : X → List ℕ) (items more : List X) (item : X) (old mid new : List ℕ) → more ≡ items ++ item ∷ [] →
    mid ≡ old ++ flat_map line items → new ≡ mid ++ line item → new ≡ old ++ flat_map line more
one_more line items more item old mid new next so_far added =
    let lines : flat_map line more ≡ flat_map line items ++ line item =
    ap (flat_map line) next ∙ flat_map-append line items (item ∷ []) ∙ ap (λ xs. flat_map line items ++ xs) (append-nil (line item)) in
    added ∙ ap (λ xs. xs ++ line item) so_far ∙ append_assoc old (flat_map line items) (line item) ∙ ap (λ xs. old ++ xs) (sym lines)

-- the line of the next number, counted from a first one
pub number_more_from : (line : ℕ → List ℕ) (a n : ℕ) (old mid new : List ℕ) →
    mid ≡ old ++ flat_map line (range_with_len a n) → new ≡ mid ++ line (a + n) → new ≡ old ++ flat_map line (range_with_len a (n + 1))
number_more_from line a n old mid new so_far added =
    one_more line (range_with_len a n) (range_with_len a (n + 1)) (a + n) old mid new (range_push a n) so_far added

-- the line of the next number, counted from 0
pub number_more : (line : ℕ → List ℕ) (n : ℕ) (old mid new : List ℕ) →
    mid ≡ old ++ flat_map line (range_with_len 0 n) → new ≡ mid ++ line n → new ≡ old ++ flat_map line (range_with_len 0 (n + 1))
number_more line n old mid new so_far added = number_more_from line 0 n old mid new so_far (rw zero-add added)

-- the line of the next item of a list
pub item_more : {X : Type 0} (line : X → List ℕ) (items : List X) (i : ℕ) (d : X) (old mid new : List ℕ) → i < length items →
    mid ≡ old ++ flat_map line (take i items) → new ≡ mid ++ line (get_or items i d) → new ≡ old ++ flat_map line (take (i + 1) items)
item_more line items i d old mid new inside so_far added =
    one_more line (take i items) (take (i + 1) items) (get_or items i d) old mid new (take_more items i d inside) so_far added

-- the same, where the line is known of whatever item the list has there
pub listed_more : {X : Type 0} (line : X → List ℕ) (items : List X) (i : ℕ) (old mid new : List ℕ) → i < length items →
    mid ≡ old ++ flat_map line (take i items) → ((item : X) → slice_get items i ≡ Some item → new ≡ mid ++ line item) →
    new ≡ old ++ flat_map line (take (i + 1) items)
listed_more line items i old mid new inside so_far added =
    let item = item_at items i inside in
    one_more line (take i items) (take (i + 1) items) item.0 old mid new item.1.taken so_far (added item.0 item.1.here)
