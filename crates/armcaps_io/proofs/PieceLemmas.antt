-- A piece that is copied out of a list.
use Rattle.std.proofs.Common.{◌≡◌, ℕ, ◌+◌, ◌-◌, ◌≤◌, List, ◌++◌, length, take, drop, ap, sym, ◌∙◌, arith, length-drop, length-take-le, take_at, take-append-drop}
use Rattle.std.proofs.lemmas.List.{drop-drop}

-- the list from `place` on is the piece that was copied to the front of `buf`, and what stands after it
pub drop-copied : (items buf copied : List ℕ) (place count : ℕ)
    → copied ≡ take (place + count - place) (drop place items) → place + count ≤ length items
    → drop place items ≡ take count (copied ++ drop count buf) ++ drop (place + count) items
drop-copied items buf copied place count is within =
    let rest = drop place items in
    let exact : place + count - place ≡ count = omega arith in
    let same : copied ≡ take count rest = is ∙ ap (λ k. take k rest) exact in
    let room : count ≤ length rest = omega (arith, length-drop place items) in
    let long : length copied ≡ count = ap length same ∙ length-take-le count rest room in
    let front : take count (copied ++ drop count buf) ≡ take count rest =
    take_at copied (drop count buf) count long ∙ same in
    let back : drop (place + count) items ≡ drop count rest = sym (drop-drop count place items) in
    sym (ap (λ l. l ++ drop (place + count) items) front ∙ ap (λ l. take count rest ++ l) back ∙
    take-append-drop count rest)
