-- Lists: maps that agree, the item at a place, and numbers that follow each other.
use Rattle.std.proofs.Common.{◌≡◌, ℕ, zero, suc, ◌+◌, ◌<◌, List, [], ◌∷◌, ◌++◌, length, map, take, drop, Some, slice_get, refl, ap, ◌∙◌, arith, add-zero}
use Rattle.std.specs.List.{range_with_len}

-- two functions that agree everywhere make the same list
pub map_agree : {X Y : Type 0} (f g : X → Y) → ((x : X) → f x ≡ g x) → (xs : List X) → map f xs ≡ map g xs
map_agree f g same [] = refl
map_agree f g same (x ∷ xs) = rw (same x, map_agree f g same xs) refl

pub take-map : {X Y : Type 0} (f : X → Y) (n : ℕ) (xs : List X) → take n (map f xs) ≡ map f (take n xs)
take-map f zero xs = refl
take-map f (suc n) [] = refl
take-map f (suc n) (x ∷ xs) = ap (λ (ys : List _). f x ∷ ys) (take-map f n xs)

pub drop-map : {X Y : Type 0} (f : X → Y) (n : ℕ) (xs : List X) → drop n (map f xs) ≡ map f (drop n xs)
drop-map f zero xs = refl
drop-map f (suc n) [] = refl
drop-map f (suc n) (x ∷ xs) = drop-map f n xs

-- the item at a place, and the items up to it
pub record IsItem {X : Type 0} (xs : List X) (n : ℕ) (x : X) : Type 0 where
  pub here : slice_get xs n ≡ Some x
  pub taken : take (n + 1) xs ≡ take n xs ++ x ∷ []

-- a place within a list has an item
pub item_at : {X : Type 0} (xs : List X) (n : ℕ) → n < length xs → (x : X) × IsItem xs n x
item_at {X} [] n within = absurd (omega arith)
item_at {X} (y ∷ ys) zero within = (y, record { here = refl; taken = refl })
item_at {X} (y ∷ ys) (suc n) within =
    let item = item_at ys n (omega (arith, within)) in
    let next : suc n + 1 ≡ suc (n + 1) = omega arith in (
      item.0,
      record {
        here = item.1.here;
        taken = ap (λ (m : ℕ). take m (y ∷ ys)) next ∙ ap (λ (zs : List X). y ∷ zs) item.1.taken;
      },
    )

-- one number more
pub range_with_len-push : (start count : ℕ) → range_with_len start (count + 1) ≡ range_with_len start count ++ (start + count) ∷ []
range_with_len-push start zero = rw add-zero refl
range_with_len-push start (suc count) =
    let from : start + 1 + count ≡ start + suc count = omega arith in
    let more : suc count + 1 ≡ suc (count + 1) = omega arith in
    rw more (ap (λ xs. start ∷ xs) (range_with_len-push (start + 1) count ∙ ap (λ k. range_with_len (start + 1) count ++ k ∷ []) from))
