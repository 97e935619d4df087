-- The parts of a word round its first byte that passes a test.
use Rattle.std.proofs.Common.{◌≡◌, ℕ, ◌+◌, ◌-◌, Bool, List, [], length, take, drop, Some, None, ap, ◌∙◌, arith}
use Rattle.std.specs.List.{position, before_first, after_first}
use Rattle.std.proofs.lemmas.Grind.{common_steps}
use Rattle.armcaps_logic.proofs.Searches.{position_none, position_some}

-- the parts round the first byte that passes, at its place
pub before_some : (p : ℕ → Bool) (xs : List ℕ) (place : ℕ) → position p xs ≡ Some place
    → take place xs ≡ before_first p xs
before_some p xs place h = let known = position_some p xs place h in ap (λ (n : ℕ). take n xs) known.1

pub after_some : (p : ℕ → Bool) (xs : List ℕ) (place : ℕ) → position p xs ≡ Some place
    → take (length xs - (place + 1)) (drop (place + 1) xs) ≡ after_first p xs
after_some p xs place h =
    let known = position_some p xs place h in
    let whole : take (length xs - (place + 1)) (drop (place + 1) xs) ≡ drop (place + 1) xs =
    grind (arith, common_steps) in
    whole ∙ ap (λ (n : ℕ). drop (n + 1) xs) known.1

-- and where none passes
pub before_none : (p : ℕ → Bool) (xs : List ℕ) → position p xs ≡ None → xs ≡ before_first p xs
before_none p xs h = let far = position_none p xs h in grind (arith, common_steps)

pub after_none : (p : ℕ → Bool) (xs : List ℕ) → position p xs ≡ None → [] ≡ after_first p xs
after_none p xs h = let far = position_none p xs h in grind (arith, common_steps)
