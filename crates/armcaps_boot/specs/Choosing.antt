-- The items of a list that are chosen by a test on their number, counted from 0.
use Rattle.std.specs.Prelude.{ℕ, suc, Bool, if◌then◌else◌, List, [], ◌∷◌}

-- those whose number passes the test, in rising number
abbrev pub chosen : {X : Type 0} → (ℕ → Bool) → List X → List X
chosen test [] = []
chosen test (x ∷ xs) = if test 0 then x ∷ chosen (λ n. test (suc n)) xs else chosen (λ n. test (suc n)) xs
