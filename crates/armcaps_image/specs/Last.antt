-- The last item of a list that passes a test.
use Rattle.std.specs.Prelude.{Bool, List, [], ◌∷◌, Option, Some, None, if◌then◌else◌}
use Rattle.std.specs.Option.{option_or}

-- the last item that passes, if one does
abbrev pub last_that : {X : Type 0} → (X → Bool) → List X → Option X
last_that test [] = None
last_that test (x ∷ xs) = option_or (last_that test xs) (if test x then Some x else None)
