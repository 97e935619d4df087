-- The pieces of a text.
use Rattle.std.specs.Prelude.{ℕ, ◌==◌, Bool, nat_lt, List, length, filter}
use Rattle.std.specs.List.{list_any, slice_split}

-- the byte is one of these separators
abbrev pub separates : List ℕ → ℕ → Bool
separates separators byte = list_any (λ separator. separator == byte) separators

-- what separators cut a text into, without the empty pieces
abbrev pub pieces : List ℕ → List ℕ → List (List ℕ)
pieces separators text = filter (λ piece. nat_lt 0 (length piece)) (slice_split (separates separators) text)
