-- What a source gave and what a sink got. Bytes that are not told (`None`) claim nothing.
use Rattle.std.specs.Prelude.{◌≡◌, ℕ, ◌<◌, ◌≤◌, List, [], ◌++◌, length, Option, None, Some, IfSome}
pub use Rattle.std.specs.Io.KnownBytes.{Keeps, Appends, Consumes, IsAtEnd}

-- a sink got a first part of the bytes, which may be all of them or none
pub record AppendsPrefix (old new : Option (List ℕ)) (piece : List ℕ) : Type 0 where
  pub part : List ℕ
  pub rest : List ℕ
  pub whole : part ++ rest ≡ piece
  pub appended : Appends old new part

-- a source was read to its end: these are all the bytes that it had left, and none is left
abbrev pub GivesAll : Option (List ℕ) → Option (List ℕ) → List ℕ → Type 0
GivesAll None new bytes = IsAtEnd new
GivesAll (Some xs) new bytes = (bytes ≡ xs) × (new ≡ Some [])

-- a source had more than n bytes left
abbrev pub HasMoreThan : Option (List ℕ) → ℕ → Type 0
HasMoreThan left n = IfSome left (λ bytes. n < length bytes)

-- a source gave n bytes
pub record GivesCount (old new : Option (List ℕ)) (n : ℕ) : Type 0 where
  pub part : List ℕ
  pub count : length part ≡ n
  pub given : Consumes old new part

-- a source gave n bytes or fewer
pub record GivesAtMost (old new : Option (List ℕ)) (n : ℕ) : Type 0 where
  pub part : List ℕ
  pub count : length part ≤ n
  pub given : Consumes old new part

-- a list grew by what a source gave, and by nothing else
pub record Moves (old new : Option (List ℕ)) (before after : List ℕ) : Type 0 where
  pub part : List ℕ
  pub grown : after ≡ before ++ part
  pub given : Consumes old new part
