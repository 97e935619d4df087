-- What becomes of a text that is to take one more part at its end.
use Rattle.std.specs.Prelude.{◌≡◌, ◌≤◌, ◌+◌, ℕ, List, ◌++◌, length, Result, OnOk, OnErr}

-- the text took the part at its end; or it refused it, which it may only where it would have come to this length or
-- more
pub record Extends {V E : Type 0} (result : Result V E) (refused_from : ℕ) (old new part : List ℕ) : Type 0 where
  pub taken : OnOk result (new ≡ old ++ part)
  pub refused : OnErr result (refused_from ≤ length old + length part)
