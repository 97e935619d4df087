-- What callers see of a reader or a writer of std whose errors are counted.
use Rattle.std.specs.Prelude.{ℕ}

-- the reader or the writer, and how many of its answers were errors
pub record CountedState (T : Type 0) : Type 0 where
  pub inner : T
  pub faults : ℕ
