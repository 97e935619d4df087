-- What callers see of the sources and the sink that keep their bytes in memory.
use Rattle.std.specs.Prelude.{ℕ, List}

-- a source without faults: the bytes that it has left, and how many it gives at most in one call
pub record SureState : Type 0 where
  pub left : List ℕ
  pub piece : ℕ

-- a source with faults: also the numbers of the calls that fail, the last call's number, and the count of faults
pub record SourceState : Type 0 where
  pub left : List ℕ
  pub piece : ℕ
  pub fails : List ℕ
  pub calls : ℕ
  pub faults : ℕ

-- a sink: the bytes that it holds, how many it can hold, how many it takes at most in one call, and of its calls what
-- a source with faults has
pub record SinkState : Type 0 where
  pub held : List ℕ
  pub room : ℕ
  pub piece : ℕ
  pub fails : List ℕ
  pub calls : ℕ
  pub faults : ℕ
