use Rattle.std.proofs.lemmas.Nat.{and_mask}
use Rattle.armcaps_bits.proofs.range.unsigned.Goals as goal

pub returns-clause-value : goal.returns-clause-value
returns-clause-value c = rw (c.low_bits.ensures, and_mask)
