use Rattle.std.proofs.lemmas.Nat.{and_mask}
use Rattle.armcaps_insn.proofs.immediates.field_of.Goals as goal

pub returns-clause-value : goal.returns-clause-value
returns-clause-value c = rw (c.ones.ensures, and_mask)
