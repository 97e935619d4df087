use Rattle.armcaps_insn.proofs.Moves.{decoded-injective}
use Rattle.armcaps_insn.proofs.laws.decoding_is_one_to_one.Goals as goal

pub returns : goal.returns
returns c = decoded-injective
