use Rattle.armcaps_insn.proofs.Moves.{literal_refused, moves, stays}
use Rattle.armcaps_insn.proofs.laws.words_stay_or_move.Goals as goal

pub returns-clause-stays : goal.returns-clause-stays
returns-clause-stays c = stays

pub returns-clause-literal : goal.returns-clause-literal
returns-clause-literal c = literal_refused

pub returns-clause-moves : goal.returns-clause-moves
returns-clause-moves c = moves
