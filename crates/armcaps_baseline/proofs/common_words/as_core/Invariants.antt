use Rattle.std.proofs.Common.{◌≡◌}
use Rattle.armcaps_tables.specs.Core.{word_at}
use Rattle.armcaps_sanit.proofs.SystemWords.{Filled}
use Rattle.armcaps_baseline.proofs.common_words.as_core.Given as goal

-- the registers passed have the machine's words
abbrev pub invariant-loop-reg : goal.invariant-loop-reg
invariant-loop-reg l = Filled (word_at l.system) l.reg-index l.core.words × (l.core.lengths ≡ 0)
