use Rattle.armcaps_tables.specs.Core.{core_word, word_at}
use Rattle.armcaps_tables.specs.Merging.{merged_word}
use Rattle.armcaps_sanit.proofs.SystemWords.{Filled}
use Rattle.armcaps_sanit.proofs.register_word.merged_words.Given as goal

-- the registers passed have their words
abbrev pub invariant-loop-place : goal.invariant-loop-place
invariant-loop-place l = Filled (λ reg. merged_word reg (word_at l.words reg) (core_word l.core reg)) l.place l.merged
