use Rattle.std.proofs.Common.{◌∷◌, []}
use Rattle.armcaps_sanit.specs.System.{system_word}
use Rattle.armcaps_sanit.proofs.SystemWords.{Filled}
use Rattle.armcaps_sanit.proofs.register_word.first_words.Given as goal

-- the registers passed have their words
abbrev pub invariant-loop-place : goal.invariant-loop-place
invariant-loop-place l = Filled (system_word l.overrides (l.core ∷ [])) l.place l.words
