use Rattle.std.proofs.Common.{◌≡◌, ◌++◌, length, map, string_bytes}
use Rattle.armcaps_c.specs.Words.{words_in}
use Rattle.armcaps_c.proofs.words.words_of.Given as goal

-- the words so far, with those of the rest, are the line's
abbrev pub invariant-loop-word : goal.invariant-loop-word
invariant-loop-word l = map string_bytes l.words.items ++ words_in l.rest ≡ words_in l.line

abbrev pub decreases-loop-word : goal.decreases-loop-word
decreases-loop-word l = length l.rest
