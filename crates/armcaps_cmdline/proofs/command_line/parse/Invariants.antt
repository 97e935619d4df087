use Rattle.std.proofs.Common.{length}
use Rattle.armcaps_cmdline.proofs.RemainingWords.{Remains}
use Rattle.armcaps_cmdline.proofs.command_line.parse.Given as goal

-- with what is left, the overrides so far become those of the whole text
abbrev pub invariant-loop-word : goal.invariant-loop-word
invariant-loop-word l = Remains l.text l.rest l.overrides

abbrev pub decreases-loop-word : goal.decreases-loop-word
decreases-loop-word l = length l.rest
