use Rattle.std.proofs.Common.{length}
use Rattle.armcaps_text.specs.Reader.{so_far}
use Rattle.armcaps_text.proofs.FirstLineWithKind.{Walked}
use Rattle.armcaps_text.proofs.machine.read_lines.Given as goal

abbrev pub invariant-loop-line : goal.invariant-loop-line
invariant-loop-line l = Walked l.format l.text l.rest l.lines (so_far l.reader)

abbrev pub decreases-loop-line : goal.decreases-loop-line
decreases-loop-line l = length l.rest
