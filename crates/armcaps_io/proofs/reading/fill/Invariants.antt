use Rattle.std.proofs.Common.{◌-◌, ◌≤◌, take, vec_len}
use Rattle.armcaps_io.specs.Streams.{Moves}
use Rattle.armcaps_io.proofs.reading.fill.Given as goal

abbrev pub invariant-loop-filled : goal.invariant-loop-filled
invariant-loop-filled g l = record {
  filled : l.filled ≤ vec_len l.into;
  within : vec_len l.into ≤ l.stop;
  moved : Moves (g.S.Source.left l.initial.source) (g.S.Source.left l.source)
      l.initial.into.items (take l.filled l.into.items);
  never_falls : g.S.Source.faults l.initial.source ≤ g.S.Source.faults l.source;
}

abbrev pub decreases-loop-filled : goal.decreases-loop-filled
decreases-loop-filled g l = l.stop - l.filled
