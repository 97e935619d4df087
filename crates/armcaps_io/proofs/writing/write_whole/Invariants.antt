use Rattle.std.proofs.Common.{◌-◌, ◌≤◌, length, take}
use Rattle.armcaps_io.specs.Streams.{Appends}
use Rattle.armcaps_io.proofs.writing.write_whole.Given as goal

abbrev pub invariant-loop-written : goal.invariant-loop-written
invariant-loop-written g l = record {
  within : l.written ≤ length l.piece;
  appended : Appends (g.O.Sink.held l.initial.sink) (g.O.Sink.held l.sink) (take l.written l.piece);
  never_falls : g.O.Sink.faults l.initial.sink ≤ g.O.Sink.faults l.sink;
}

abbrev pub decreases-loop-written : goal.decreases-loop-written
decreases-loop-written g l = length l.piece - l.written
