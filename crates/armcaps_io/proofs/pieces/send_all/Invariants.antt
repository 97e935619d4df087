use Rattle.std.proofs.Common.{◌≡◌, ◌-◌, ◌%◌, ◌≤◌, ◌⊎◌}
use Rattle.armcaps_io.specs.Pieces.{bytes_from}
use Rattle.armcaps_io.specs.Streams.{Appends}
use Rattle.armcaps_io.proofs.pieces.send_all.Given as goal

-- the sink has the bytes below the place, which is where a piece begins, or the end
abbrev pub invariant-loop-place : goal.invariant-loop-place
invariant-loop-place g l = record {
  within : l.place ≤ l.size;
  begins : l.place % 4096 ≡ 0 ⊎ l.place ≡ l.size;
  sent : Appends (g.O.Sink.held l.fn.sink) (g.O.Sink.held l.sink) (bytes_from (g.T.Pieces.byte l.text) 0 l.place);
  count : g.O.Sink.faults l.fn.sink ≤ g.O.Sink.faults l.sink;
}

abbrev pub decreases-loop-place : goal.decreases-loop-place
decreases-loop-place g l = l.size - l.place
