use Rattle.std.proofs.Common.{arith}
use Rattle.armcaps_io.proofs.StreamLemmas.{Moves-more}
use Rattle.armcaps_io.proofs.reading.fill.Goals as goal

pub loop-filled-preserved : goal.loop-filled-preserved
loop-filled-preserved g c = record {
  filled = c.in_ok-count.ensures.fits;
  within = c.in_ok-count.ensures.len.1;
  moved = Moves-more _ _ _ _ c.loop-filled.into.items c.read_piece.new.into.items c.loop-filled.filled
      c.in_ok-count.count c.in_ok-count.ensures.front c.loop-filled.invariant.moved c.in_ok-count.ensures.given;
  never_falls = omega (arith, c.in_ok-count.ensures.never_falls);
}
