use Rattle.std.proofs.Common.{arith, length-drop, length-take}
use Rattle.std.proofs.lemmas.Result.{err_from_is_err_and}
use Rattle.armcaps_io.proofs.StreamLemmas.{Appends-further, AppendsPrefix-take}
use Rattle.armcaps_io.proofs.writing.write_whole.Goals as goal

pub loop-written-preserved : goal.loop-written-preserved
loop-written-preserved g c = record {
  within = grind (arith, c.in_ok-written.ensures.within, length-drop, length-take);
  appended = Appends-further _ _ _ c.args.piece.now c.loop-written.written c.in_ok-written.field-0
      c.loop-written.invariant.appended c.in_ok-written.ensures.appended;
  never_falls = omega (arith, c.in_ok-written.ensures.never_falls);
}

pub returns-in_err-written-clause-prefix : goal.returns-in_err-written-clause-prefix
returns-in_err-written-clause-prefix g c =
    let failed = err_from_is_err_and c.from_residual.result c.from_residual.ensures.1 in
    let appended = c.loop-written.invariant.appended in
    let kept = c.in_err-written.ensures.kept in
    rw failed.1 (AppendsPrefix-take _ _ _ c.args.piece.now c.loop-written.written appended kept)
