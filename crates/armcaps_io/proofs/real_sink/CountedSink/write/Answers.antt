use Rattle.std.proofs.lemmas.Result.{err_from_is_err_and}
use Rattle.armcaps_io.proofs.StreamLemmas.{AppendsPrefix-of_write}
use Rattle.armcaps_io.proofs.real_sink.CountedSink.write.Goals as goal

pub returns-in_err-count-clause-prefix : goal.returns-in_err-count-clause-prefix
returns-in_err-count-clause-prefix g c =
    let failed = err_from_is_err_and c.from_residual.result c.from_residual.ensures.1 in
    let wrote = c.write_some-written in
    rw (failed.1, c.count.ensures.inner, c.count-written.ensures.inner, ← c.self.view_is)
    (AppendsPrefix-of_write wrote.result _ _ _ c.args.piece.now wrote.ensures.bytes c.flush-flushed.ensures.bytes)
