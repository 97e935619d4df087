-- Each piece behind those before it.
use Rattle.std.proofs.Common.{◌≡◌, ◌-◌, ◌%◌, arith, inl, inr, length, length-take, take}
use Rattle.std.proofs.lemmas.Bool.{cases_lt}
use Rattle.std.proofs.lemmas.Result.{err_from_is_err_and}
use Rattle.armcaps_io.proofs.Sent.{prefix_behind, sent_more}
use Rattle.armcaps_io.proofs.pieces.send_all.Goals as goal

pub loop-place-preserved : goal.loop-place-preserved
loop-place-preserved g c =
    let place = c.loop-place.place in
    let count = c.min-count.result in
    let room : length (take count c.loop-place.buffer) ≡ count = omega (arith, length-take count c.loop-place.buffer) in
    let whole : place % 4096 ≡ 0 = elim c.loop-place.invariant.begins [ inl is ↦ is | inr all ↦ absurd (omega arith) ] in
    record {
      within = omega arith;
      begins = elim (cases_lt (c.size-size.result - place) 4096) [ inl last ↦ inr (omega arith) | inr more ↦ inl (omega arith) ];
      sent = sent_more _ _ _ (g.T.Pieces.byte c.args.text.now) 0 place place count (omega arith) c.loop-place.invariant.sent (rw room at c.in_ok-send_piece.ensures.whole);
      count = omega (arith, c.in_ok-send_piece.ensures.never_falls);
    }

pub returns-in_err-send_piece-clause-prefix : goal.returns-in_err-send_piece-clause-prefix
returns-in_err-send_piece-clause-prefix g c =
    let place = c.loop-place.place in
    let count = c.min-count.result in
    let failed = err_from_is_err_and c.from_residual.result c.from_residual.ensures.1 in
    let room : length (take count c.loop-place.buffer) ≡ count = omega (arith, length-take count c.loop-place.buffer) in
    rw failed.1 (prefix_behind _ _ _ (g.T.Pieces.byte c.args.text.now) 0 place place count (g.T.Pieces.size c.args.text.now) (omega arith) (omega arith) c.loop-place.invariant.sent (rw room at c.in_err-send_piece.ensures.prefix))
