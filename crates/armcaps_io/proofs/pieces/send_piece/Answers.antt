-- The buffer holds the piece.
use Rattle.std.proofs.Common.{length}
use Rattle.armcaps_io.proofs.Sent.{piece_bytes}
use Rattle.armcaps_io.proofs.pieces.send_piece.Goals as goal

pub returns-clause-whole : goal.returns-clause-whole
returns-clause-whole g c =
    let filled = piece_bytes (g.T.Pieces.byte c.args.text.now) c.args.from (length c.args.buffer.now) c.fill.new.buffer c.fill.auto.buffer c.fill.ensures in
    rw (← filled) c.write_whole.ensures.whole

pub returns-clause-prefix : goal.returns-clause-prefix
returns-clause-prefix g c =
    let filled = piece_bytes (g.T.Pieces.byte c.args.text.now) c.args.from (length c.args.buffer.now) c.fill.new.buffer c.fill.auto.buffer c.fill.ensures in
    rw (← filled) c.write_whole.ensures.prefix
