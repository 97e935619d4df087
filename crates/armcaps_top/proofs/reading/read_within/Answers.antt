use Rattle.std.proofs.Common.{ℕ, List, Ok, ap, arith, refl, subst}
use Rattle.armcaps_io.specs.Streams.{Moves}
use Rattle.armcaps_top.proofs.Limits.{is_longer}
use Rattle.armcaps_top.proofs.reading.read_within.Goals as goal

pub returns-else-ended-clause-unread : goal.returns-else-ended-clause-unread
returns-else-ended-clause-unread g c =
    let left = g.S.Source.left c.args.source.now in
    let after = g.S.Source.left c.read_past.new.source in
    let bytes : List ℕ = c.read_past.new.bytes.items in
    let moved = subst (λ (none : List ℕ). Moves left after none bytes) c.new-bytes.ensures.items c.read_past.ensures.moved in
    (refl, is_longer left after bytes c.args.limit moved (omega (arith, c.in_ok-ended.ensures.full (ap Ok c.if-ended.false))))
