use Rattle.std.proofs.Common.{◌+◌, ◌-◌, take, drop, ap, sym, ◌∙◌, arith}
use Rattle.armcaps_io.proofs.PieceLemmas.{drop-copied}
use Rattle.armcaps_io.proofs.sure_source.SureSourceSource.read.Goals as goal

pub returns-clause-given : goal.returns-clause-given
returns-clause-given c =
    let place = c.self.inside.place in
    let count = c.min-count.result in
    let copied = c.copy_from_slice.ensures.after ∙
    ap (λ l. take (place + count - place) (drop place l)) c.deref.ensures.value in
    ap (λ s. s.left) (sym c.self.view_is) ∙ drop-copied _ _ _ place count copied (omega arith)
