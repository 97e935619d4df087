use Rattle.std.proofs.Common.{◌∙◌, ◌+◌, ◌/◌, ap, sym, length, ◌==◌, ◌&&◌}
use Rattle.armcaps_image.specs.Places.{as_place}
use Rattle.armcaps_pool.specs.Judging.{features_by, is_marked, is_other, is_wrong_by}
use Rattle.armcaps_pool.proofs.Bytes.{first_same}
use Rattle.armcaps_pool.proofs.Judged.{while_unmarked}
use Rattle.armcaps_pool.proofs.sites.judge_word.Goals as goal

pub returns-clause-first : goal.returns-clause-first
returns-clause-first c =
    let unmarked = ap (λ s. is_marked c.args.marks.now (s / 4 + c.args.index)) (sym c.site_of.ensures)
    ∙ sym c.is_marked.ensures ∙ c.if-is_marked.false in
    first_same
    (λ place. (place / 4 == as_place c.args.entry.now.site / 4 + c.args.index)
    && is_other (features_by c.args.names.now c.args.ctr) c.args.image.now c.args.patched.now c.args.entry.now place)
    (λ place. (place / 4 == as_place c.args.entry.now.site / 4 + c.args.index)
    && is_wrong_by (features_by c.args.names.now c.args.ctr) c.args.image.now c.args.patched.now c.args.marks.now
    c.args.entry.now place)
    (length c.args.image.now) c.first_other.result
    (λ place within. while_unmarked c.args.marks.now
    (is_other (features_by c.args.names.now c.args.ctr) c.args.image.now c.args.patched.now c.args.entry.now)
    (as_place c.args.entry.now.site / 4 + c.args.index) place unmarked)
    c.first_other.ensures
