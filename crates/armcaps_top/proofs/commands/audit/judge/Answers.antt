use Rattle.std.proofs.Common.{None, Some, ap, sym, ◌∙◌}
use Rattle.std.proofs.lemmas.Result.{err_from_is_err_and}
use Rattle.armcaps_patch.specs.Features.{features_of}
use Rattle.armcaps_pool.specs.Audits.{named_place}
use Rattle.armcaps_top.proofs.Audited.{after_table, entry_first}
use Rattle.armcaps_top.proofs.commands.audit.judge.Goals as goal

pub returns-in_err-check-clause-refused : goal.returns-in_err-check-clause-refused
returns-in_err-check-clause-refused c =
    let p = err_from_is_err_and c.from_residual.result c.from_residual.ensures.1 in
    rw (p.1, p.2) (entry_first (features_of c.args.boot.now c.args.names.now) c.args.layout c.args.image.now c.args.judged.now _ c.in_err-check.ensures.refused)

pub returns-in-Ok-to_string-clause-taken : goal.returns-in-Ok-to_string-clause-taken
returns-in-Ok-to_string-clause-taken c =
    after_table (features_of c.args.boot.now c.args.names.now) c.args.layout c.args.image.now c.args.judged.now None c.in_ok-check.ensures.stands.accepted
    (sym (ap named_place c.in-Yes.is) ∙ c.in-Ok.ensures)

pub returns-in-No-clause-refused : goal.returns-in-No-clause-refused
returns-in-No-clause-refused c =
    after_table (features_of c.args.boot.now c.args.names.now) c.args.layout c.args.image.now c.args.judged.now (Some c.in-No.place) c.in_ok-check.ensures.stands.accepted
    (sym (ap named_place c.in-No.is) ∙ c.in-Ok.ensures)
