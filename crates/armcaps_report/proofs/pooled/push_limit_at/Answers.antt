use Rattle.armcaps_tables.specs.RowOf.{row_of}
use Rattle.armcaps_report.proofs.Limits.{limit_told}
use Rattle.armcaps_report.proofs.pooled.push_limit_at.Goals as goal

pub returns : goal.returns
returns c =
    limit_told c.push_limit.result c.args.baseline.now c.args.register c.field.result.reg c.args.index
    (row_of c.field.result) c.limit-machine.result _ _ c.field.ensures.row c.field.ensures.reg
    (c.limit-machine.ensures (row_of c.field.result) c.field.ensures.row) c.push_limit.ensures
