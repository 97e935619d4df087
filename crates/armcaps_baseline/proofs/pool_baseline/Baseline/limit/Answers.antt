use Rattle.std.proofs.Common.{ap, sym, ◌∙◌, rules, w64, List, ℕ}
use mir.Val.{SFits}
use Rattle.armcaps_tables.specs.RowOf.{row_of}
use Rattle.armcaps_baseline.specs.Baselines.{baseline_field}
use Rattle.armcaps_baseline.proofs.Limiting.{held_value, kept_value}
use Rattle.armcaps_baseline.proofs.pool_baseline.Baseline.limit.Goals as goal

pub limit_in-requires-clause-whole : goal.limit_in-requires-clause-whole
limit_in-requires-clause-whole c =
    let fits : SFits w64 c.field-whole.result = search rules in
    let reg = c.field-row.ensures.reg in
    held_value c.field-whole.result _ fits
    (kept_value c.self.inside.machines.items c.self.inside.whole c.args.reg c.args.index (row_of c.field-row.result)
    c.field-whole.result c.self.invariant.some c.self.invariant.words c.field-whole.ensures.field c.field-row.ensures.row
    ∙ ap (λ (ms : List (List ℕ)). baseline_field ms c.args.reg (row_of c.field-row.result)) (sym c.deref.ensures.value)
    ∙ ap (λ r. baseline_field c.deref.result.now r (row_of c.field-row.result)) (sym c.field-row.ensures.reg))
