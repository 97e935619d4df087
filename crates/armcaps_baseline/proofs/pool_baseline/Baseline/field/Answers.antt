use Rattle.std.proofs.Common.{◌∙◌, ap, sym, List, ℕ, ℤ, Some, slice_get, rules, refl, w64}
use Rattle.std.specs.Option.{option_map}
use Rattle.std.proofs.lemmas.Int.{to_z-of_z}
use mir.Val.{SFits}
use Rattle.armcaps_tables.specs.Core.{word_at}
use Rattle.armcaps_tables.specs.Fields.{field_in}
use Rattle.armcaps_tables.specs.Rows.{rows_of}
use Rattle.armcaps_baseline.specs.Baselines.{baseline_field}
use Rattle.armcaps_baseline.proofs.Limiting.{kept_value, told_value}
use Rattle.armcaps_baseline.proofs.pool_baseline.Baseline.field.Goals as goal

pub returns : goal.returns
returns c =
    let fits : SFits w64 c.field.result = search rules in
    let machines : List (List ℕ) = c.self.inside.machines.items in
    ap (λ (ms : List (List ℕ)). option_map (baseline_field ms c.args.reg) (slice_get (rows_of c.args.reg) c.args.index))
    (sym c.self.view_is)
    ∙ told_value c.self.inside.machines.items c.args.reg c.args.index (slice_get (rows_of c.args.reg) c.args.index)
    (λ row. field_in row (word_at c.self.inside.whole c.args.reg)) c.field.result refl c.field.ensures.field
    (λ row at. kept_value c.self.inside.machines.items c.self.inside.whole c.args.reg c.args.index row c.field.result
    c.self.invariant.some c.self.invariant.words c.field.ensures.field at)
    ∙ ap (λ (v : ℤ). Some v) (sym (to_z-of_z w64 c.field.result fits))
