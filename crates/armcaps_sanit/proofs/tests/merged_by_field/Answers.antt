use Rattle.std.proofs.Common.{w64, rules, arith}
use mir.Val.{SFits}
use Rattle.armcaps_rule.specs.Rule.{merged}
use Rattle.armcaps_tables.specs.Fields.{field_in}
use Rattle.armcaps_tables.specs.Merging.{merged_word}
use Rattle.armcaps_tables.specs.RowOf.{row_of}
use Rattle.armcaps_tables.specs.Rows.{rows_of}
use Rattle.armcaps_tables.proofs.FieldWords.{so_far_all}
use Rattle.armcaps_tables.proofs.MergedWords.{merged_fits}
use Rattle.armcaps_sanit.proofs.WordsByField.{held_fits, so_far_put}
use Rattle.armcaps_sanit.proofs.tests.merged_by_field.Goals as goal

pub put-merged-requires : goal.put-merged-requires
put-merged-requires c =
    let fits : SFits w64 c.merged_field.result = search rules in
    held_fits (λ index row. merged row.rule row.safe (field_in row c.args.current) (field_in row c.args.word)) c.args.reg c.loop-index.index
    (row_of c.field-row.result) c.merged_field.result (merged_fits c.args.reg c.args.current c.args.word) c.field-row.ensures.row c.merged_field.ensures fits

pub loop-index-preserved : goal.loop-index-preserved
loop-index-preserved c =
    let fits : SFits w64 c.merged_field.result = search rules in
    so_far_put (λ index row. merged row.rule row.safe (field_in row c.args.current) (field_in row c.args.word)) c.args.reg c.loop-index.index
    c.loop-index.merged c.put-merged.result (row_of c.field-row.result) c.merged_field.result c.loop-index.invariant c.field-row.ensures.row
    c.merged_field.ensures fits c.put-merged.ensures.sum c.put-merged.ensures.below

pub returns : goal.returns
unfolding merged_word
returns c =
    so_far_all (λ index row. merged row.rule row.safe (field_in row c.args.current) (field_in row c.args.word))
    (rows_of c.args.reg) c.loop-index.index c.loop-index.merged c.loop-index.invariant (omega arith)
