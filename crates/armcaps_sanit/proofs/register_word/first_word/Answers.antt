use Rattle.std.proofs.Common.{◌∷◌, [], w64, rules, arith}
use mir.Val.{SFits}
use Rattle.armcaps_tables.specs.RowOf.{row_of}
use Rattle.armcaps_tables.specs.Rows.{rows_of}
use Rattle.armcaps_tables.proofs.FieldWords.{so_far_all}
use Rattle.armcaps_sanit.specs.System.{local_field, system_word}
use Rattle.armcaps_sanit.proofs.SystemFields.{system_field_fits}
use Rattle.armcaps_sanit.proofs.WordsByField.{at_row, held_fits, so_far_put}
use Rattle.armcaps_sanit.proofs.register_word.first_word.Goals as goal

pub put-word-requires : goal.put-word-requires
put-word-requires c =
    let row = row_of c.field.result in
    let fits : SFits w64 c.local-value.result = search rules in
    held_fits (local_field c.args.overrides.now c.args.core.now c.args.reg) c.args.reg c.loop-index.index
    (row_of c.field.result) c.local-value.result
    (system_field_fits c.args.overrides.now c.requires (c.args.core.now ∷ []) (omega arith) c.args.reg)
    c.field.ensures.row (at_row _ _ _ _ c.local-value.ensures c.field.ensures.row) fits

pub loop-index-preserved : goal.loop-index-preserved
loop-index-preserved c =
    let fits : SFits w64 c.local-value.result = search rules in
    so_far_put (local_field c.args.overrides.now c.args.core.now c.args.reg) c.args.reg c.loop-index.index
    c.loop-index.word c.put-word.result (row_of c.field.result) c.local-value.result c.loop-index.invariant
    c.field.ensures.row (at_row _ _ _ _ c.local-value.ensures c.field.ensures.row) fits c.put-word.ensures.sum
    c.put-word.ensures.below

pub returns : goal.returns
unfolding system_word
returns c =
    so_far_all (local_field c.args.overrides.now c.args.core.now c.args.reg) (rows_of c.args.reg) c.loop-index.index
    c.loop-index.word c.loop-index.invariant (omega arith)
