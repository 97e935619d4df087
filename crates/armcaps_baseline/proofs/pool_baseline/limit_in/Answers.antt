use Rattle.std.proofs.Common.{ap, ◌∙◌, rules, w64, arith, ◌≤◌, length, slice_get, to_z}
use Rattle.std.proofs.lemmas.Int.{to_z-of_z}
use mir.Val.{SFits}
use Rattle.armcaps_tables.specs.Core.{word_at}
use Rattle.armcaps_tables.specs.Fields.{field_in}
use Rattle.armcaps_tables.specs.RowOf.{row_of}
use Rattle.armcaps_tables.specs.Rows.{rows_of}
use Rattle.armcaps_baseline.proofs.Limiting.{held_value, index_within, limited_at, limited_last, merged_bits, not_reached, same_whole, value_at_row, value_first, value_more}
use Rattle.armcaps_baseline.proofs.pool_baseline.limit_in.Goals as goal

pub loop-number-init : goal.loop-number-init
loop-number-init c =
    let fits : SFits w64 c.field-so_far.result = search rules in (
      held_value _ _ fits
          (value_at_row (λ row. field_in row (word_at c.index-machines-0.result c.args.row.now.reg))
          (slice_get (rows_of c.args.row.now.reg) c.args.index) c.field-so_far.result (row_of c.args.row.now)
          c.field-so_far.ensures.field c.requires.row
          ∙ value_first c.args.machines.now c.index-machines-0.result c.args.row.now.reg (row_of c.args.row.now) c.requires.some
          c.index-machines-0.is),
      λ before within. absurd (omega arith),
    )

pub loop-number-preserved : goal.loop-number-preserved
loop-number-preserved c =
    let fits : SFits w64 c.merge-so_far.result = search rules in
    let here_fits : SFits w64 c.field.result = search rules in
    let safe_fits : SFits w64 c.args.row.now.safe = search rules in
    let here = value_at_row (λ row. field_in row (word_at c.index-machines-number.result c.args.row.now.reg))
    (slice_get (rows_of c.args.row.now.reg) c.args.index) c.field.result (row_of c.args.row.now)
    c.field.ensures.field c.requires.row in (
      held_value _ _ fits
          (value_more c.args.machines.now c.loop-number.number c.index-machines-number.result c.args.row.now.reg
          (row_of c.args.row.now) (to_z w64 c.loop-number.so_far-bits) c.merge-so_far.result c.field.result
          c.loop-number.auto.number c.loop-number-test.true c.index-machines-number.is c.loop-number.invariant.0 here
          (merged_bits c.args.row.now.rule c.args.row.now.safe (to_z w64 c.loop-number.so_far-bits) c.field.result
          c.merge-so_far.result safe_fits here_fits c.merge-so_far.ensures)),
      not_reached c.args.machines.now c.loop-number.number c.args.row.now.reg (row_of c.args.row.now)
          (to_z w64 c.loop-number.so_far-bits) c.args.whole c.loop-number.auto.number c.loop-number.invariant.0 c.requires.whole
          (λ same. c.if-so_far-whole.false (same_whole c.loop-number.so_far-bits c.args.whole c.loop-number.auto.so_far same))
          c.loop-number.invariant.1,
    )

pub returns-then-so_far-whole : goal.returns-then-so_far-whole
returns-then-so_far-whole c =
    limited_at c.args.machines.now c.loop-number.number c.args.row.now.reg (row_of c.args.row.now)
    (to_z w64 c.loop-number.so_far-bits) c.args.whole c.loop-number.auto.number (omega arith) c.loop-number.invariant.0
    c.requires.whole (ap (to_z w64) c.if-so_far-whole.true ∙ to_z-of_z w64 c.args.whole c.ranges.whole)
    c.loop-number.invariant.1

pub field-requires : goal.field-requires
field-requires c =
    index_within (rows_of c.args.row.now.reg) c.args.index (row_of c.args.row.now) c.requires.row

pub returns : goal.returns
returns c =
    let within : c.loop-number.number ≤ length c.args.machines.now = omega (arith, c.loop-number.auto.number-end) in
    limited_last c.args.machines.now c.loop-number.number c.args.row.now.reg (row_of c.args.row.now)
    c.loop-number.auto.number c.loop-number-test.false within c.loop-number.invariant.1
