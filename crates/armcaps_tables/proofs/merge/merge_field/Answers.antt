use Rattle.std.proofs.Common.{◌≡◌, w64}
use Rattle.std.proofs.lemmas.Int.{to_z-of_z}
use Rattle.armcaps_rule.specs.Rule.{merged}
use Rattle.armcaps_tables.proofs.MergedFields.{merged_sum}
use Rattle.armcaps_tables.proofs.merge.merge_field.Goals as goal

pub returns-clause-sum : goal.returns-clause-sum
returns-clause-sum g c =
    let current = c.field_in-current in
    let other = c.field_in-other in
    let merge_is : c.merge-value.result ≡ merged c.args.rule c.args.safe current.result other.result =
    rw (
      to_z-of_z w64 c.args.safe (record { sfits = c.ranges.safe.sfits }),
      to_z-of_z w64 current.result (record { sfits = current.type_inv }),
      to_z-of_z w64 other.result (record { sfits = other.type_inv }),
    ) at c.merge-value.ensures in
    rw (← current.ensures.value, ← other.ensures.value)
    (merged_sum c.args.signed g.row.SHIFT g.row.WIDTH c.args.rule c.args.safe current.result other.result c.merge-value.result
    c.args.word c.cast_unsigned.result c.mask.result c.put.result c.requires.range c.requires.safe
    current.ensures.fits other.ensures.fits merge_is (record { sfits = c.merge-value.type_inv })
    c.cast_unsigned.ensures c.mask.ensures (c.put.ensures.sum c.requires.low))
