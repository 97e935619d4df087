use Rattle.std.proofs.Common.{w64}
use Rattle.std.proofs.lemmas.Int.{to_z-of_z}
use Rattle.armcaps_insn.proofs.Codes.{near_fits}
use Rattle.armcaps_insn.proofs.Offsets.{offset_bounds}
use Rattle.armcaps_insn.proofs.immediates.in_bytes.Goals as goal

pub overflow_mul-result : goal.overflow_mul-result
overflow_mul-result c =
    let near = offset_bounds c.args.steps c.args.scale c.requires.low c.requires.high c.requires.scale in
    rw (to_z-of_z w64 c.args.steps c.ranges.steps, to_z-of_z w64 c.power.result (record { sfits = c.power.type_inv }), c.power.ensures) (near_fits _ near.0 near.1)

pub returns-clause-value : goal.returns-clause-value
returns-clause-value c =
    let near = offset_bounds c.args.steps c.args.scale c.requires.low c.requires.high c.requires.scale in
    rw (to_z-of_z w64 c.args.steps c.ranges.steps, to_z-of_z w64 c.power.result (record { sfits = c.power.type_inv }), c.power.ensures) (to_z-of_z w64 _ (near_fits _ near.0 near.1))

pub returns-clause-low : goal.returns-clause-low
returns-clause-low c = rw (returns-clause-value c) (offset_bounds c.args.steps c.args.scale c.requires.low c.requires.high c.requires.scale).0

pub returns-clause-high : goal.returns-clause-high
returns-clause-high c = rw (returns-clause-value c) (offset_bounds c.args.steps c.args.scale c.requires.low c.requires.high c.requires.scale).1
