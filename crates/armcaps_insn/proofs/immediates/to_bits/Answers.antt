-- What is put into the low bits of nothing is the number's bits.
use Rattle.std.proofs.Common.{◌≡◌, ◌<◌, ◌+◌, ◌*◌, ◌^◌, arith, lit<, w64, zero-add}
use Rattle.std.proofs.Math.Nat.{pow-le-pow_right}
use Rattle.std.proofs.lemmas.Int.{to_z-of_z}
use Rattle.armcaps_bits.specs.Field.{field_bits}
use Rattle.armcaps_insn.proofs.immediates.to_bits.Goals as goal

pub returns-clause-below : goal.returns-clause-below
returns-clause-below c =
    let some : 0 < 2 ^ c.low_field.result.shift = rw c.low_field.ensures.shift (lit< tt) in
    rw (c.low_field.ensures.shift, c.low_field.ensures.width, zero-add) at (c.put.ensures.below some)

pub overflow_cast-result : goal.overflow_cast-result
overflow_cast-result c =
    let most = pow-le-pow_right {n = 2} (lit< tt) c.requires.small in
    let some : 0 < 2 ^ c.low_field.result.shift = rw c.low_field.ensures.shift (lit< tt) in
    let below : c.put.result < 2 ^ c.args.width = rw (c.low_field.ensures.shift, c.low_field.ensures.width, zero-add) at (c.put.ensures.below some) in
    record { fits = omega (arith, below, most) }

pub returns-clause-value : goal.returns-clause-value
returns-clause-value c =
    let some : 0 < 2 ^ c.low_field.result.shift = rw c.low_field.ensures.shift (lit< tt) in
    let sum : c.put.result ≡ 0 + field_bits c.args.width c.args.number * 1 = rw (c.low_field.ensures.shift, c.low_field.ensures.width, to_z-of_z w64 c.args.number c.ranges.number) at (c.put.ensures.sum some) in
    omega (arith, sum)
