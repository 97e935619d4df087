use Rattle.std.proofs.Common.{◌≤◌, arith, lit<, refl}
use Rattle.std.proofs.Math.Nat.{pow-le-pow_right}
use Rattle.armcaps_insn.specs.Immediates.{offset_width}
use Rattle.std.proofs.lemmas.Nat.{shl_whole}
use Rattle.armcaps_insn.proofs.Fields.{offset_bits_fit}
use Rattle.armcaps_insn.proofs.immediates.Immediate.bits.Goals as goal

pub overflow_add-result : goal.overflow_add-result
overflow_add-result c =
    let high = shl_whole c.field_of-high.result c.args.self.width c.args.self.low_width 32 c.field_of-high.ensures.below (omega arith) in
    let fit = offset_bits_fit c.args.self c.requires c.args.word in
    let few : offset_width c.args.self ≤ 32 = omega arith in
    let most = pow-le-pow_right {n = 2} (lit< tt) few in
    rw (high, c.field_of-high.ensures.value, c.field_of.ensures.value) (record { fits = omega (arith, fit, most) })

pub returns-clause-value : goal.returns-clause-value
returns-clause-value c =
    let high = shl_whole c.field_of-high.result c.args.self.width c.args.self.low_width 32 c.field_of-high.ensures.below (omega arith) in
    rw (high, c.field_of-high.ensures.value, c.field_of.ensures.value) refl

pub returns-clause-below : goal.returns-clause-below
returns-clause-below c =
    let high = shl_whole c.field_of-high.result c.args.self.width c.args.self.low_width 32 c.field_of-high.ensures.below (omega arith) in
    rw (high, c.field_of-high.ensures.value, c.field_of.ensures.value) (offset_bits_fit c.args.self c.requires c.args.word)
