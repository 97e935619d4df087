use Rattle.std.proofs.Common.{◌≡◌, ℕ, ◌-◌, ◌+◌, ◌*◌, ◌/◌, ◌%◌, ◌^◌, ◌<◌, bit_and, ap, ◌∙◌, arith, refl}
use Rattle.std.proofs.lemmas.Nat.{and_mask, mod_below, pow_pos, shl_whole, shr_below}
use Rattle.armcaps_insn.specs.declared.immediates.Immediate.{Immediate}
use Rattle.armcaps_insn.specs.Immediates.{IsImmediate, offset_width, placed}
use Rattle.armcaps_insn.proofs.Fields.{placed_fits}
use Rattle.armcaps_insn.proofs.immediates.Immediate.place.Goals as goal

-- what the shifts make of the bits is at their places
shifted : (i : Immediate) (bits mask : ℕ) → IsImmediate i → bits < 2 ^ offset_width i → mask ≡ 2 ^ i.low_width - 1 → bits / 2 ^ i.low_width * 2 ^ i.shift % 2 ^ 32 + bit_and bits mask * 2 ^ 29 % 2 ^ 32 ≡ placed i bits
shifted i bits mask is fit is_mask =
    let below = is.below in
    let low = is.low in
    let masked : bit_and bits mask ≡ bits % 2 ^ i.low_width = ap (bit_and bits) is_mask ∙ and_mask bits i.low_width in
    let high = shl_whole (bits / 2 ^ i.low_width) i.width i.shift 32 (shr_below bits i.width i.low_width fit) (omega arith) in
    let rest = shl_whole (bits % 2 ^ i.low_width) i.low_width 29 32 (mod_below bits (2 ^ i.low_width) (pow_pos i.low_width)) (omega arith) in
    rw (masked, high, rest) refl

pub overflow_add-result : goal.overflow_add-result
overflow_add-result c =
    let sum = shifted c.args.self c.args.bits c.ones.result c.requires.holds c.requires.below c.ones.ensures in
    rw sum (record { fits = placed_fits c.args.self c.requires.holds c.args.bits c.requires.below })

pub returns : goal.returns
returns c = shifted c.args.self c.args.bits c.ones.result c.requires.holds c.requires.below c.ones.ensures
