use Rattle.std.proofs.Common.{◌-◌, ◌^◌, ◌≤◌, arith, lit<, refl, w64}
use Rattle.std.proofs.Math.Nat.{pow-le-pow_right}
use Rattle.std.proofs.lemmas.Int.{to_z-of_z}
use Rattle.std.proofs.lemmas.Nat.{pow_pos}
use Rattle.armcaps_insn.specs.Immediates.{offset_width}
use Rattle.armcaps_insn.proofs.Codes.{high_code, low_code}
use Rattle.armcaps_insn.proofs.Offsets.{range_in_units}
use Rattle.armcaps_insn.proofs.immediates.Immediate.reaches.Goals as goal

pub returns-then-in_bytes-offset : goal.returns-then-in_bytes-offset
returns-then-in_bytes-offset c =
    let few : offset_width c.args.self - 1 ≤ 31 = omega arith in
    let half = pow-le-pow_right {n = 2} (lit< tt) few in
    let some = pow_pos (offset_width c.args.self - 1) in
    let fits = to_z-of_z w64 c.args.offset c.ranges.offset in
    let high_is = high_code (2 ^ (offset_width c.args.self - 1)) c.power-half.result some half (record { sfits = c.power-half.type_inv }) c.power-half.ensures in
    let low_is = low_code (2 ^ (offset_width c.args.self - 1)) c.power-half.result half (record { sfits = c.power-half.type_inv }) c.power-half.ensures in
    let high_fits = to_z-of_z w64 c.in_bytes-then-in_bytes-offset.result (record { sfits = c.in_bytes-then-in_bytes-offset.type_inv }) in
    let low_fits = to_z-of_z w64 c.in_bytes.result (record { sfits = c.in_bytes.type_inv }) in
    let test = rw (low_fits, fits, c.in_bytes.ensures.value, low_is) at c.if-in_bytes-offset.true in
    rw (fits, high_fits, c.in_bytes-then-in_bytes-offset.ensures.value, high_is, ← range_in_units c.args.self c.args.offset) (rw test refl)
