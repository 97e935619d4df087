use Rattle.std.proofs.Common.{◌-◌, ◌^◌, ◌<◌, arith}
use Rattle.std.proofs.lemmas.Nat.{pow_pos, shl_whole}
use Rattle.armcaps_bits.proofs.range.mask.Goals as goal

pub returns : goal.returns
returns c =
    let small : 2 ^ c.args.width - 1 < 2 ^ c.args.width = omega (arith, pow_pos c.args.width) in
    rw c.low_bits.ensures (shl_whole (2 ^ c.args.width - 1) c.args.width c.args.shift 64 small (omega arith))
