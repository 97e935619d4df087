use Rattle.std.proofs.Common.{◌-◌, ap, rules, arith, w64}
use Rattle.std.proofs.lemmas.Nat.{one_shl}
use mir.Val.{SFits}
use Rattle.armcaps_pool.proofs.Rightful.{unit_bits}
use Rattle.armcaps_pool.proofs.right_word.bits.Goals as goal

pub returns-clause-value : goal.returns-clause-value
returns-clause-value c =
    let fits : SFits w64 c.units.result = search rules in
    unit_bits c.args.scale c.args.width c.args.offset c.units.result c.cast_unsigned.result _ c.requires.some
    (omega arith) c.ranges.offset fits c.requires.fits c.units.ensures c.cast_unsigned.ensures
    (ap (λ n. n - 1) (one_shl c.args.width 64 (omega arith)))
