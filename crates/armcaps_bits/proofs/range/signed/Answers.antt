use Rattle.armcaps_bits.proofs.Signs.{signed_code, signed_code_fits}
use Rattle.armcaps_bits.proofs.range.signed.Goals as goal

pub returns-clause-value : goal.returns-clause-value
returns-clause-value c =
    signed_code c.args.shift c.args.width c.args.word c.cast_signed.result c.requires (record { sfits = c.cast_signed.type_inv }) c.cast_signed.ensures

pub returns-clause-fits : goal.returns-clause-fits
returns-clause-fits c =
    signed_code_fits c.args.shift c.args.width c.args.word c.cast_signed.result c.requires (record { sfits = c.cast_signed.type_inv }) c.cast_signed.ensures
