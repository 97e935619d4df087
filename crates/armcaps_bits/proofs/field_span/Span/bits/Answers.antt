use Rattle.std.proofs.Common.{arith}
use Rattle.armcaps_bits.proofs.Signs.{bits_are, bits_read}
use Rattle.armcaps_bits.proofs.field_span.Span.bits.Goals as goal

pub returns-clause-bits : goal.returns-clause-bits
returns-clause-bits c =
    bits_are c.args.self.now.signed c.args.self.now.width c.args.value c.cast_unsigned.result c.low_bits.result (omega arith) (omega arith) c.requires c.ranges.value c.cast_unsigned.ensures c.low_bits.ensures

pub returns-clause-reads : goal.returns-clause-reads
returns-clause-reads c =
    bits_read c.args.self.now.signed c.args.self.now.width c.args.value c.cast_unsigned.result c.low_bits.result (omega arith) (omega arith) c.requires c.ranges.value c.cast_unsigned.ensures c.low_bits.ensures
