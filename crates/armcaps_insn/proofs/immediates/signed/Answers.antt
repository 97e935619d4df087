use Rattle.std.proofs.Common.{◌≡◌, ◌/◌, ◌%◌, ◌^◌, ◌∙◌, ap, arith, refl, w64}
use Rattle.std.proofs.Math.Nat.{mod-eq_of_lt}
use Rattle.std.proofs.lemmas.Int.{to_z-of_z}
use Rattle.armcaps_bits.specs.Field.{field_value, signed_number}
use Rattle.armcaps_insn.proofs.immediates.signed.Goals as goal

pub returns-clause-value : goal.returns-clause-value
returns-clause-value c =
    let begin : c.args.bits / 1 ≡ c.args.bits = omega arith in
    let whole : c.args.bits / 1 % 2 ^ c.args.width ≡ c.args.bits = ap (λ n. n % 2 ^ c.args.width) begin ∙ mod-eq_of_lt c.requires.below in
    let reads : field_value c.low_field.result.signed c.low_field.result.shift c.low_field.result.width c.from.result ≡ signed_number c.args.width c.args.bits =
    rw (c.low_field.ensures.signed, c.low_field.ensures.shift, c.low_field.ensures.width, c.from.ensures, whole) refl in
    to_z-of_z w64 c.value.result (record { sfits = c.value.type_inv }) ∙ c.value.ensures.value ∙ reads
