use Rattle.std.proofs.Common.{◌+◌, ◌*◌, length, ap, arith}
use Rattle.armcaps_generate.specs.Alternatives.{Alternative}
use Rattle.armcaps_generate.proofs.Laying.{length-words}
use Rattle.armcaps_generate.proofs.large_image.push_replacement.Goals as goal

pub push_slot-requires : goal.push_slot-requires
push_slot-requires c =
    record { few = omega (arith, ap length c.deref-2.ensures.value, ap length c.in_ok-words.ensures, length-words (1_048_576 + 32 * c.args.index) c.deref.result.now, ap length c.deref.ensures.value, ap (λ (alternative : Alternative). length alternative.instructions) c.alternative.view_is, c.requires.few) }
