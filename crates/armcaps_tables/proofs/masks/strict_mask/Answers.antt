use Rattle.std.proofs.Common.{◌∙◌, ◌==◌, ℕ, not, ap, bit_and, get_or}
use Rattle.armcaps_tables.specs.declared.masks.TheConstants.{STRICT}
use Rattle.armcaps_tables.proofs.MaskTables.{strict_at}
use Rattle.armcaps_tables.proofs.MaskedWords.{differ}
use Rattle.armcaps_tables.proofs.masks.strict_mask.Goals as goal

pub returns-clause-differ : goal.returns-clause-differ
returns-clause-differ c = λ one other small small'.
    ap (λ (mask : ℕ). not (bit_and one mask == bit_and other mask))
    (ap (λ (place : ℕ). get_or STRICT place 0) c.place.ensures.value ∙ strict_at c.args.reg)
    ∙ differ c.args.reg one other small small'
