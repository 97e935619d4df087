use Rattle.std.proofs.Common.{◌∙◌, ℕ, ap, bit_and, get_or}
use Rattle.armcaps_tables.specs.declared.masks.TheConstants.{VISIBLE}
use Rattle.armcaps_tables.proofs.MaskTables.{visible_at}
use Rattle.armcaps_tables.proofs.MaskedWords.{masked_word}
use Rattle.armcaps_tables.proofs.masks.visible_mask.Goals as goal

pub returns-clause-keeps : goal.returns-clause-keeps
returns-clause-keeps c = λ word small.
    ap (bit_and word) (ap (λ (place : ℕ). get_or VISIBLE place 0) c.place.ensures.value ∙ visible_at c.args.reg)
    ∙ masked_word (λ row. row.visible) c.args.reg word small
