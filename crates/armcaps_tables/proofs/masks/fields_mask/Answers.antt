use Rattle.std.proofs.Common.{◌∙◌, ℕ, true, ap, bit_and, get_or}
use Rattle.armcaps_tables.specs.declared.masks.TheConstants.{FIELDS}
use Rattle.armcaps_tables.proofs.MaskTables.{fields_at}
use Rattle.armcaps_tables.proofs.MaskedWords.{masked_word}
use Rattle.armcaps_tables.proofs.masks.fields_mask.Goals as goal

pub returns-clause-keeps : goal.returns-clause-keeps
returns-clause-keeps c = λ word small.
    ap (bit_and word) (ap (λ (place : ℕ). get_or FIELDS place 0) c.place.ensures.value ∙ fields_at c.args.reg)
    ∙ masked_word (λ row. true) c.args.reg word small
