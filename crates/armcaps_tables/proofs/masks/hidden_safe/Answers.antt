use Rattle.std.proofs.Common.{◌∙◌, ℕ, ap, bit_and, bit_or, get_or}
use Rattle.armcaps_tables.specs.declared.masks.TheConstants.{HIDDEN_SAFE}
use Rattle.armcaps_tables.specs.Masks.{mask_of}
use Rattle.armcaps_tables.specs.Rows.{rows_of}
use Rattle.armcaps_tables.proofs.MaskTables.{hidden_safe_at}
use Rattle.armcaps_tables.proofs.MaskedWords.{shown_word}
use Rattle.armcaps_tables.proofs.masks.hidden_safe.Goals as goal

pub returns-clause-shown : goal.returns-clause-shown
returns-clause-shown c = λ word small.
    ap (bit_or (bit_and word (mask_of (λ row. row.visible) (rows_of c.args.reg))))
    (ap (λ (place : ℕ). get_or HIDDEN_SAFE place 0) c.place.ensures.value ∙ hidden_safe_at c.args.reg)
    ∙ shown_word c.args.reg word small
