use Rattle.std.proofs.Common.{ℕ, bit_and, bit_or, ◌∙◌, ap, subst, sym}
use Rattle.armcaps_tables.specs.Core.{word_at}
use Rattle.armcaps_tables.specs.Fields.{HasFieldsAlone}
use Rattle.armcaps_tables.specs.Rows.{rows_of}
use Rattle.armcaps_sanit.specs.Users.{shown_word}
use Rattle.armcaps_sanit.proofs.UserWords.{shown_word_made, user_word_at}
use Rattle.armcaps_sanit.proofs.system.System.user_word.Goals as goal

pub returns-clause-word : goal.returns-clause-word
unfolding shown_word
returns-clause-word c =
    ap (λ (mask : ℕ). bit_or (bit_and c.word.result mask) c.hidden_safe.result) c.visible_mask.ensures.mask
    ∙ c.hidden_safe.ensures.shown c.word.result c.word.type_inv ∙ ap (shown_word c.args.reg) c.word.ensures.word

pub returns-clause-stands : goal.returns-clause-stands
returns-clause-stands c = λ overrides cores stands.
    returns-clause-word c ∙ user_word_at overrides cores c.args.self.now c.args.reg stands

pub returns-clause-others : goal.returns-clause-others
returns-clause-others c =
    subst (HasFieldsAlone (rows_of c.args.reg)) (sym (returns-clause-word c))
    (shown_word_made c.args.reg (word_at c.args.self.now c.args.reg)).others
