use Rattle.std.proofs.Common.{refl, sym, ◌∙◌}
use Rattle.armcaps_text.proofs.TextAfterWord.{text_none}
use Rattle.armcaps_text.proofs.tokens.text_after_word.Goals as goal

pub returns-in-None : goal.returns-in-None
returns-in-None c = sym (text_none c.args.line.now _ c.in-Some.start (sym c.start_of.ensures ∙ c.in-Some.is) refl (sym c.find_byte.ensures ∙ c.in-None.is))
