use Rattle.armcaps_top.specs.ErrorLines.{entry_text}
use Rattle.armcaps_top.proofs.error_lines.push_not_patched.Goals as goal

pub returns : goal.returns
unfolding entry_text
returns g c = rw (c.number.ensures, c.word.ensures.word) at c.push_kind.ensures
