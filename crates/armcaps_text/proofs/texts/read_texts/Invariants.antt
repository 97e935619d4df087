use Rattle.armcaps_text.proofs.SeveralTexts.{IsReadTo}
use Rattle.armcaps_text.proofs.texts.read_texts.Given as goal

abbrev pub invariant-loop-number : goal.invariant-loop-number
invariant-loop-number l = IsReadTo l.bytes l.number l.rest l.machines.items
