use Rattle.std.proofs.Common.{subst, All, IsUtf8, string_bytes}
use Rattle.armcaps_c.proofs.Wording.{are_text, no_more, not_all, taken}
use Rattle.armcaps_c.proofs.words.words_of.Goals as goal

-- src/words.rt:29:13
pub returns-in_default-2 : goal.returns-in_default-2
returns-in_default-2 c =
    not_all IsUtf8 _ c.in-Some.word.now _ _ _ c.loop-word.invariant c.in-Some.ensures.cut
    (rw c.in_default-2.is at c.in_ok-text.ensures)

-- src/words.rt:27:5
pub loop-word-preserved : goal.loop-word-preserved
loop-word-preserved c =
    rw c.in_ok-push.ensures.items
    (taken string_bytes c.loop-word.words.items c.in-Some-2.text c.in-Some.word.now _ _ _ c.loop-word.invariant
    c.in-Some.ensures.cut (rw c.in-Some-2.is at c.in_ok-text.ensures))

-- src/words.rt:21:1
pub returns : goal.returns
returns c =
    let whole = no_more _ _ _ c.loop-word.invariant c.in_default.ensures.cut in
    (whole, subst (All IsUtf8) whole (are_text c.loop-word.words.items))
