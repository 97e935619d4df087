use Rattle.std.proofs.Common.{refl}
use Rattle.armcaps_tables.specs.Core.{core_word, word_at}
use Rattle.armcaps_tables.specs.Merging.{merged_word}
use Rattle.armcaps_sanit.specs.System.{merged_words}
use Rattle.armcaps_sanit.proofs.SystemWords.{filled_none, filled_more, filled_all}
use Rattle.armcaps_sanit.proofs.register_word.merged_words.Goals as goal

pub loop-place-init : goal.loop-place-init
loop-place-init c = filled_none _ _ refl

pub loop-place-preserved : goal.loop-place-preserved
loop-place-preserved c =
    let here = rw (c.get.ensures.word, c.place.ensures.value) at c.merge_words.ensures.word in
    filled_more (λ reg. merged_word reg (word_at c.args.words.now reg) (core_word c.args.core.now reg)) c.loop-place.place
    c.loop-place.merged c.merge_words.result c.loop-place-test.true c.loop-place.invariant here

pub returns : goal.returns
unfolding merged_words
returns c =
    filled_all (λ reg. merged_word reg (word_at c.args.words.now reg) (core_word c.args.core.now reg)) c.loop-place.place
    c.loop-place.merged c.loop-place-test.false c.loop-place.invariant
