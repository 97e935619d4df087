use Rattle.std.proofs.Common.{◌++◌, ◌∷◌, [], ap, ◌∙◌}
use Rattle.armcaps_generate.proofs.Laying.{words-more}
use Rattle.armcaps_generate.proofs.large_image.instruction_words.Goals as goal

pub loop-index-preserved : goal.loop-index-preserved
loop-index-preserved c =
    c.in_ok-push.ensures.items ∙ ap (λ (word : _). c.loop-index.words.items ++ word ∷ []) c.instruction_word.ensures ∙ words-more c.args.place c.args.instructions.now c.loop-index.index _ c.loop-index.words.items c.loop-index-test.true c.loop-index.invariant
