use Rattle.std.proofs.Common.{◌∷◌, [], refl}
use Rattle.armcaps_sanit.specs.System.{system_word, system_words}
use Rattle.armcaps_sanit.proofs.SystemWords.{filled_none, filled_more, filled_all}
use Rattle.armcaps_sanit.proofs.register_word.first_words.Goals as goal

pub loop-place-init : goal.loop-place-init
loop-place-init c = filled_none _ _ refl

pub loop-place-preserved : goal.loop-place-preserved
loop-place-preserved c =
    filled_more (system_word c.args.overrides.now (c.args.core.now ∷ [])) c.loop-place.place c.loop-place.words
    c.first_word.result c.loop-place-test.true c.loop-place.invariant c.first_word.ensures

pub returns : goal.returns
unfolding system_words
returns c =
    filled_all (system_word c.args.overrides.now (c.args.core.now ∷ [])) c.loop-place.place c.loop-place.words
    c.loop-place-test.false c.loop-place.invariant
