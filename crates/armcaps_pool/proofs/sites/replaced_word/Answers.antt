use Rattle.armcaps_pool.proofs.Judged.{can_move}
use Rattle.armcaps_pool.proofs.sites.replaced_word.Goals as goal

pub right_word-requires-clause-moves : goal.right_word-requires-clause-moves
right_word-requires-clause-moves c =
    can_move c.args.image.now c.args.entry.now c.args.index c.word.result c.replacement_of-low.result c.site_of.result
    c.from.result (c.requires.accepted.1.replaced c.requires.replacement) c.requires.index c.replacement_of-low.ensures
    c.site_of.ensures c.from.ensures c.word.ensures
