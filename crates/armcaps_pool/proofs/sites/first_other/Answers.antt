use Rattle.armcaps_pool.specs.Judging.{features_by}
use Rattle.armcaps_pool.proofs.Judged.{site_first, site_none}
use Rattle.armcaps_pool.proofs.sites.first_other.Goals as goal

pub returns-then-byte-lt4 : goal.returns-then-byte-lt4
returns-then-byte-lt4 c =
    site_first (features_by c.args.names.now c.args.ctr) c.args.image.now c.args.patched.now c.args.entry.now c.args.index
    c.site_of.result c.word.result c.site_word.result c.differing_byte-byte.result (λ k. (c.type_inv.patched k).fits)
    c.requires.accepted.aligned c.requires.accepted.within c.requires.accepted.words c.requires.index c.site_of.ensures
    c.word.ensures c.site_word.ensures c.differing_byte-byte.ensures c.if-byte-lt4.true

pub returns-else-byte-lt4 : goal.returns-else-byte-lt4
returns-else-byte-lt4 c =
    site_none (features_by c.args.names.now c.args.ctr) c.args.image.now c.args.patched.now c.args.entry.now c.args.index
    c.site_of.result c.word.result c.site_word.result c.differing_byte-byte.result (λ k. (c.type_inv.patched k).fits)
    c.requires.accepted.aligned c.site_of.ensures c.word.ensures c.site_word.ensures c.differing_byte-byte.ensures
    c.if-byte-lt4.false
