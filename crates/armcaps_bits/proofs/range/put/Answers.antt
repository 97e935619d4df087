use Rattle.armcaps_bits.proofs.Puts.{put_code_is_put, put_code-sum, put_code_below}
use Rattle.armcaps_bits.proofs.range.put.Goals as goal

pub returns-clause-put : goal.returns-clause-put
returns-clause-put c =
    put_code_is_put c.args.shift c.args.width c.mask.result c.args.number c.args.word c.requires.range c.requires.fits c.ranges.word.fits c.mask.ensures

pub returns-clause-sum : goal.returns-clause-sum
returns-clause-sum c =
    put_code-sum c.args.shift c.args.width c.mask.result c.args.number c.args.word c.requires.range c.requires.fits c.ranges.word.fits c.mask.ensures

pub returns-clause-below : goal.returns-clause-below
returns-clause-below c =
    put_code_below c.args.shift c.args.width c.mask.result c.args.number c.args.word c.requires.range c.requires.fits c.ranges.word.fits c.mask.ensures
