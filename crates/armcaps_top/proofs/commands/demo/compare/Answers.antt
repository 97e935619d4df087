use Rattle.std.proofs.Common.{◌*◌, ℕ, ◌∙◌, arith}
use Rattle.armcaps_image.specs.Bytes.{word_in}
use Rattle.armcaps_top.specs.Demo.{is_changed}
use Rattle.armcaps_report.proofs.Tallies.{at_most_one, count-more, sum-more}
use Rattle.armcaps_top.proofs.commands.demo.compare.Goals as goal

pub loop-index-preserved : goal.loop-index-preserved
loop-index-preserved c =
    record {
      different = count-more (is_changed c.args.image.now c.args.patched.now) c.loop-index.index c.loop-index.different _ c.loop-index.invariant.different c.changed-different.ensures;
      sum = sum-more (λ (index : ℕ). word_in c.args.patched.now (4 * index)) c.loop-index.index c.loop-index.sum _ c.loop-index.invariant.sum (c.from-sum.ensures ∙ c.word.ensures);
      few = omega (arith, c.loop-index.invariant.few, at_most_one _ _ c.changed-different.ensures);
      small = omega (arith, c.loop-index.invariant.small);
    }
