use Rattle.std.proofs.Common.{◌+◌, ap, subst, ◌∙◌, sym, length, refl}
use Rattle.armcaps_tables.specs.Core.{Core, word_at}
use Rattle.armcaps_sanit.proofs.SystemWords.{Filled, filled_none, filled_all}
use Rattle.armcaps_baseline.proofs.Machines.{core_of, filled_register}
use Rattle.armcaps_baseline.proofs.common_words.as_core.Goals as goal

pub loop-reg-init : goal.loop-reg-init
loop-reg-init c = (
  filled_none (word_at c.args.system.now) c.zero-core.result.words (ap (λ (core : Core). length core.words) c.zero-core.ensures),
  ap (λ (core : Core). core.lengths) c.zero-core.ensures,
)

pub loop-reg-preserved : goal.loop-reg-preserved
loop-reg-preserved c = (
  subst (Filled (word_at c.args.system.now) (c.loop-reg.reg-index + 1))
      (sym (ap (λ (core : Core). core.words) c.set.ensures.set))
      (filled_register c.args.system.now c.loop-reg.reg-index c.word.result c.loop-reg.core.words _ c.loop-reg-test.true refl
      c.word.ensures.word c.loop-reg.invariant.0),
  ap (λ (core : Core). core.lengths) c.set.ensures.set ∙ c.loop-reg.invariant.1,
)

pub returns : goal.returns
returns c =
    core_of c.args.system.now c.loop-reg.core
    (filled_all (word_at c.args.system.now) c.loop-reg.reg-index c.loop-reg.core.words c.loop-reg-test.false
    c.loop-reg.invariant.0)
    c.loop-reg.invariant.1
