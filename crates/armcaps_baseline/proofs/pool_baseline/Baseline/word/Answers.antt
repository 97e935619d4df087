use Rattle.std.proofs.Common.{ap, ◌∙◌, List, ℕ}
use Rattle.armcaps_tables.specs.Core.{word_at}
use Rattle.armcaps_baseline.specs.Baselines.{baseline_word}
use Rattle.armcaps_baseline.proofs.Baselines.{word_is}
use Rattle.armcaps_baseline.proofs.pool_baseline.Baseline.word.Goals as goal

pub returns : goal.returns
returns c =
    c.word.ensures.word ∙ ap (λ (words : List ℕ). word_at words c.args.reg) c.self.invariant.words
    ∙ word_is c.self.inside.machines.items c.args.reg
    ∙ ap (λ (machines : List (List ℕ)). baseline_word machines c.args.reg) c.self.view_is
