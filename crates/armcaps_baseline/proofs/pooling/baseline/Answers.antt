use Rattle.std.proofs.Common.{List, ℕ, sym, ap, subst, ◌∙◌}
use Rattle.armcaps_baseline.specs.Baselines.{IsAcceptedByAll, IsAtMost, baseline_words, limiting_machine}
use Rattle.armcaps_baseline.proofs.Baselines.{all_accept, none_better, limits}
use Rattle.armcaps_baseline.proofs.pooling.baseline.Goals as goal

pub returns-clause-accepted : goal.returns-clause-accepted
returns-clause-accepted c =
    subst (λ (ms : List (List ℕ)). IsAcceptedByAll (baseline_words ms) c.args.systems.now) (sym c.in_ok-machines.ensures.items)
    (all_accept c.args.systems.now)

pub returns-clause-best : goal.returns-clause-best
returns-clause-best c = λ words accepted.
    subst (λ (ms : List (List ℕ)). IsAtMost words (baseline_words ms)) (sym c.in_ok-machines.ensures.items)
    (none_better c.args.systems.now words c.requires.some accepted)

pub returns-clause-limited : goal.returns-clause-limited
returns-clause-limited c = λ reg row.
    let found = limits c.args.systems.now reg row c.requires.some in (
      found.0,
      (ap (λ (ms : List (List ℕ)). limiting_machine ms reg row) c.in_ok-machines.ensures.items ∙ found.1.0, found.1.1),
    )
