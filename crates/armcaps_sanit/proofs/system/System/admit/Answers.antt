use Rattle.std.proofs.Common.{◌∷◌, ◌++◌, subst, sym, List, ℕ, ap, ◌∙◌}
use Rattle.armcaps_sanit.specs.System.{merged_words, IsSystemOf}
use Rattle.armcaps_sanit.proofs.SystemWords.{is_system_insert, is_system_again, merged_words_alone}
use Rattle.armcaps_sanit.proofs.system.System.admit.Goals as goal

pub invariant_of-self : goal.invariant_of-self
invariant_of-self c =
    λ reg. rw c.merged_words-self-inside.ensures (merged_words_alone c.self.inside.words c.args.core.now reg)

pub returns-clause-merges : goal.returns-clause-merges
returns-clause-merges c = c.merged_words-self-inside.ensures ∙ ap (λ (w : List ℕ). merged_words w c.args.core.now) c.self.view_is

pub returns-clause-stands : goal.returns-clause-stands
returns-clause-stands c = λ overrides before after stands.
    subst (IsSystemOf overrides (before ++ c.args.core.now ∷ after)) (sym (returns-clause-merges c))
    (is_system_insert overrides before after c.args.core.now c.args.self.now stands)

pub returns-clause-again : goal.returns-clause-again
returns-clause-again c = λ overrides before after stands.
    returns-clause-merges c ∙ is_system_again overrides before after c.args.core.now c.args.self.now stands
