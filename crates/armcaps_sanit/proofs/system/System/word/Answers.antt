use Rattle.std.proofs.Common.{◌∙◌, ap, List, ℕ, get_or, ◌<◌, ◌^◌, rules}
use Rattle.armcaps_tables.specs.Core.{word_at}
use Rattle.armcaps_tables.specs.Rows.{rows_of}
use Rattle.armcaps_sanit.proofs.SystemWords.{system_word_at, no_fields}
use Rattle.armcaps_sanit.proofs.system.System.word.Goals as goal

-- the word that is read is the register's
pub returns-clause-word : goal.returns-clause-word
returns-clause-word c =
    ap (λ (place : ℕ). get_or c.self.inside.words place 0) c.place.ensures.value
    ∙ ap (λ (words : List ℕ). word_at words c.args.reg) c.self.view_is

pub returns-clause-stands : goal.returns-clause-stands
returns-clause-stands c = λ overrides cores stands.
    returns-clause-word c ∙ system_word_at overrides cores c.args.self.now c.args.reg stands

pub returns-clause-none : goal.returns-clause-none
returns-clause-none c = λ none.
    let small : get_or c.self.inside.words c.place.result 0 < 2 ^ 64 = search rules in
    no_fields (rows_of c.args.reg) (get_or c.self.inside.words c.place.result 0) small
    (rw c.place.ensures.value (c.self.invariant c.args.reg)) none
