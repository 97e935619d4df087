use Rattle.std.proofs.Common.{◌∷◌, [], subst, sym}
use Rattle.armcaps_sanit.specs.System.{system_words, IsSystemOf}
use Rattle.armcaps_sanit.proofs.SystemWords.{is_system_alone, system_words_alone}
use Rattle.armcaps_sanit.proofs.system.System.new.Goals as goal

pub returns : goal.returns
returns c = record {
  stands = subst (IsSystemOf c.args.overrides.now (c.args.boot.now ∷ [])) (sym c.first_words.ensures)
      (is_system_alone c.args.overrides.now c.args.boot.now c.sound.ensures.fit);
}

pub invariant_of-result : goal.invariant_of-result
invariant_of-result c = λ reg.
    rw c.first_words.ensures (system_words_alone c.args.overrides.now (c.args.boot.now ∷ [])
    (system_words c.args.overrides.now (c.args.boot.now ∷ []))
    (is_system_alone c.args.overrides.now c.args.boot.now c.sound.ensures.fit) reg)
