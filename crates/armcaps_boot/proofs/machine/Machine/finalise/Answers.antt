use Rattle.std.proofs.Common.{◌∙◌, ap, sym, refl, ℕ, Bool, true, false, Option, None}
use Rattle.armcaps_boot.specs.Answers.{finalise_answer}
use Rattle.armcaps_boot.specs.Machine.{world_of}
use Rattle.armcaps_logic.proofs.Options.{none_from_never}
use Rattle.armcaps_boot.proofs.FinalWorld.{final_world-same, lengths_by}
use Rattle.armcaps_boot.proofs.machine.Machine.finalise.Goals as goal
use Rattle.armcaps_boot.proofs.machine.Machine.finalise.Goals.{then-contains, else-contains}

pub returns : goal.returns
returns c =
    let w = world_of c.args.self.now in
    let none = rw c.deref.ensures.value at (sym c.first_in_flight.ensures ∙ none_from_never c.first_in_flight.result c.in_default.not-Some) in
    record {
      answer = sym (ap (λ (o : Option ℕ). finalise_answer w.final o) none ∙ ap (λ (b : Bool). finalise_answer b None) c.if-self.false);
      after = final_world-same w c.requires.facts c.if-self.false none c.args.self.now.enabled c.args.self.now.noted c.decided-self.result refl refl c.decided-self.ensures
          c.of_system-self.result c.of_system-self.ensures.hwcap c.of_system-self.ensures.hwcap2 c.word-self.result c.word-self.ensures.word
          c.if-contains.self
          (elim c.if-contains.branch [
            | then-contains w ↦ w.self-is ∙ lengths_by true _ _ (sym w.if-contains.true ∙ c.contains.ensures)
            | else-contains w ↦ w.self-is ∙ lengths_by false _ _ (sym w.if-contains.false ∙ c.contains.ensures)
          ]);
    }
