use Rattle.std.proofs.Common.{◌∙◌, ap, subst, sym}
use Rattle.armcaps_boot.specs.Answers.{Answer}
use Rattle.armcaps_boot.specs.Changes.{world_after}
use Rattle.armcaps_boot.specs.Facts.{Facts}
use Rattle.armcaps_boot.specs.Machine.{world_of}
use Rattle.armcaps_boot.specs.Returning.{KeepsSystem, comes_back}
use Rattle.armcaps_boot.specs.World.{World}
use Rattle.armcaps_boot.proofs.ComingBack.{coming_back}
use Rattle.armcaps_boot.proofs.StepLaw.{step_keeps_facts}
use Rattle.armcaps_boot.proofs.boot.Boot.step.Goals as goal

pub invariant_of-self : goal.invariant_of-self
invariant_of-self c =
    let old = world_of c.self.inside.machine in
    subst Facts (sym (c.step.ensures.after ∙ ap (λ (a : Answer). world_after old c.args.event a) c.step.ensures.answer))
    (step_keeps_facts old c.args.event c.self.invariant)

pub returns-clause-facts : goal.returns-clause-facts
returns-clause-facts c = invariant_of-self c

pub returns-clause-back : goal.returns-clause-back
returns-clause-back c running back =
    let old = world_of c.self.inside.machine in
    let comes = coming_back old c.args.event c.self.invariant (ap (λ (w : World). w.halted) c.self.view_is ∙ running)
    (ap (λ (w : World). comes_back w c.args.event) c.self.view_is ∙ back) in
    let answer = c.step.ensures.answer ∙ comes.done in (
      answer,
      subst (λ (w : World). KeepsSystem w (world_of c.step.new.self)) c.self.view_is
          (subst (λ (w : World). KeepsSystem old w) (sym (c.step.ensures.after ∙ ap (λ (a : Answer). world_after old c.args.event a) answer)) comes.keeps),
    )
