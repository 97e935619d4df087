use Rattle.std.proofs.Common.{◌∷◌, get_or, refl, subst, sym, ◌∙◌}
use Rattle.std.specs.Prelude.{List}
use Rattle.armcaps_board.specs.declared.event.Event.{Event}
use Rattle.armcaps_board.specs.declared.event.Event.TheVariants.{Check}
use Rattle.armcaps_boot.specs.After.{IsAfter, reply_of}
use Rattle.armcaps_boot.specs.StepByStep.{steps_before}
use Rattle.armcaps_boot.proofs.StepByStep.{comes_next, ok_same, steps_more}
use Rattle.armcaps_boot.proofs.step_by_step.make_step.Goals as goal

pub unwrap-requires : goal.unwrap-requires
unwrap-requires c =
    let at = c.requires.at in
    let board = c.args.boot.now.board in
    let ready = comes_next board c.args.index c.args.events.now (Check 0) c.requires.inside at.order in
    rw (
      c.step.ensures.answer,
      c.steps_are_answered.ensures.answer board (steps_before c.args.index c.args.events.now) (get_or c.args.events.now c.args.index (Check 0)) c.args.boot.now
          c.facts_hold.ensures at.after ready.order ready.next at.going,
    ) refl

pub returns-clause-reply : goal.returns-clause-reply
returns-clause-reply c =
    let at = c.requires.at in
    let board = c.args.boot.now.board in
    let ready = comes_next board c.args.index c.args.events.now (Check 0) c.requires.inside at.order in
    ok_same c.step.result c.unwrap.result (reply_of board (steps_before c.args.index c.args.events.now) (get_or c.args.events.now c.args.index (Check 0)))
    c.unwrap.ensures (c.step.ensures.answer
    ∙ c.steps_are_answered.ensures.answer board (steps_before c.args.index c.args.events.now) (get_or c.args.events.now c.args.index (Check 0)) c.args.boot.now
    c.facts_hold.ensures at.after ready.order ready.next at.going)

pub returns-clause-after : goal.returns-clause-after
returns-clause-after c =
    let at = c.requires.at in
    let board = c.args.boot.now.board in
    let event : Event = get_or c.args.events.now c.args.index (Check 0) in
    let past : List Event = steps_before c.args.index c.args.events.now in
    let ready = comes_next board c.args.index c.args.events.now (Check 0) c.requires.inside at.order in
    let answered = c.step.ensures.answer ∙ c.steps_are_answered.ensures.answer board past event c.args.boot.now c.facts_hold.ensures at.after ready.order ready.next at.going in
    let made : IsAfter board (event ∷ past) c.step.new.self =
    rw (c.step.ensures.after, answered) (c.steps_are_answered.ensures.after board past event c.args.boot.now c.facts_hold.ensures at.after ready.order ready.next at.going) in
    subst (λ (steps : List Event). IsAfter board steps c.step.new.self) (sym (steps_more c.args.index c.args.events.now (Check 0) c.requires.inside)) made
