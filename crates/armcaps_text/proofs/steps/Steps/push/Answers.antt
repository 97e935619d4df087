use Rattle.std.proofs.Common.{sym, ap, ◌∙◌, arith, sum_by}
use Rattle.armcaps_board.specs.Steps.{core_of}
use Rattle.armcaps_text.specs.Kept.{one_begun}
use Rattle.armcaps_text.proofs.StepsInTurn.{kept_step, kept_final}
use Rattle.armcaps_text.proofs.steps.Steps.push.Goals as goal

pub invariant_of-self-in-Some : goal.invariant_of-self-in-Some
invariant_of-self-in-Some c =
    rw (c.in_ok-push-in-Some.ensures.items, c.put-self-inside.ensures.put, c.last_event-event.ensures)
    (kept_step _ _ _ _ _ _ c.in-Some.core c.args.line (sym (c.in-Some.ensures ∙ ap core_of c.last_event-event.ensures)) c.self.invariant c.in_ok-grow-in-Some.ensures.each
    (omega (arith, c.grow.new.last.ok.0, c.in_ok-grow-in-Some.ensures.room))
    (rw c.last_event-event.ensures at (c.put-self-inside.ensures.count ∙ ap (sum_by one_begun) c.put-self-inside.ensures.put)))

pub invariant_of-self-in-None : goal.invariant_of-self-in-None
invariant_of-self-in-None c =
    rw c.in_ok-push-in-None.ensures.items (kept_final _ _ _ _ c.args.line (sym (c.in-None.ensures ∙ ap core_of c.last_event-event.ensures)) c.self.invariant)
