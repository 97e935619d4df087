use Rattle.std.proofs.Common.{ℕ, ◌+◌, ◌++◌, List, arith, ap, get_or, length, string_bytes, sym, ◌∙◌}
use Rattle.std.specs.Prelude.{reverse}
use Rattle.armcaps_board.specs.declared.event.Event.{Event}
use Rattle.armcaps_board.specs.declared.event.Event.TheVariants.{Check}
use Rattle.armcaps_boot.specs.declared.reply.Reply.{Reply}
use Rattle.armcaps_board.specs.Board.{Board}
use Rattle.armcaps_boot.specs.StepByStep.{steps_before}
use Rattle.armcaps_report.specs.Trace.{admitted_by, changed_lines, step_line, step_lines}
use Rattle.armcaps_boot.proofs.StepByStep.{steps_more}
use Rattle.armcaps_report.proofs.Pieces.{two_pieces}
use Rattle.armcaps_report.proofs.Traces.{number_of_steps, system_at}
use Rattle.armcaps_report.proofs.tracing.trace_step.Goals as goal

pub returns-clause-lines : goal.returns-clause-lines
unfolding step_lines
returns-clause-lines c = λ done.
    let board : Board = c.args.boot.now.board in
    let events : List Event = c.args.events.now in
    let index : ℕ = c.args.index in
    let past : List Event = steps_before index events in
    let event : Event = get_or events index (Check 0) in
    let old : List ℕ = string_bytes c.args.text.now in
    let law = c.sets_are_those_of_the_steps.ensures.shorter in
    let order = c.requires.at.order in
    let reply : Reply = c.make_step-reply.result in
    let more = steps_more index events (Check 0) c.requires.inside in
    let before = system_at law board index events c.args.boot.now c.system.result.now order c.requires.at.after c.system.ensures.stands in
    let after = system_at law board (index + 1) events c.make_step-reply.new.boot c.system-2.result.now order c.make_step-reply.ensures.after c.system-2.ensures.stands in
    let changes = c.in_ok-push_changes.ensures board.overrides (admitted_by board (reverse events) past)
    (admitted_by board (reverse events) (steps_before (index + 1) events)) before after in
    two_pieces old _ _ _ _
    (c.in_ok-push_step.ensures ∙ ap (λ (n : ℕ). old ++ step_line (n + 1) event reply) (sym (number_of_steps index events (omega (arith, c.requires.inside))))
    ∙ ap (λ (r : Reply). old ++ step_line (length past + 1) event r) c.make_step-reply.ensures.reply)
    (changes ∙ ap (λ (p : List Event). string_bytes c.push_step.new.text ++ changed_lines board.overrides (admitted_by board (reverse events) past) (admitted_by board (reverse events) p)) more)
