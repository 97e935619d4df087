use Rattle.std.proofs.Common.{ℕ, ◌++◌, List, append-nil, ap, codes, get_or, refl, string_bytes, subst, sym, ◌∙◌}
use Rattle.std.specs.Prelude.{reverse, Ok}
use Rattle.armcaps_board.specs.declared.event.Event.{Event}
use Rattle.armcaps_board.specs.declared.event.Event.TheVariants.{Check}
use Rattle.armcaps_board.specs.Board.{Board}
use Rattle.armcaps_boot.specs.StepByStep.{IsAt, steps_before}
use Rattle.armcaps_report.specs.Trace.{lines_of_steps, step_lines, trace_of}
use Rattle.armcaps_boot.proofs.Brought.{board_kept, finished, goes_on, halt_found, stopped}
use Rattle.armcaps_boot.proofs.StepByStep.{none_of, some_of}
use Rattle.armcaps_report.proofs.Pieces.{three_pieces}
use Rattle.armcaps_report.proofs.Traces.{lines_more}
use Rattle.armcaps_report.proofs.tracing.trace.Goals as goal

pub loop-index-init : goal.loop-index-init
loop-index-init c = record {
  at = c.requires;
  text = c.in_ok-push_str.ensures.bytes ∙ sym (append-nil (string_bytes c.args.text.now ++ codes "armcaps trace 1\n"));
}

pub trace_step-requires-clause-at : goal.trace_step-requires-clause-at
trace_step-requires-clause-at c =
    let at = c.loop-index.invariant.at in
    subst (λ (board : Board). IsAt c.loop-index.index c.args.events.now board c.loop-index.boot)
    (sym (board_kept c.args.boot.now.board (steps_before c.loop-index.index c.args.events.now) c.loop-index.boot at.after)) at

pub returns-then-is_some-clause-halt : goal.returns-then-is_some-clause-halt
returns-then-is_some-clause-halt c =
    let some = some_of c.in_ok-halt.halt (sym c.is_some.ensures ∙ c.if-is_some.true) in
    some.1 ∙ sym (stopped c.args.boot.now.board c.loop-index.index c.args.events.now c.loop-index.boot c.trace_step.new.boot some.0 c.loop-index-test.true
    c.loop-index.invariant.at c.trace_step.ensures.after (halt_found c.trace_step.ensures.after c.in_ok-halt.ensures.halt ∙ some.1)).halt_is

pub returns-then-is_some-clause-machine : goal.returns-then-is_some-clause-machine
returns-then-is_some-clause-machine c = λ done.
    let some = some_of c.in_ok-halt.halt (sym c.is_some.ensures ∙ c.if-is_some.true) in
    (stopped c.args.boot.now.board c.loop-index.index c.args.events.now c.loop-index.boot c.trace_step.new.boot some.0 c.loop-index-test.true
    c.loop-index.invariant.at c.trace_step.ensures.after (halt_found c.trace_step.ensures.after c.in_ok-halt.ensures.halt ∙ some.1)).made

pub loop-index-preserved : goal.loop-index-preserved
loop-index-preserved c =
    let board : Board = c.args.boot.now.board in
    let events : List Event = c.args.events.now in
    let index : ℕ = c.loop-index.index in
    let none = none_of c.in_ok-halt.halt (sym c.is_some.ensures ∙ c.if-is_some.false) in
    let same = board_kept board (steps_before index events) c.loop-index.boot c.loop-index.invariant.at.after in record {
      at = goes_on board index events c.loop-index.boot c.trace_step.new.boot c.loop-index.invariant.at c.trace_step.ensures.after
          (halt_found c.trace_step.ensures.after c.in_ok-halt.ensures.halt ∙ none);
      text = lines_more board index events (Check 0) (string_bytes c.args.text.now ++ codes "armcaps trace 1\n") _ _ c.loop-index-test.true c.loop-index.invariant.text
          (c.in_ok-halt.ensures.lines (ap Ok none)
          ∙ ap (λ (b : Board). string_bytes c.loop-index.text ++ step_lines b (reverse events) (steps_before index events) (get_or events index (Check 0))) same);
    }

pub returns-clause-halt : goal.returns-clause-halt
returns-clause-halt c =
    sym (finished c.args.boot.now.board c.loop-index.index c.args.events.now c.loop-index.boot c.loop-index-test.false c.loop-index.auto.index-end c.loop-index.invariant.at).halt_is

pub returns-clause-machine : goal.returns-clause-machine
returns-clause-machine c = λ done.
    (finished c.args.boot.now.board c.loop-index.index c.args.events.now c.loop-index.boot c.loop-index-test.false c.loop-index.auto.index-end c.loop-index.invariant.at).made

pub returns-clause-text : goal.returns-clause-text
unfolding trace_of
returns-clause-text c = λ done.
    let board : Board = c.args.boot.now.board in
    let all = (finished board c.loop-index.index c.args.events.now c.loop-index.boot c.loop-index-test.false c.loop-index.auto.index-end c.loop-index.invariant.at).steps in
    three_pieces (string_bytes c.args.text.now) (codes "armcaps trace 1\n") (lines_of_steps board (reverse c.args.events.now) (reverse c.args.events.now)) (codes "end\n")
    _ _ _ refl
    (c.loop-index.invariant.text ∙ ap (λ (s : List Event). string_bytes c.args.text.now ++ codes "armcaps trace 1\n" ++ lines_of_steps board (reverse c.args.events.now) s) all)
    c.in_ok-push_str-2.ensures.bytes
