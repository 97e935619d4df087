use Rattle.std.proofs.Common.{List, ap, ◌∙◌}
use Rattle.std.specs.List.{flat_map}
use Rattle.armcaps_board.specs.Steps.{events_of, history}
use Rattle.armcaps_board.specs.declared.step_line.StepLine.{StepLine}
use Rattle.armcaps_boot.specs.First.{first_world}
use Rattle.armcaps_text.specs.Document.{reading_of}
use Rattle.armcaps_text.specs.declared.machine.Machine.{Machine}
use Rattle.armcaps_top.proofs.Answered.{begins, board_is, completes, history_is, is_board}
use Rattle.armcaps_top.proofs.bringing.begin.Goals as goal

pub returns-clause-begun : goal.returns-clause-begun
returns-clause-begun c =
    let reading = reading_of c.args.machine in
    let sound = c.requires in
    let events = c.in_ok-events.ensures ∙ ap (λ (lines : List StepLine). flat_map events_of lines) c.deref.ensures.value
    ∙ ap (λ (machine : Machine). flat_map events_of machine.steps.items) c.machine.view_is in
    let first = c.in-Ok.ensures.first ∙ ap (λ (machine : Machine). first_world machine.board) c.machine.view_is in record {
      at = begins c.machines_begin_with_no_step.ensures reading c.in_ok-events.events.items c.in-Ok.boot sound events first;
      complete = completes reading c.in_ok-events.events.items c.in-Ok.boot sound events first;
      board = board_is reading c.in-Ok.boot first;
      steps = history_is reading c.in_ok-events.events.items events;
      safe = c.documents_are_safe.ensures reading.board (history reading.steps) (is_board reading sound) sound.order sound.complete;
    }
