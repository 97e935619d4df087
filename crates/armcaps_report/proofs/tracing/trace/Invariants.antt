use Rattle.std.proofs.Common.{◌≡◌, ◌++◌, codes, string_bytes}
use Rattle.std.specs.Prelude.{reverse}
use Rattle.armcaps_boot.specs.StepByStep.{IsAt, steps_before}
use Rattle.armcaps_report.specs.Trace.{lines_of_steps}
use Rattle.armcaps_report.proofs.tracing.trace.Given as goal

abbrev pub invariant-loop-index : goal.invariant-loop-index
invariant-loop-index l = record {
  at : IsAt l.index l.events l.fn.boot.board l.boot;
  text : string_bytes l.text ≡ string_bytes l.fn.text ++ codes "armcaps trace 1\n" ++ lines_of_steps l.fn.boot.board (reverse l.events) (steps_before l.index l.events);
}
