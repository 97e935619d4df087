use Rattle.std.proofs.Common.{◌≡◌, ◌-◌, ◌++◌, map}
use Rattle.std.specs.List.{range_with_len}
use Rattle.armcaps_board.specs.declared.step_line.StepLine.TheVariants.{Online}
use Rattle.armcaps_generate.proofs.generator.push_online.Given as goal

abbrev pub invariant-loop-core : goal.invariant-loop-core
invariant-loop-core l = l.steps.items ≡ l.initial.steps.items ++ map Online (range_with_len l.from (l.core - l.from))
