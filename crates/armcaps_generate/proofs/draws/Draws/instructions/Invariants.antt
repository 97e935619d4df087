use Rattle.std.proofs.Common.{◌≡◌, ◌-◌}
use Rattle.armcaps_generate.specs.Alternatives.{instruction_drawn}
use Rattle.armcaps_generate.specs.Draws.{several}
use Rattle.armcaps_generate.proofs.Drawing.{then_drawn}
use Rattle.armcaps_generate.proofs.draws.Draws.instructions.Given as goal

abbrev pub invariant-loop : goal.invariant-loop
invariant-loop l = several instruction_drawn l.count l.initial.self.state ≡ then_drawn l.drawn.items (several instruction_drawn (l.count - l.counter) l.self.state)
