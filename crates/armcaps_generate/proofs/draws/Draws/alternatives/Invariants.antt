use Rattle.std.proofs.Common.{◌≡◌, ◌-◌}
use Rattle.armcaps_generate.specs.Alternatives.{alternative_drawn}
use Rattle.armcaps_generate.specs.Draws.{several}
use Rattle.armcaps_generate.proofs.Drawing.{then_drawn}
use Rattle.armcaps_generate.proofs.draws.Draws.alternatives.Given as goal

abbrev pub invariant-loop : goal.invariant-loop
invariant-loop l = several alternative_drawn l.count l.initial.self.state ≡ then_drawn l.drawn.items (several alternative_drawn (l.count - l.counter) l.self.state)
