use Rattle.std.proofs.Common.{◌≡◌, ◌-◌}
use Rattle.armcaps_generate.specs.Cores.{core_drawn}
use Rattle.armcaps_generate.specs.Draws.{several}
use Rattle.armcaps_generate.proofs.Drawing.{then_drawn}
use Rattle.armcaps_generate.proofs.draws.Draws.push_cores.Given as goal

abbrev pub invariant-loop : goal.invariant-loop
invariant-loop l = then_drawn l.initial.cores.items (several core_drawn l.count l.initial.self.state) ≡ then_drawn l.cores.items (several core_drawn (l.count - l.counter) l.self.state)
