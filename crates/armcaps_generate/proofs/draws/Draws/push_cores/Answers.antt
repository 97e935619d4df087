use Rattle.std.proofs.Common.{sym, ap}
use Rattle.armcaps_generate.specs.Cores.{core_drawn}
use Rattle.armcaps_generate.proofs.Drawing.{drawn_all, drawn_next}
use Rattle.armcaps_generate.proofs.draws.Draws.push_cores.Goals as goal

pub loop-preserved : goal.loop-preserved
loop-preserved c =
    rw c.in_ok-push.ensures.items
    (drawn_next core_drawn c.args.count c.loop.counter c.loop.self.state c.loop.cores.items _ c.core.result c.core.new.self.state c.loop-test.true c.core.ensures c.loop.invariant)

pub returns-clause-cores : goal.returns-clause-cores
returns-clause-cores c = sym (ap (λ (drawn : _). drawn.value) (drawn_all core_drawn c.args.count c.loop.counter c.loop.self.state c.loop.cores.items _ c.loop-test.false c.loop.invariant))

pub returns-clause-state : goal.returns-clause-state
returns-clause-state c = sym (ap (λ (drawn : _). drawn.state) (drawn_all core_drawn c.args.count c.loop.counter c.loop.self.state c.loop.cores.items _ c.loop-test.false c.loop.invariant))
