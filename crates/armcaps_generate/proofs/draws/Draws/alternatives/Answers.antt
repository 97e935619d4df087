use Rattle.std.proofs.Common.{ap}
use Rattle.armcaps_generate.specs.Alternatives.{alternative_drawn}
use Rattle.armcaps_generate.proofs.Drawing.{drawn_all, drawn_next}
use Rattle.armcaps_generate.proofs.draws.Draws.alternatives.Goals as goal

pub loop-preserved : goal.loop-preserved
loop-preserved c =
    rw c.in_ok-push.ensures.items
    (drawn_next alternative_drawn c.args.count c.loop.counter c.loop.self.state c.loop.drawn.items _ c.in_ok-alternative.field-0 c.alternative.new.self.state c.loop-test.true c.in_ok-alternative.ensures c.loop.invariant)

pub returns : goal.returns
returns c = ap (λ (drawn : _). drawn.value) (drawn_all alternative_drawn c.args.count c.loop.counter c.loop.self.state c.loop.drawn.items _ c.loop-test.false c.loop.invariant)
