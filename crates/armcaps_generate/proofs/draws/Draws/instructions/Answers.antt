use Rattle.armcaps_generate.specs.Alternatives.{instruction_drawn}
use Rattle.armcaps_generate.proofs.Drawing.{drawn_all, drawn_next}
use Rattle.armcaps_generate.proofs.draws.Draws.instructions.Goals as goal

pub loop-preserved : goal.loop-preserved
loop-preserved c =
    rw c.in_ok-push.ensures.items
    (drawn_next instruction_drawn c.args.count c.loop.counter c.loop.self.state c.loop.drawn.items _ c.instruction.result c.instruction.new.self.state c.loop-test.true c.instruction.ensures c.loop.invariant)

pub returns : goal.returns
returns c = drawn_all instruction_drawn c.args.count c.loop.counter c.loop.self.state c.loop.drawn.items _ c.loop-test.false c.loop.invariant
