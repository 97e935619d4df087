use Rattle.std.proofs.Common.{subst, sym}
use Rattle.armcaps_top.specs.Answer.{answer_of}
use Rattle.armcaps_top.specs.Inside.{Ends}
use Rattle.armcaps_top.specs.Run.{change}
use Rattle.armcaps_top.specs.declared.commands.Command.{Command}
use Rattle.armcaps_top.specs.declared.commands.Command.TheVariants.{Ask, Pool, Audit, Demo}
use Rattle.armcaps_top.proofs.program.answer.Goals as goal

pub returns-in-Ask : goal.returns-in-Ask
returns-in-Ask g c =
    subst (λ (command : Command). Ends command (answer_of command c.args.bytes.now) (change g.O.Sink.held g.O.Sink.faults c.args.out.now c.write_text.new.out)
    c.ask.new.machines.items c.write_text.result) (sym c.in-Ask.is)
    (c.write_text.ensures (Ask c.in-Ask.query) (answer_of (Ask c.in-Ask.query) c.args.bytes.now) c.ask.new.machines.items c.ask.ensures)

pub returns-in-Pool : goal.returns-in-Pool
returns-in-Pool g c =
    subst (λ (command : Command). Ends command (answer_of command c.args.bytes.now) (change g.O.Sink.held g.O.Sink.faults c.args.out.now c.write_text-in-Pool.new.out)
    c.pool.new.machines.items c.write_text-in-Pool.result) (sym c.in-Pool.is)
    (c.write_text-in-Pool.ensures Pool (answer_of Pool c.args.bytes.now) c.pool.new.machines.items c.pool.ensures)

pub returns-in-Audit : goal.returns-in-Audit
returns-in-Audit g c =
    subst (λ (command : Command). Ends command (answer_of command c.args.bytes.now) (change g.O.Sink.held g.O.Sink.faults c.args.out.now c.write_text-in-Audit.new.out)
    c.audit.new.machines.items c.write_text-in-Audit.result) (sym c.in-Audit.is)
    (c.write_text-in-Audit.ensures Audit (answer_of Audit c.args.bytes.now) c.audit.new.machines.items c.audit.ensures)

pub returns-in-Demo : goal.returns-in-Demo
returns-in-Demo g c =
    subst (λ (command : Command). Ends command (answer_of command c.args.bytes.now) (change g.O.Sink.held g.O.Sink.faults c.args.out.now c.write_text-in-Demo.new.out)
    c.demo.new.machines.items c.write_text-in-Demo.result) (sym c.in-Demo.is)
    (c.write_text-in-Demo.ensures (Demo c.in-Demo.seed c.in-Demo.cores) (answer_of (Demo c.in-Demo.seed c.in-Demo.cores) c.args.bytes.now) c.demo.new.machines.items c.demo.ensures)
