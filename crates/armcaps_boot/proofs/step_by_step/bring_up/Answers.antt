use Rattle.std.proofs.Common.{sym, ◌∙◌}
use Rattle.armcaps_boot.proofs.Brought.{finished, stopped}
use Rattle.armcaps_boot.proofs.step_by_step.bring_up.Goals as goal

pub returns-in-Some-clause-halt : goal.returns-in-Some-clause-halt
returns-in-Some-clause-halt c =
    sym (stopped c.args.boot.now.board c.loop-index.index c.args.events.now c.loop-index.boot c.make_step.new.boot c.in-Some.halt c.loop-index-test.true
    c.loop-index.invariant c.make_step.ensures.after (sym c.halted.ensures ∙ c.in-Some.is)).halt_is

pub returns-in-Some-clause-machine : goal.returns-in-Some-clause-machine
returns-in-Some-clause-machine c =
    (stopped c.args.boot.now.board c.loop-index.index c.args.events.now c.loop-index.boot c.make_step.new.boot c.in-Some.halt c.loop-index-test.true
    c.loop-index.invariant c.make_step.ensures.after (sym c.halted.ensures ∙ c.in-Some.is)).made

pub returns-clause-halt : goal.returns-clause-halt
returns-clause-halt c =
    sym (finished c.args.boot.now.board c.loop-index.index c.args.events.now c.loop-index.boot c.loop-index-test.false c.loop-index.auto.index-end c.loop-index.invariant).halt_is

pub returns-clause-machine : goal.returns-clause-machine
returns-clause-machine c =
    (finished c.args.boot.now.board c.loop-index.index c.args.events.now c.loop-index.boot c.loop-index-test.false c.loop-index.auto.index-end c.loop-index.invariant).made
