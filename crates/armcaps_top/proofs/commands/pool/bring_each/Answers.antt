use Rattle.std.proofs.Common.{◌≡◌, ◌∙◌, arith, length, map, rules}
use Rattle.std.proofs.lemmas.List.{length-map}
use Rattle.std.proofs.lemmas.Iterator.Adapters.{YieldsList-from_vec}
use Rattle.std.proofs.lemmas.Iterator.Consumers.{YieldsList-so_far, YieldsList-turn}
use Rattle.armcaps_text.specs.Document.{reading_of}
use Rattle.armcaps_top.proofs.Pools.{as_many, cut_at, stopped_among, up_after}
use Rattle.armcaps_top.proofs.commands.pool.bring_each.Goals as goal

pub overflow_cast-number : goal.overflow_cast-number
overflow_cast-number c =
    let gives = c.into_iter-machine-iterator.ensures.into_iter_gives in
    let road = YieldsList-from_vec c.args.read.items gives.0 (gives.1 ∙ c.args.read.ok.0) in
    let turn = YieldsList-turn road c.loop-machine.yielded c.loop-machine.machine-iterator c.loop-machine.yielded_by c.next.result c.next.new.self c.in-Some.machine c.in-Some.is c.next.ensures.steps in
    let past = map reading_of c.loop-machine.yielded in
    let count : c.len-number.result ≡ length c.loop-machine.machines.items = search rules in
    omega (arith, count, as_many past c.loop-machine.machines.items c.loop-machine.invariant, length-map c.loop-machine.yielded reading_of, turn.0, c.requires.few)

pub returns-in-Err-clause-stopped : goal.returns-in-Err-clause-stopped
returns-in-Err-clause-stopped c =
    let gives = c.into_iter-machine-iterator.ensures.into_iter_gives in
    let road = YieldsList-from_vec c.args.read.items gives.0 (gives.1 ∙ c.args.read.ok.0) in
    let turn = YieldsList-turn road c.loop-machine.yielded c.loop-machine.machine-iterator c.loop-machine.yielded_by c.next.result c.next.new.self c.in-Some.machine c.in-Some.is c.next.ensures.steps in
    let first = YieldsList-so_far road c.loop-machine.yielded c.loop-machine.machine-iterator c.loop-machine.yielded_by in
    let count : c.len-number.result ≡ length c.loop-machine.machines.items = search rules in
    stopped_among c.args.read.items c.loop-machine.yielded c.in-Some.machine c.loop-machine.machines.items c.bring.new.machines.items c.in-Err.ending c.numbered.result
    c.len-number.result (cut_at c.args.read.items c.loop-machine.yielded c.in-Some.machine first turn.0 turn.1) c.loop-machine.invariant c.in-Err.ensures.not_up count c.numbered.ensures

pub loop-machine-preserved-in_default : goal.loop-machine-preserved-in_default
loop-machine-preserved-in_default c =
    up_after c.loop-machine.yielded c.loop-machine.machines.items c.bring.new.machines.items c.in-Some.machine c.loop-machine.invariant c.in_default.ensures.up
