use Rattle.std.proofs.Common.{Err, ap, refl}
use Rattle.armcaps_top.specs.Run.{change}
use Rattle.armcaps_top.proofs.Performing.{kept_too, not_performed, performed}
use Rattle.armcaps_top.proofs.program.perform.Goals as goal

pub returns-in-Ok-clause-performs : goal.returns-in-Ok-clause-performs
returns-in-Ok-clause-performs g c =
    performed c.args.command (change g.S.Source.left g.S.Source.faults c.args.input.now c.read_for.new.source)
    (change g.O.Sink.held g.O.Sink.faults c.args.out.now c.answer.new.out) c.in-Ok.bytes.items c.deref.result.now c.answer.new.machines.items c.answer.result
    c.requires.cores c.in-Ok.ensures.read c.deref.ensures.value c.in-Ok.ensures.within c.answer.ensures c.in-Ok.ensures.at_most
    (λ none. kept_too g.S.Source.left c.args.input.now c.read_for.new.source (c.read_for.ensures.untouched none))

pub returns-in-Err-clause-performs : goal.returns-in-Err-clause-performs
returns-in-Err-clause-performs g c =
    not_performed c.args.command (change g.S.Source.left g.S.Source.faults c.args.input.now c.read_for.new.source)
    (change g.O.Sink.held g.O.Sink.faults c.args.out.now c.args.out.now) c.args.machines.now.items c.in-Err.ending c.requires.none refl c.in-Err.ensures.not_read
    (λ limit is. c.in-Err.ensures.one_more limit (ap Err is)) c.in-Err.ensures.at_most
    (λ none. kept_too g.S.Source.left c.args.input.now c.read_for.new.source (c.read_for.ensures.untouched none))
