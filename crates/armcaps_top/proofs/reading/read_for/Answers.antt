use Rattle.std.proofs.Common.{subst, sym}
use Rattle.std.specs.Prelude.{IfErr}
use Rattle.armcaps_top.specs.Inside.{IsNotRead}
use Rattle.armcaps_top.specs.Run.{change}
use Rattle.armcaps_top.specs.declared.commands.Command.{Command}
use Rattle.armcaps_top.proofs.Limits.{pair_unread, texts_unread}
use Rattle.armcaps_top.proofs.reading.read_for.Goals as goal

pub returns-in-Pool-clause-not_read : goal.returns-in-Pool-clause-not_read
returns-in-Pool-clause-not_read g c =
    let input = change g.S.Source.left g.S.Source.faults c.args.source.now c.read_within.new.source in
    subst (λ (command : Command). IfErr c.read_within.result (IsNotRead command input)) (sym c.in-Pool.is)
    (texts_unread c.read_within.result input c.read_within.ensures.unread)

pub returns-in-Audit-clause-not_read : goal.returns-in-Audit-clause-not_read
returns-in-Audit-clause-not_read g c =
    let input = change g.S.Source.left g.S.Source.faults c.args.source.now c.read_within-in-Audit.new.source in
    subst (λ (command : Command). IfErr c.read_within-in-Audit.result (IsNotRead command input)) (sym c.in-Audit.is)
    (pair_unread c.read_within-in-Audit.result input c.read_within-in-Audit.ensures.unread)
