use Rattle.std.proofs.Common.{◌∙◌, ap, arith}
use Rattle.armcaps_caps.specs.Set.{holds}
use Rattle.armcaps_caps.proofs.Members.{holds_set, holds_set_other, set_below}
use Rattle.armcaps_caps.proofs.cap_set.CapSet.insert.Goals as goal

pub invariant_of-self : goal.invariant_of-self
invariant_of-self c = set_below c.self.inside.bits c.args.number c.self.invariant c.requires

pub returns-clause-here : goal.returns-clause-here
returns-clause-here c = holds_set c.self.inside.bits c.args.number (omega arith)

pub returns-clause-others : goal.returns-clause-others
returns-clause-others c other differ =
    holds_set_other c.self.inside.bits c.args.number other (omega arith) differ
    ∙ ap (λ set. holds set other) c.self.view_is
