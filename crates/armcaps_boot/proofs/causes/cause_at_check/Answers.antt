use Rattle.std.proofs.Common.{◌∙◌, sym}
use Rattle.armcaps_boot.specs.Scopes.{held_at_check}
use Rattle.armcaps_boot.proofs.causes.cause_at_check.Goals as goal

pub returns-then-has_fewer_asids-clause-cause : goal.returns-then-has_fewer_asids-clause-cause
unfolding held_at_check
returns-then-has_fewer_asids-clause-cause c = let fewer = rw c.boot_core.ensures at (sym c.has_fewer_asids.ensures ∙ c.if-has_fewer_asids.true) in rw fewer

pub returns-in-Some-clause-cause : goal.returns-in-Some-clause-cause
unfolding held_at_check
returns-in-Some-clause-cause c =
    let enough = rw c.boot_core.ensures at (sym c.has_fewer_asids.ensures ∙ c.if-has_fewer_asids.false) in
    let found = c.in-Some.ensures.first in rw (enough, ← found)

pub returns-in-None-clause-cause : goal.returns-in-None-clause-cause
unfolding held_at_check
returns-in-None-clause-cause c =
    let enough = rw c.boot_core.ensures at (sym c.has_fewer_asids.ensures ∙ c.if-has_fewer_asids.false) in
    let found = c.in-None.ensures.first in rw (enough, ← found)
