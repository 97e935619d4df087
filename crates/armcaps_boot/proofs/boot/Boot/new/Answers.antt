use Rattle.std.proofs.Common.{◌<◌, length, subst, sym, arith}
use Rattle.armcaps_boot.specs.Facts.{Facts}
use Rattle.armcaps_boot.proofs.Beginning.{first_facts}
use Rattle.armcaps_boot.proofs.boot.Boot.new.Goals as goal

pub invariant_of-result : goal.invariant_of-result
invariant_of-result c =
    let within : c.args.boot < length c.args.cores.items = omega arith in
    subst Facts (sym c.first.ensures.first)
    (first_facts _ (record { within = within; few = c.requires.few; fit = c.first.ensures.fit; plain_ctr = c.requires.plain_ctr }))

pub returns-in-Ok-clause-facts : goal.returns-in-Ok-clause-facts
returns-in-Ok-clause-facts c = invariant_of-result c
