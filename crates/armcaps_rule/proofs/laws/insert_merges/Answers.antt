use Rattle.std.proofs.Common.{ℤ, length-append, arith}
use Rattle.armcaps_rule.proofs.Insertion.{fold_insert}
use Rattle.armcaps_rule.proofs.Overrides.{forced_insert}
use Rattle.armcaps_rule.proofs.laws.insert_merges.Goals as goal

pub returns-clause-fold : goal.returns-clause-fold
returns-clause-fold c =
    fold_insert c.args.rule c.args.safe c.args.before.now c.args.after.now c.args.value (omega (arith, length-append {A = ℤ}))

pub returns-clause-forced : goal.returns-clause-forced
returns-clause-forced c =
    forced_insert c.args.rule c.args.safe c.args.override_ c.args.before.now c.args.after.now c.args.value
    (omega (arith, length-append {A = ℤ}))
