use Rattle.armcaps_rule.proofs.Overrides.{override_taken, override_ignored}
use Rattle.armcaps_rule.proofs.laws.override_is_taken_or_ignored.Goals as goal

pub returns-clause-taken : goal.returns-clause-taken
returns-clause-taken c = override_taken c.args.rule c.args.safe c.args.before.now c.args.after.now c.args.value c.args.override_

pub returns-clause-ignored : goal.returns-clause-ignored
returns-clause-ignored c = override_ignored c.args.rule c.args.safe c.args.before.now c.args.after.now c.args.value c.args.override_
