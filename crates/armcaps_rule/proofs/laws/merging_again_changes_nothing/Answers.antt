use Rattle.armcaps_rule.proofs.Overrides.{forced_again}
use Rattle.armcaps_rule.proofs.laws.merging_again_changes_nothing.Goals as goal

pub returns : goal.returns
returns c = forced_again c.args.rule c.args.safe c.args.override_ c.args.before.now c.args.after.now c.args.value
