use Rattle.armcaps_rule.proofs.Merging.{merged_same, merged_commutes, merged_associates}
use Rattle.armcaps_rule.proofs.laws.merge_joins.Goals as goal

pub returns-clause-same : goal.returns-clause-same
returns-clause-same c = merged_same c.args.rule c.args.safe c.args.first

pub returns-clause-order : goal.returns-clause-order
returns-clause-order c = merged_commutes c.args.rule c.args.safe c.args.first c.args.second

pub returns-clause-grouping : goal.returns-clause-grouping
returns-clause-grouping c = merged_associates c.args.rule c.args.safe c.args.first c.args.second c.args.third
