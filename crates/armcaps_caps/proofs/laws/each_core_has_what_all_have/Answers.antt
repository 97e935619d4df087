use Rattle.armcaps_caps.proofs.Shared.{capability_over-each, core_has_capability-ctr, system_has_capability-over}
use Rattle.armcaps_caps.proofs.laws.each_core_has_what_all_have.Goals as goal

pub returns-clause-words : goal.returns-clause-words
returns-clause-words c = system_has_capability-over

pub returns-clause-each : goal.returns-clause-each
returns-clause-each c = capability_over-each

pub returns-clause-ctr : goal.returns-clause-ctr
returns-clause-ctr c = core_has_capability-ctr
