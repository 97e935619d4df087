use Rattle.armcaps_hwcap.proofs.Shown.{hwcap_over-each, system_has_hwcap-over}
use Rattle.armcaps_hwcap.proofs.laws.each_core_has_what_is_advertised.Goals as goal

pub returns-clause-words : goal.returns-clause-words
returns-clause-words c = system_has_hwcap-over

pub returns-clause-each : goal.returns-clause-each
returns-clause-each c = hwcap_over-each
