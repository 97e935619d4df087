use Rattle.armcaps_baseline.proofs.Machines.{system_first, system_more, system_all}
use Rattle.armcaps_baseline.proofs.common_words.common.Goals as goal

pub loop-system-init : goal.loop-system-init
loop-system-init c =
    system_first c.args.systems.now c.index-systems-0.result c.as_core.result c.none.result c.new-whole.result c.requires
    c.index-systems-0.is c.as_core.ensures c.none.ensures c.new-whole.ensures.stands

pub loop-system-preserved : goal.loop-system-preserved
loop-system-preserved c =
    system_more c.args.systems.now c.loop-system.system-index c.system-item.result c.as_core-in-loop-system.result
    c.loop-system.whole c.admit.new.self c.loop-system-test.true c.system-item.is c.as_core-in-loop-system.ensures
    c.admit.ensures.stands c.loop-system.invariant

pub returns : goal.returns
returns c =
    system_all c.args.systems.now c.loop-system.system-index c.loop-system.whole c.loop-system-test.false
    c.loop-system.invariant
