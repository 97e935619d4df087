use Rattle.armcaps_hwcap.specs.Hwcaps.{system_has_hwcap}
use Rattle.armcaps_hwcap.specs.Words.{HasFirst}
use Rattle.armcaps_hwcap.proofs.advertising.of_system.Given as goal

abbrev pub invariant-loop-index : goal.invariant-loop-index
invariant-loop-index l = HasFirst l.index (system_has_hwcap l.system) l.set
