use Rattle.std.proofs.Common.{◌+◌, ◌∙◌, subst, sym, arith}
use Rattle.armcaps_hwcap.specs.declared.hw_set.HwSet.{HwSet}
use Rattle.armcaps_hwcap.specs.Hwcaps.{system_has_hwcap}
use Rattle.armcaps_hwcap.specs.Words.{HasFirst}
use Rattle.armcaps_hwcap.proofs.Sets.{at_first, made_first, made_second, without}
use Rattle.armcaps_hwcap.proofs.Shown.{is_advertised}
use Rattle.armcaps_hwcap.proofs.advertising.of_system.Goals as goal
use Rattle.armcaps_hwcap.proofs.advertising.of_system.Goals.{else-system_has, then-system_has}

pub loop-index-init : goal.loop-index-init
loop-index-init c = at_first (system_has_hwcap c.args.system.now)

pub loop-index-preserved : goal.loop-index-preserved
loop-index-preserved c =
    let has = system_has_hwcap c.args.system.now in
    let Next : HwSet → Type 0 = HasFirst (c.loop-index.index + 1) has in
    elim c.if-system_has.branch [
      | then-system_has w ↦ subst Next (sym w.set-is) (w.with_row-set.ensures has (sym c.system_has.ensures
          ∙ w.if-system_has.true) c.loop-index.invariant)
      | else-system_has w ↦ subst Next (sym w.set-is)
          (without c.loop-index.index has c.loop-index.set (omega arith) (sym c.system_has.ensures
          ∙ w.if-system_has.false) c.loop-index.invariant)
    ]

pub returns-clause-hwcap : goal.returns-clause-hwcap
returns-clause-hwcap c = made_first (system_has_hwcap c.args.system.now) c.loop-index.set c.loop-index.index
    (omega arith) c.loop-index.invariant

pub returns-clause-hwcap2 : goal.returns-clause-hwcap2
returns-clause-hwcap2 c = made_second (system_has_hwcap c.args.system.now) c.loop-index.set c.loop-index.index
    (omega arith) c.loop-index.invariant

pub returns-clause-stands : goal.returns-clause-stands
returns-clause-stands c overrides cores stands =
    is_advertised overrides cores c.args.system.now c.loop-index.set stands
    (made_first (system_has_hwcap c.args.system.now) c.loop-index.set c.loop-index.index (omega arith)
    c.loop-index.invariant)
    (made_second (system_has_hwcap c.args.system.now) c.loop-index.set c.loop-index.index (omega arith)
    c.loop-index.invariant)
