use Rattle.armcaps_top.proofs.Answered.{begun_on, up}
use Rattle.armcaps_top.proofs.bringing.bring.Goals as goal

pub returns-clause-up : goal.returns-clause-up
returns-clause-up c =
    up c.bring_up-halt.new.boot c.bring_up-halt.result c.args.machines.now.items c.leave.new.machines.items (begun_on c.in-Ok.ensures.begun c.deref.ensures.value)
    c.bring_up-halt.ensures.machine c.bring_up-halt.ensures.halt c.in_ok-leave.ensures.halt c.facts_hold.ensures
    (c.in_ok-leave.ensures.left (λ e. let no : ⊥ = cc in no))
