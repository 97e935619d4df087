use Rattle.std.proofs.Common.{true, arith, refl, sym, ap, ◌∙◌}
use Rattle.armcaps_boot.specs.World.{state_at}
use Rattle.armcaps_report.specs.Settled.{is_settled}
use Rattle.armcaps_report.proofs.Searching.{below_more, settled_all}
use Rattle.armcaps_report.proofs.settled.are_settled.Goals as goal

pub loop-number-preserved : goal.loop-number-preserved
loop-number-preserved c =
    below_more (λ k. is_settled (state_at c.args.boot.now.states k)) true c.loop-number.number
    (ap is_settled (sym c.state.ensures) ∙ sym c.is_settled.ensures ∙ c.if-not-is_settled.false) c.loop-number.invariant

pub returns : goal.returns
returns c =
    let settled = settled_all c.args.boot.now.states
    (λ k below. c.loop-number.invariant k (omega (arith, c.facts_hold.ensures.sizes, c.count-number-end.ensures, c.loop-number-test.false))) in
    ((λ _. settled), (λ _. refl))
