use Rattle.std.proofs.Common.{ℕ, arith}
use Rattle.armcaps_boot.specs.World.{state_at}
use Rattle.armcaps_report.specs.Demo.{stands_parked, stands_admitted}
use Rattle.armcaps_report.proofs.Tallies.{at_most_one, count-more}
use Rattle.armcaps_report.proofs.standing.count_cores.Goals as goal

pub loop-number-preserved : goal.loop-number-preserved
loop-number-preserved c =
    let admitted = rw c.core_state.ensures at c.standing-up.ensures.admitted in
    let parked = rw c.core_state.ensures at c.standing-up.ensures.parked in
    record {
      admitted = count-more (λ (number : ℕ). stands_admitted (state_at c.args.boot.now.states number)) c.loop-number.number c.loop-number.admitted _ c.loop-number.invariant.admitted admitted;
      parked = count-more (λ (number : ℕ). stands_parked (state_at c.args.boot.now.states number)) c.loop-number.number c.loop-number.parked _ c.loop-number.invariant.parked parked;
      few_admitted = omega (arith, c.loop-number.invariant.few_admitted, at_most_one _ _ admitted);
      few_parked = omega (arith, c.loop-number.invariant.few_parked, at_most_one _ _ parked);
    }
