use Rattle.std.proofs.Common.{◌≡◌, ◌≤◌, ℕ}
use Rattle.std.specs.List.{count_by, range_with_len}
use Rattle.armcaps_boot.specs.World.{state_at}
use Rattle.armcaps_report.specs.Demo.{stands_parked, stands_admitted}
use Rattle.armcaps_report.proofs.standing.count_cores.Given as goal

abbrev pub invariant-loop-number : goal.invariant-loop-number
invariant-loop-number l = record {
  admitted : l.admitted ≡ count_by (λ (number : ℕ). stands_admitted (state_at l.boot.states number)) (range_with_len 0 l.number);
  parked : l.parked ≡ count_by (λ (number : ℕ). stands_parked (state_at l.boot.states number)) (range_with_len 0 l.number);
  few_admitted : l.admitted ≤ l.number;
  few_parked : l.parked ≤ l.number;
}
