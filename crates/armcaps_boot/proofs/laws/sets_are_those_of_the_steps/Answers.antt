use Rattle.armcaps_boot.proofs.HeldBack.{admitted_by_state, early_by_state, late_by_state}
use Rattle.armcaps_boot.proofs.ShorterHistories.{admitted_listed, admitted_shorter, early_listed}
use Rattle.armcaps_boot.proofs.laws.sets_are_those_of_the_steps.Goals as goal

pub returns : goal.returns
returns c = record {
  is_early = λ board past core order. early_by_state board past core order;
  is_late = λ board past core order. late_by_state board past core order;
  is_admitted = λ board past core order. admitted_by_state board past core order;
  early = λ board past order. early_listed board past order;
  admitted = λ board past order. admitted_listed board past order;
  shorter = λ board later past core order within. admitted_shorter board later past core order within;
}
