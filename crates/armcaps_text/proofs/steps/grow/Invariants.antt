use Rattle.std.proofs.Common.{◌≡◌, ℕ, ◌-◌, None, get_or, sum_by, vec_len}
use Rattle.armcaps_text.specs.Kept.{one_begun}
use Rattle.armcaps_text.proofs.steps.grow.Given as goal

abbrev pub invariant-loop-last : goal.invariant-loop-last
invariant-loop-last l = record {
  each : (core : ℕ) → get_or l.last.items core None ≡ get_or l.initial.last.items core None;
  count : sum_by one_begun l.last.items ≡ sum_by one_begun l.initial.last.items;
}

abbrev pub decreases-loop-last : goal.decreases-loop-last
decreases-loop-last l = l.len - vec_len l.last
