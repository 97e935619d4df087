use Rattle.std.proofs.Common.{◌≡◌, ◌/◌, ◌*◌, ◌≤◌, take}
use Rattle.std.specs.List.{sum_by}
use Rattle.armcaps_patch.specs.declared.kept.Kept.{Kept}
use Rattle.armcaps_patch.proofs.planning.words_of_kept.Given as goal

abbrev pub invariant-loop-entry : goal.invariant-loop-entry
invariant-loop-entry l = record {
  words : l.words ≡ sum_by (λ (entry : Kept). entry.len / 4) (take l.entry-index l.kept);
  few : l.words ≤ 63 * l.entry-index;
}
