use Rattle.std.proofs.Common.{◌≡◌, false}
use Rattle.std.specs.List.{list_any}
use Rattle.armcaps_alt.specs.Refusals.{is_literal, is_out_of_range}
use Rattle.armcaps_patch.specs.Replaced.{moved_words}
use Rattle.armcaps_patch.proofs.accepting.refused_by_words.Given as goal

-- no word so far is of the class that isn't followed, and it is known whether one is out of range
abbrev pub invariant-loop-index : goal.invariant-loop-index
invariant-loop-index l = record {
  literal : list_any is_literal (moved_words l.image l.kept l.index) ≡ false;
  range : l.is_out_of_range ≡ list_any is_out_of_range (moved_words l.image l.kept l.index);
}
