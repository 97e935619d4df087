use Rattle.std.proofs.Common.{◌≡◌, ◌<◌, ◌≤◌, ◌^◌, ℕ, None, length, map}
use Rattle.std.specs.List.{All, filter, range_with_len}
use Rattle.armcaps_alt.specs.Entries.{entry_at, is_selected}
use Rattle.armcaps_alt.specs.Refusals.{refusal_of}
use Rattle.armcaps_caps.specs.Set.{holds}
use Rattle.armcaps_patch.specs.Choices.{AreAsked, AreChoices}
use Rattle.armcaps_patch.specs.Features.{features_of}
use Rattle.armcaps_patch.specs.Kept.{IsKept, kept_of}
use Rattle.armcaps_patch.proofs.checking.keep_all.Given as goal

-- no entry so far is refused, and the selected ones are kept
abbrev pub invariant-loop-index : goal.invariant-loop-index
invariant-loop-index l = record {
  accepted : (k : ℕ) → k < l.index → refusal_of (features_of l.boot l.names) l.image (entry_at l.image l.layout k) ≡ None;
  kept : l.kept.items ≡ map (kept_of l.names) (filter (is_selected (features_of l.boot l.names)) (map (entry_at l.image l.layout) (range_with_len 0 l.index)));
  each : All (IsKept (length l.image)) l.kept.items;
  few : length l.kept.items ≤ l.index;
  known : AreChoices l.names (holds l.enabled) l.choices.items;
  numbers : length l.choices.items ≡ 2 ^ 15;
  asked : AreAsked l.names l.asked.items;
  callbacks : length l.asked.items ≡ 1024;
}
