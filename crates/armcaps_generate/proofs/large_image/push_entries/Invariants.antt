use Rattle.std.proofs.Common.{◌≡◌, ◌++◌, take}
use Rattle.armcaps_generate.specs.LargeImage.{entry_bytes, laid}
use Rattle.armcaps_generate.proofs.large_image.push_entries.Given as goal

abbrev pub invariant-loop-index : goal.invariant-loop-index
invariant-loop-index l = l.image.items ≡ l.initial.image.items ++ laid entry_bytes (take l.index l.alternatives)
