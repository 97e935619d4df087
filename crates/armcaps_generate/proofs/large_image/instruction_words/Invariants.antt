use Rattle.std.proofs.Common.{◌≡◌, take}
use Rattle.armcaps_generate.specs.LargeImage.{instruction_words}
use Rattle.armcaps_generate.proofs.large_image.instruction_words.Given as goal

abbrev pub invariant-loop-index : goal.invariant-loop-index
invariant-loop-index l = l.words.items ≡ instruction_words l.place (take l.index l.instructions)
