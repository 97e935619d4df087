use Rattle.std.proofs.Common.{◌≡◌, ◌+◌, ◌*◌, ◌<◌, ℕ, false}
use Rattle.armcaps_image.specs.Bytes.{word_in}
use Rattle.armcaps_insn.specs.declared.instruction_class.Class.TheVariants.{Other}
use Rattle.armcaps_insn.specs.Encodings.{class_of}
use Rattle.armcaps_patch.proofs.words.takes_addresses.Given as goal

-- where none so far takes an address, each is of class Other
abbrev pub invariant-loop-index : goal.invariant-loop-index
invariant-loop-index l = l.any ≡ false → (k : ℕ) → k < l.index → class_of (word_in l.image (l.begin + 4 * k)) ≡ Other
