use Rattle.std.proofs.Common.{◌≡◌, ◌<◌, ℕ, List, None}
use Rattle.armcaps_elf.specs.Images.{flat_image}
use Rattle.armcaps_elf.specs.Standing.{StandsFor}
use Rattle.armcaps_patch.specs.Features.{features_of}
use Rattle.armcaps_top.specs.Elf.{unloaded_at}
use Rattle.armcaps_top.proofs.commands.elf.first_unloaded.Given as goal

-- no selected entry so far has a byte that isn't loaded
abbrev pub invariant-loop-number : goal.invariant-loop-number
invariant-loop-number l = (file : List ℕ) → StandsFor l.elf file → l.flat ≡ flat_image file
    → (k : ℕ) → k < l.number → unloaded_at (features_of l.boot l.names) file k ≡ None
