use Rattle.std.proofs.Common.{◌≡◌, map, take}
use Rattle.armcaps_boot.specs.Findings.{findings_of}
use Rattle.armcaps_top.specs.Pool.{words_found}
use Rattle.armcaps_top.proofs.commands.pool.systems_of.Given as goal

abbrev pub invariant-loop-boot : goal.invariant-loop-boot
invariant-loop-boot l = l.systems.items ≡ map (λ world. words_found (findings_of world)) (take l.boot-index l.machines)
