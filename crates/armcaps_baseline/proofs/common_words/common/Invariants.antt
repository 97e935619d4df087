use Rattle.std.proofs.Common.{◌+◌, map, take}
use Rattle.armcaps_tables.specs.Overriding.{no_overrides}
use Rattle.armcaps_sanit.specs.System.{IsSystemOf}
use Rattle.armcaps_baseline.specs.Baselines.{as_core}
use Rattle.armcaps_baseline.proofs.common_words.common.Given as goal

-- the words are those of the machines passed, the first among them
abbrev pub invariant-loop-system : goal.invariant-loop-system
invariant-loop-system l = IsSystemOf no_overrides (map as_core (take (l.system-index + 1) l.fn.systems)) l.whole
