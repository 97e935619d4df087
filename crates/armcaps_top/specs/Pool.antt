-- What `pool` writes: the best register set that each of some machines accepts.
use Rattle.std.specs.Prelude.{ℕ, List, map}
use Rattle.armcaps_boot.specs.Findings.{Findings}
use Rattle.armcaps_boot.specs.World.{admitted_cores}
use Rattle.armcaps_report.specs.Pooled.{pool_report_of}
use Rattle.armcaps_sanit.specs.System.{system_words}

-- a machine by the words of its registers, over the cores that were ever admitted
abbrev pub words_found : Findings → List ℕ
words_found found = system_words found.board.overrides (admitted_cores found.board found.states)

-- the report of the baseline of some machines
abbrev pub pool_output : List Findings → List ℕ
pool_output machines = pool_report_of (map words_found machines)
