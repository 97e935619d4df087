-- What a machine that was brought up has for its alternatives.
use Rattle.armcaps_enc.specs.declared.register.SysReg.TheVariants.{CtrEl0}
use Rattle.armcaps_tables.specs.Core.{word_at}
use Rattle.armcaps_sanit.specs.System.{system_words}
use Rattle.armcaps_boot.specs.Causes.{capability_enabled}
use Rattle.armcaps_boot.specs.Findings.{Findings, findings_of}
use Rattle.armcaps_boot.specs.World.{World, early_cores}
use Rattle.armcaps_alt.specs.Entries.{Features}
use Rattle.armcaps_alt.specs.Names.{NameLists}

-- the capabilities that are enabled over the early cores, and their word of CTR_EL0
abbrev pub features_of_findings : Findings → NameLists → Features
features_of_findings found names = record {
  names = names;
  enabled = capability_enabled found.board (early_cores found.board found.states);
  ctr = word_at (system_words found.board.overrides (early_cores found.board found.states)) CtrEl0;
}

-- the capabilities that are enabled over the early cores of a machine, and their word of CTR_EL0
abbrev pub features_of : World → NameLists → Features
features_of world names = features_of_findings (findings_of world) names
