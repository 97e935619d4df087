use Rattle.armcaps_elf.proofs.Flat.{HasFirst}
use Rattle.armcaps_elf.proofs.flattening.put_sections.Given as goal

abbrev pub invariant-loop-section : goal.invariant-loop-section
invariant-loop-section l = HasFirst l.sections l.base l.file l.flat l.section-index
