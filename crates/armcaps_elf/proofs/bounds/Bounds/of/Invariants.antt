use Rattle.std.proofs.Common.{◌≡◌, ◌+◌, ◌<◌, ◌≤◌, ℕ, get_or, take}
use Rattle.armcaps_elf.specs.declared.section.Section.{Section}
use Rattle.armcaps_elf.specs.Sections.{greatest_end, least_address}
use Rattle.armcaps_elf.proofs.bounds.Bounds.of.Given as goal

abbrev pub invariant-loop-section : goal.invariant-loop-section
invariant-loop-section l = record {
  least : l.least ≡ least_address (take l.section-index l.sections);
  end : l.end ≡ greatest_end (take l.section-index l.sections);
  below : (k : ℕ) (d : Section) → k < l.section-index → l.least ≤ (get_or l.sections k d).address;
  above : (k : ℕ) (d : Section) → k < l.section-index → (get_or l.sections k d).address + (get_or l.sections k d).size ≤ l.end;
}
