use Rattle.std.proofs.Common.{◌≡◌, ◌+◌, ◌-◌, ◌≤◌, ◌<◌, ℕ, get_or, length, take}
use Rattle.std.specs.List.{All, list_any}
use Rattle.armcaps_elf.specs.declared.section.Section.{Section}
use Rattle.armcaps_elf.specs.declared.stretch.Stretch.{Stretch}
use Rattle.armcaps_elf.specs.Stretches.{IsApart, in_stretch, is_held}
use Rattle.armcaps_elf.proofs.stretch.stretches_of.Given as goal

-- the stretches of the sections so far, which end before the next one or where it begins
abbrev pub invariant-loop-section : goal.invariant-loop-section
invariant-loop-section l = record {
  held : (n : ℕ) → list_any (in_stretch n) l.stretches.items ≡ is_held (take l.section-index l.sections) (l.base + n);
  apart : IsApart l.stretches.items;
  behind : (j : ℕ) (d : Section) → l.section-index ≤ j → j < length l.sections
      → All (λ (s : Stretch). s.end ≤ (get_or l.sections j d).address - l.base) l.stretches.items;
}
