use Rattle.std.proofs.Common.{◌+◌, ◌<◌, ℕ, get_or}
use Rattle.armcaps_elf.specs.declared.section.Section.{Section}
use Rattle.armcaps_elf.specs.Sections.{Follows, begin_of}
use Rattle.armcaps_elf.proofs.overlaps.share.Given as goal

-- each section so far follows the one before it
abbrev pub invariant-loop-index : goal.invariant-loop-index
invariant-loop-index l = (k : ℕ) (d : Section) → k + 1 < l.index
    → Follows (begin_of l.begin) (get_or l.sections k d) (get_or l.sections (k + 1) d)
