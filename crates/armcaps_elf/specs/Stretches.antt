-- Unbroken stretches of the loaded bytes of a flat image.
use Rattle.std.specs.Prelude.{◌+◌, ◌&&◌, ◌<◌, ℕ, Bool, List, nat_le, nat_lt}
use Rattle.std.specs.List.{All, AllPairs, list_all, list_any, range_with_len}
use Rattle.armcaps_elf.specs.declared.section.Section.{Section}
use Rattle.armcaps_elf.specs.declared.stretch.Stretch.{Stretch}
use Rattle.armcaps_elf.specs.Sections.{base_of, holds}

-- whether one of these sections holds an address
abbrev pub is_held : List Section → ℕ → Bool
is_held sections address = list_any (holds (λ section. section.address) address) sections

-- whether each of so many bytes of the flat image of these sections, from a place on, lies in one of them
abbrev pub are_loaded : List Section → ℕ → ℕ → Bool
are_loaded sections start count =
    list_all (λ place. is_held sections (base_of sections + place)) (range_with_len start count)

-- whether a stretch has the byte at a place of the flat image
abbrev pub in_stretch : ℕ → Stretch → Bool
in_stretch place stretch = nat_le stretch.begin place && nat_lt place stretch.end

-- none is empty, and each ends before the next one begins: the byte between them is in none
pub record IsApart (stretches : List Stretch) : Type 0 where
  pub some : All (λ stretch. stretch.begin < stretch.end) stretches
  pub apart : AllPairs (λ one other. one.end < other.begin) stretches
