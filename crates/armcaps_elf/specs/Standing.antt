-- What is kept of a file that was read.
use Rattle.std.specs.Prelude.{◌≡◌, ◌+◌, ◌*◌, ◌<◌, ◌≤◌, ◌^◌, ℕ, List, None, length}
use Rattle.std.specs.List.{All, AllPairs, list_any}
use Rattle.std.specs.List.Sorted.{IsPermutation}
use Rattle.armcaps_elf.specs.declared.section.Section.{Section}
use Rattle.armcaps_elf.specs.declared.stretch.Stretch.{Stretch}
use Rattle.armcaps_elf.specs.Headers.{sections_of}
use Rattle.armcaps_elf.specs.Images.{entry_count, table_place}
use Rattle.armcaps_elf.specs.Refusals.{kind_of}
use Rattle.armcaps_elf.specs.Sections.{Follows, base_of, span_of}
use Rattle.armcaps_elf.specs.Stretches.{IsApart, in_stretch, is_held}

-- the loaded sections, where the flat image begins and how long it is, and where the table is in it
pub record Loaded : Type 0 where
  pub sections : List Section
  pub base : ℕ
  pub span : ℕ
  pub table : ℕ
  pub entries : ℕ

-- this was read from a file: no kind holds of the file, and the sections are its loaded sections in rising address
pub record StandsFor (loaded : Loaded) (file : List ℕ) : Type 0 where
  pub accepted : kind_of file ≡ None
  pub sections : IsPermutation (sections_of file) loaded.sections
  pub rise : AllPairs (Follows (λ section. section.address)) loaded.sections
  pub inside : All (λ section. section.place + section.size ≤ length file) loaded.sections
  pub base : loaded.base ≡ base_of (sections_of file)
  pub span : loaded.span ≡ span_of (sections_of file)
  pub table : loaded.table ≡ table_place file
  pub entries : loaded.entries ≡ entry_count file

-- what is kept beside that: the sections also in the order of their places, and the stretches that they make. No
-- section is empty, none shares bytes with another, and all are within the flat image, as the table is
pub record IsElf (loaded : Loaded) (by_place : List Section) (stretches : List Stretch) : Type 0 where
  pub same : IsPermutation loaded.sections by_place
  pub rise : AllPairs (Follows (λ section. section.address)) loaded.sections
  pub places : AllPairs (Follows (λ section. section.place)) by_place
  pub some : All (λ section. 0 < section.size) loaded.sections
  pub above : All (λ section. loaded.base ≤ section.address) loaded.sections
  pub below : All (λ section. section.address + section.size ≤ loaded.base + loaded.span) loaded.sections
  pub small : loaded.span ≤ 2 ^ 27
  pub table : loaded.table + 12 * loaded.entries ≤ loaded.span
  pub held : (n : ℕ) → list_any (in_stretch n) stretches ≡ is_held loaded.sections (loaded.base + n)
  pub apart : IsApart stretches
