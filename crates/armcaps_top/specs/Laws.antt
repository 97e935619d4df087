-- What `jump` and `elf` write, in the words of their subject.
use Rattle.std.specs.Prelude.{◌≡◌, ◌≢◌, ◌<◌, ℕ, List, Ok, length, slice_index, true}
use Rattle.std.specs.List.{Contains}
use Rattle.armcaps_alt.specs.declared.table_entry.Entry.{Entry}
use Rattle.armcaps_alt.specs.Entries.{Features, selected_of}
use Rattle.armcaps_alt.specs.Patched.{covers}
use Rattle.armcaps_elf.specs.declared.section.Section.{Section}
use Rattle.armcaps_elf.specs.Headers.{sections_of}
use Rattle.armcaps_elf.specs.Images.{flat_image, flat_place}
use Rattle.armcaps_elf.specs.Sections.{holds}
use Rattle.armcaps_image.specs.Bytes.{word_in}
use Rattle.armcaps_image.specs.Places.{as_place}
use Rattle.armcaps_jump.specs.Entries.{entry_at}
use Rattle.armcaps_jump.specs.Laws.{IsChosen, IsElsewhere, IsLastThere}
use Rattle.armcaps_top.specs.Answer.{output_in}
use Rattle.armcaps_top.specs.Document.{Document}
use Rattle.armcaps_top.specs.Elf.{table_in}
use Rattle.armcaps_top.specs.Features.{features_in}
use Rattle.armcaps_top.specs.declared.commands.Command.TheVariants.{Patch}

-- the patched image of a document with the jump labels of a table: as long as the patched image; the word at each code
-- place is the one that the last entry there chooses, entries and keys being those of the patched image; and every
-- other byte is the patched image's
pub record IsLabelled (found : Document) (table count : ℕ) (text : List ℕ) : Type 0 where
  pub patched : List ℕ
  pub is_patched : output_in Patch found ≡ Ok patched
  pub size : length text ≡ length patched
  pub chosen : (number : ℕ) → IsLastThere patched table count number
      → IsChosen patched (entry_at patched table number) (word_in text (as_place (entry_at patched table number).code))
  pub others : (place : ℕ) → place < length patched → IsElsewhere patched table count place
      → slice_index text place ≡ slice_index patched place

-- the byte at a place of an ELF file lies in a loaded section, and at its address in the site of a selected entry
pub record LiesInSite (features : Features) (file : List ℕ) (place : ℕ) : Type 0 where
  pub section : Section
  pub loaded : Contains (sections_of file) section
  pub held : holds (λ s. s.place) place section ≡ true
  pub entry : Entry
  pub selected : Contains (selected_of features (flat_image file) (table_in file)) entry
  pub covered : covers (flat_place (sections_of file) section place) entry ≡ true

-- the ELF file of a document with its sites patched: as long as it was, and each byte that is another lies in a loaded
-- section and in a selected site
pub record ChangesSites (found : Document) (text : List ℕ) : Type 0 where
  pub size : length text ≡ length found.image
  pub sites : (place : ℕ) → place < length found.image → slice_index text place ≢ slice_index found.image place
      → LiesInSite (features_in found) found.image place
