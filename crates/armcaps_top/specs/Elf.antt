-- What `elf` writes: the ELF file of a kernel with its selected alternatives, or why it writes none.
use Rattle.std.specs.Prelude.{◌==◌, ◌&&◌, ◌∷◌, [], ℕ, ℤ, Bool, List, Option, None, Some, Result, codes, find, if◌then◌else◌, is_some, not, slice_get, unwrap_or}
use Rattle.std.specs.List.{range_with_len}
use Rattle.std.specs.Option.{option_and_then, option_map, option_or}
use Rattle.armcaps_alt.specs.declared.table_entry.Entry.{Entry}
use Rattle.armcaps_alt.specs.declared.table_place.Layout.{Layout}
use Rattle.armcaps_alt.specs.Entries.{Features, entry_at, is_selected}
use Rattle.armcaps_alt.specs.Patched.{patched_image}
use Rattle.armcaps_board.specs.declared.event.Event.{Event}
use Rattle.armcaps_board.specs.Board.{Board}
use Rattle.armcaps_boot.specs.Findings.{findings_after}
use Rattle.armcaps_elf.specs.declared.section.Section.{Section}
use Rattle.armcaps_elf.specs.Headers.{sections_of}
use Rattle.armcaps_elf.specs.Images.{entry_count, flat_image, put_image, table_place}
use Rattle.armcaps_elf.specs.Refusals.{kind_of}
use Rattle.armcaps_elf.specs.Sections.{span_of}
use Rattle.armcaps_elf.specs.Stretches.{are_loaded}
use Rattle.armcaps_image.specs.Places.{as_place, is_within}
use Rattle.armcaps_patch.specs.Features.{features_of_findings}
use Rattle.armcaps_text.specs.Document.{Reading}
use Rattle.armcaps_top.specs.Patch.{refused_entry, unless}
use Rattle.armcaps_top.specs.declared.reason.Reason.{Reason}
use Rattle.armcaps_top.specs.declared.reason.Reason.TheVariants.{NotElf, NotLoaded}

-- the words of the kinds from 1 on, behind none for 0
abbrev pub elf_words : List (List ℕ)
elf_words =
    [] ∷ codes "header" ∷ codes "sections" ∷ codes "outside" ∷ codes "name" ∷ codes "no-table" ∷ codes "two-tables"
    ∷ codes "overlap" ∷ codes "span" ∷ codes "table-size" ∷ codes "table-line" ∷ codes "site" ∷ codes "replacement"
    ∷ []

-- the word by which a kind is reported
abbrev pub elf_word : ℕ → List ℕ
elf_word kind = unwrap_or (slice_get elf_words kind) []

-- the table of the flat image
abbrev pub table_in : List ℕ → Layout
table_in file = record { table = table_place file; count = entry_count file }

-- 1 to 10, why the file is refused: the kinds of the file alone, and then 10 table-line, where the document's own line
-- says that the table has entries, since the table is the file's section
abbrev pub file_kind : Layout → List ℕ → Option ℕ
file_kind line file = option_or (kind_of file) (if line.count == 0 then None else Some 10)

-- whether so many bytes of the flat image from a place on are there, and each lies in a loaded section
abbrev pub is_loaded : List Section → ℤ → ℕ → Bool
is_loaded sections place count =
    is_within (span_of sections) place count && are_loaded sections (as_place place) count

-- 11 site and 12 replacement, the least that holds of an entry: a byte of its site, or of a replacement that no
-- callback makes, isn't loaded
abbrev pub unloaded_kind : List Section → Entry → Option ℕ
unloaded_kind sections entry =
    if not (is_loaded sections entry.site entry.orig_len) then Some 11
    else if not entry.callback && not (is_loaded sections entry.repl entry.orig_len) then Some 12
    else None

-- the same, if the entry is selected
abbrev pub unloaded_of : Features → List Section → Entry → Option ℕ
unloaded_of features sections entry = if is_selected features entry then unloaded_kind sections entry else None

-- the same of the entry of this number in the flat image's table
abbrev pub unloaded_at : Features → List ℕ → ℕ → Option ℕ
unloaded_at features file number =
    unloaded_of features (sections_of file) (entry_at (flat_image file) (table_in file) number)

-- the first selected entry that has a byte that isn't loaded, with its kind
abbrev pub first_unloaded : Features → List ℕ → Option Reason
first_unloaded features file =
    option_and_then (λ number. option_map (NotLoaded number) (unloaded_at features file number))
    (find (λ number. is_some (unloaded_at features file number)) (range_with_len 0 (entry_count file)))

-- why nothing is written: the file is refused, or an entry of the flat image's table, or an entry isn't loaded
unfoldable pub elf_reason : Features → Layout → List ℕ → Option Reason
elf_reason features line file =
    option_or (option_map NotElf (file_kind line file))
    (option_or (refused_entry features (flat_image file) (table_in file)) (first_unloaded features file))

-- the file with the bytes of its loaded sections taken from the patched flat image
abbrev pub patched_file : Features → List ℕ → List ℕ
patched_file features file = put_image file (patched_image features (flat_image file) (table_in file))

-- the file patched once all steps of a board are made
abbrev pub elf_output : Board → List Event → Reading → List ℕ → Result (List ℕ) Reason
elf_output board steps reading file =
    let features = features_of_findings (findings_after board steps) reading.names in
    unless (elf_reason features reading.layout file) (patched_file features file)
