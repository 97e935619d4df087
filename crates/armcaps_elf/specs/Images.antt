-- The flat image of a file, and the file with a flat image put into it.
use Rattle.std.specs.Prelude.{◌+◌, ◌-◌, ◌/◌, ℕ, List, find, length, map, slice_index}
use Rattle.std.specs.List.{range_with_len}
use Rattle.std.specs.Option.{option_map_or}
use Rattle.armcaps_elf.specs.declared.section.Section.{Section}
use Rattle.armcaps_elf.specs.Headers.{sections_of, table_of}
use Rattle.armcaps_elf.specs.Sections.{base_of, holds, span_of}

-- the byte at an address: the file's byte of the section that holds the address, and 0 where none does
abbrev pub byte_at : List Section → List ℕ → ℕ → ℕ
byte_at sections file address =
    option_map_or (λ section. slice_index file (section.place + (address - section.address)))
    (find (holds (λ section. section.address) address) sections)
    0

-- the flat image: the bytes from the base to the greatest end
abbrev pub flat_image : List ℕ → List ℕ
flat_image file =
    let sections = sections_of file in
    map (byte_at sections file) (range_with_len (base_of sections) (span_of sections))

-- where the byte at a place of the file, which a section holds, stands in the flat image
abbrev pub flat_place : List Section → Section → ℕ → ℕ
flat_place sections section place = section.address + (place - section.place) - base_of sections

-- a byte of the file with a flat image in it, which begins at the base: of a loaded section it is the flat image's
-- byte at its address, and else the file's own
abbrev pub put_byte : List Section → ℕ → List ℕ → List ℕ → ℕ → ℕ
put_byte sections base file flat place =
    option_map_or (λ section. slice_index flat (section.address + (place - section.place) - base))
    (find (holds (λ section. section.place) place) sections)
    (slice_index file place)

-- the file with a flat image in it
abbrev pub put_image : List ℕ → List ℕ → List ℕ
put_image file flat =
    let sections = sections_of file in
    map (put_byte sections (base_of sections) file flat) (range_with_len 0 (length file))

-- where the table begins in the flat image
abbrev pub table_place : List ℕ → ℕ
table_place file = option_map_or (λ table. table.address - base_of (sections_of file)) (table_of file) 0

-- how many entries of 12 bytes it has
abbrev pub entry_count : List ℕ → ℕ
entry_count file = option_map_or (λ table. table.size / 12) (table_of file) 0
