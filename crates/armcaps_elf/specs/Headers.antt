-- The headers of an ELF file of 64 bits (System V ABI, "Object Files").
use Rattle.std.specs.Prelude.{◌==◌, ◌+◌, ◌*◌, ◌/◌, ◌%◌, ◌&&◌, ◌++◌, ◌∷◌, [], ℕ, Bool, List, Option, codes, drop, filter, find, map, nat_eq, not, take}
use Rattle.std.specs.List.{range_with_len, starts_with}
use Rattle.std.specs.Option.{option_map}
use Rattle.byteorder.specs.Endian.{little_number}
use Rattle.armcaps_elf.specs.declared.header.Header.{Header}
use Rattle.armcaps_elf.specs.declared.section.Section.{Section}

-- the number in so many bytes at a place, the lowest byte first
unfoldable pub number_at : List ℕ → ℕ → ℕ → ℕ
number_at bytes place count = little_number count (drop place bytes)

-- the section header at a place: sh_name, sh_type, sh_flags, sh_addr, sh_offset and sh_size
abbrev pub header_at : List ℕ → ℕ → Header
header_at file place = record {
  name = number_at file place 4;
  form = number_at file (place + 4) 4;
  flags = number_at file (place + 8) 8;
  section = record {
    address = number_at file (place + 16) 8;
    place = number_at file (place + 24) 8;
    size = number_at file (place + 32) 8;
  };
}

-- where the section headers begin, e_shoff
abbrev pub headers_place : List ℕ → ℕ
headers_place file = number_at file 40 8

-- how many section headers there are, e_shnum
abbrev pub header_count : List ℕ → ℕ
header_count file = number_at file 60 2

-- the number of the section that has the names, e_shstrndx
abbrev pub names_index : List ℕ → ℕ
names_index file = number_at file 62 2

-- the section header that has this number, from 0
abbrev pub header_numbered : List ℕ → ℕ → Header
header_numbered file index = header_at file (headers_place file + 64 * index)

-- the section headers in their order
abbrev pub headers_of : List ℕ → List Header
headers_of file = map (header_numbered file) (range_with_len 0 (header_count file))

-- whether a section is loaded and has bytes in the file: it has the flag SHF_ALLOC (2), its type is neither SHT_NULL
-- (0) nor SHT_NOBITS (8), and it isn't empty
abbrev pub is_loaded : Header → Bool
is_loaded header =
    header.flags / 2 % 2 == 1 && (not (header.form == 0) && (not (header.form == 8) && not (header.section.size == 0)))

-- the headers of the loaded sections in the file's order
unfoldable pub loaded_of : List ℕ → List Header
loaded_of file = filter is_loaded (headers_of file)

-- the loaded sections in the file's order
abbrev pub sections_of : List ℕ → List Section
sections_of file = map (λ header. header.section) (loaded_of file)

-- the section that has the names
abbrev pub names_section : List ℕ → Section
names_section file = (header_numbered file (names_index file)).section

-- its bytes
unfoldable pub names_of : List ℕ → List ℕ
names_of file = take (names_section file).size (drop (names_section file).place file)

-- the name of the table of alternatives (Linux, arch/arm64/kernel/vmlinux.lds.S), with the zero byte that ends it
abbrev pub table_name : List ℕ
table_name = codes ".altinstructions" ++ 0 ∷ []

-- whether the name that begins at this place among the names is the table's
abbrev pub names_table : List ℕ → ℕ → Bool
names_table names place = starts_with nat_eq (drop place names) table_name

-- whether a section has the table's name
abbrev pub is_table : List ℕ → Header → Bool
is_table names header = names_table names header.name

-- the loaded section that is the table of alternatives, the first of that name
abbrev pub table_of : List ℕ → Option Section
table_of file = option_map (λ header. header.section) (find (is_table (names_of file)) (loaded_of file))
