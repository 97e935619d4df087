-- Why a file is refused.
use Rattle.std.specs.Prelude.{◌≡◌, ◌==◌, ◌+◌, ◌*◌, ◌%◌, ◌^◌, ◌||◌, ◌∷◌, [], ℕ, Bool, List, Option, count_by, drop, false, find, is_none, length, nat_eq, nat_le, nat_lt, not}
use Rattle.std.specs.List.{list_any, starts_with}
use Rattle.std.specs.Option.{option_map, option_map_or}
use Rattle.armcaps_elf.specs.declared.section.Section.{Section}
use Rattle.armcaps_elf.specs.Headers.{header_count, headers_place, is_table, loaded_of, names_index, names_of, names_section, number_at, sections_of, table_of}
use Rattle.armcaps_elf.specs.Sections.{greatest_end, overlap, span_of}

-- the first seven bytes: the magic number, 64 bits, the lowest byte first, version 1
abbrev pub identification : List ℕ
identification = 0x7f ∷ 0x45 ∷ 0x4c ∷ 0x46 ∷ 2 ∷ 1 ∷ 1 ∷ []

-- 1 header: the file has no ELF header of 64 bits for this machine (EM_AARCH64, 183) with section headers of 64 bytes
abbrev pub has_other_header : List ℕ → Bool
has_other_header file =
    nat_lt (length file) 64
    || (not (starts_with nat_eq file identification)
    || (not (number_at file 18 2 == 183) || not (number_at file 58 2 == 64)))

-- whether so many bytes from a place on reach beyond the file
abbrev pub is_outside : List ℕ → Section → Bool
is_outside file section = nat_lt (length file) (section.place + section.size)

-- 2 sections: there is no section header or there are too many, they reach beyond the file, the section of the names
-- isn't one of them, or its bytes reach beyond the file
abbrev pub lacks_headers : List ℕ → Bool
lacks_headers file =
    header_count file == 0
    || (nat_lt 65279 (header_count file)
    || (nat_lt (length file) (headers_place file + 64 * header_count file)
    || (nat_le (header_count file) (names_index file) || is_outside file (names_section file))))

-- 3 outside: a loaded section's bytes reach beyond the file
abbrev pub has_section_outside : List ℕ → Bool
has_section_outside file = list_any (λ header. is_outside file header.section) (loaded_of file)

-- whether a name that begins at this place among the names ends: a zero byte stands there or behind it
abbrev pub is_ended : List ℕ → ℕ → Bool
is_ended names place = list_any (λ byte. byte == 0) (drop place names)

-- 4 name: a loaded section's name begins outside the names, or no zero byte ends it
abbrev pub has_open_name : List ℕ → Bool
has_open_name file = list_any (λ header. not (is_ended (names_of file) header.name)) (loaded_of file)

-- how many loaded sections have the table's name
abbrev pub table_count : List ℕ → ℕ
table_count file = count_by (is_table (names_of file)) (loaded_of file)

-- 7 overlap: two loaded sections share an address or a byte of the file
abbrev pub has_overlap : List Section → Bool
has_overlap sections = overlap (λ section. section.address) sections || overlap (λ section. section.place) sections

-- 8 span: a loaded section ends above address 2^64, or the flat image is too long
abbrev pub has_long_span : List Section → Bool
has_long_span sections = nat_lt (2 ^ 64) (greatest_end sections) || nat_lt 134217728 (span_of sections)

-- whether a section isn't made of entries of 12 bytes, or of too many
abbrev pub has_other_size : Section → Bool
has_other_size section = not (section.size % 12 == 0) || nat_lt 12582912 section.size

-- 9 table-size: the table isn't made of entries of 12 bytes, or of too many
abbrev pub has_bad_table : List ℕ → Bool
has_bad_table file = option_map_or has_other_size (table_of file) false

-- a kind and whether it holds
pub record Test : Type 0 where
  pub kind : ℕ
  pub holds : Bool

-- a kind with whether it holds
abbrev test : ℕ → Bool → Test
test kind holds = record { kind = kind; holds = holds }

-- the kinds in the order in which they are asked; 5 no-table and 6 two-tables: no loaded section has the table's
-- name, or two have
abbrev pub tests_of : List ℕ → List Test
tests_of file =
    test 1 (has_other_header file)
    ∷ test 2 (lacks_headers file)
    ∷ test 3 (has_section_outside file)
    ∷ test 4 (has_open_name file)
    ∷ test 5 (is_none (table_of file))
    ∷ test 6 (nat_le 2 (table_count file))
    ∷ test 7 (has_overlap (sections_of file))
    ∷ test 8 (has_long_span (sections_of file))
    ∷ test 9 (has_bad_table file)
    ∷ []

-- the first kind that holds
unfoldable pub kind_of : List ℕ → Option ℕ
kind_of file = option_map (λ t. t.kind) (find (λ t. t.holds) (tests_of file))

-- no kind from 1 to 4 holds
pub record HasHeaders (file : List ℕ) : Type 0 where
  pub header : has_other_header file ≡ false
  pub sections : lacks_headers file ≡ false
  pub inside : has_section_outside file ≡ false
  pub names : has_open_name file ≡ false

-- neither 5 nor 6 holds
pub record HasTable (file : List ℕ) : Type 0 where
  pub one : is_none (table_of file) ≡ false
  pub only : nat_le 2 (table_count file) ≡ false
