-- The image with its jump labels applied.
use Rattle.std.specs.Prelude.{◌==◌, ◌*◌, ◌/◌, ◌%◌, ℕ, Bool, List, length, map, slice_index}
use Rattle.std.specs.List.{range_with_len}
use Rattle.std.specs.Option.{option_map_or}
use Rattle.armcaps_image.specs.Bytes.{byte_of}
use Rattle.armcaps_image.specs.Last.{last_that}
use Rattle.armcaps_jump.specs.declared.site.Site.{Site}
use Rattle.armcaps_jump.specs.Entries.{entries_of}
use Rattle.armcaps_jump.specs.Words.{site_of}

-- the sites of a table's entries, in its order
abbrev pub sites_of : List ℕ → ℕ → ℕ → List Site
sites_of image table count = map (site_of image) (entries_of image table count)

-- whether the byte at a place is one of a site's word
abbrev pub has_byte : ℕ → Site → Bool
has_byte place site = site.place == place / 4 * 4

-- the byte at a place: of the word of the last site that has it, and else the one that was there
abbrev pub byte_by : List Site → ℕ → ℕ → ℕ
byte_by sites place original =
    option_map_or (λ site. byte_of site.word (place % 4)) (last_that (has_byte place) sites) original

-- the image with so many entries of the table at a place applied; all reads are of the image as it was
abbrev pub jump_image : List ℕ → ℕ → ℕ → List ℕ
jump_image image table count =
    map (λ place. byte_by (sites_of image table count) place (slice_index image place))
    (range_with_len 0 (length image))
