-- The patched image.
use Rattle.std.specs.Prelude.{◌+◌, ◌-◌, ◌/◌, ◌%◌, ◌&&◌, ℕ, Bool, List, length, map, nat_le, nat_lt, slice_index}
use Rattle.std.specs.List.{range_with_len}
use Rattle.std.specs.Option.{option_map_or}
use Rattle.armcaps_alt.specs.declared.table_entry.Entry.{Entry}
use Rattle.armcaps_alt.specs.declared.table_place.Layout.{Layout}
use Rattle.armcaps_alt.specs.Entries.{Features, selected_of}
use Rattle.armcaps_alt.specs.Words.{new_word}
use Rattle.armcaps_image.specs.Bytes.{byte_of}
use Rattle.armcaps_image.specs.Last.{last_that}
use Rattle.armcaps_image.specs.Places.{as_place}

-- whether an entry's site covers the byte at a place
abbrev pub covers : ℕ → Entry → Bool
covers place entry = nat_le (as_place entry.site) place && nat_lt place (as_place entry.site + entry.orig_len)

-- the byte at a place where this entry is the last that covers it
abbrev pub new_byte : Features → List ℕ → Entry → ℕ → ℕ
new_byte features image entry place =
    byte_of (new_word features image entry ((place - as_place entry.site) / 4)) (place % 4)

-- the patched byte at a place: of the new word by the last selected entry that covers it, and else the original
abbrev pub patched_byte : Features → List ℕ → List Entry → ℕ → ℕ
patched_byte features image entries place =
    let original = slice_index image place in
    option_map_or (λ entry. new_byte features image entry place) (last_that (covers place) entries) original

-- the patched image
abbrev pub patched_image : Features → List ℕ → Layout → List ℕ
patched_image features image layout =
    map (patched_byte features image (selected_of features image layout)) (range_with_len 0 (length image))
