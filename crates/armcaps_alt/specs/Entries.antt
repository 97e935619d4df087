-- The entries of a table of alternatives (Linux, arch/arm64/include/asm/alternative.h, `struct alt_instr`).
use Rattle.std.specs.Prelude.{◌+◌, ◌*◌, ◌%◌, ◌^◌, ◌+ℤ◌, ℕ, Bool, List, Option, drop, filter, map, nat_le, pos, slice_index, unwrap_or, false}
use Rattle.std.specs.List.{range_with_len}
use Rattle.std.specs.Option.{option_map}
use Rattle.armcaps_alt.specs.declared.named_number.Named.{Named}
use Rattle.armcaps_alt.specs.declared.named_number.Named.TheVariants.{Cap, Given}
use Rattle.armcaps_alt.specs.declared.table_entry.Entry.{Entry}
use Rattle.armcaps_alt.specs.declared.table_place.Layout.{Layout}
use Rattle.armcaps_image.specs.Bytes.{half_in, signed_in}
use Rattle.armcaps_alt.specs.Names.{NameLists, number_named}

-- the entry in the first twelve of these bytes, which stand at a place of the image; each offset counts from its own
-- field's place
abbrev pub entry_from : List ℕ → ℕ → Entry
entry_from bytes place = record {
  site = pos place +ℤ signed_in bytes 0;
  repl = pos (place + 4) +ℤ signed_in bytes 4;
  number = half_in bytes 8 % 2 ^ 15;
  callback = nat_le (2 ^ 15) (half_in bytes 8);
  orig_len = slice_index bytes 10;
  alt_len = slice_index bytes 11;
}

-- the entry of the table that has this number, from 0
abbrev pub entry_at : List ℕ → Layout → ℕ → Entry
entry_at image layout index = entry_from (drop (layout.table + 12 * index) image) (layout.table + 12 * index)

-- the entries in the table's order
abbrev pub entries_of : List ℕ → Layout → List Entry
entries_of image layout = map (entry_at image layout) (range_with_len 0 layout.count)

-- what a machine has: what the table's numbers and callbacks mean, the capabilities that are enabled, and the system's
-- word of CTR_EL0 over the cores that came early, which is the one that is kept when the capabilities are final
pub record Features : Type 0 where
  pub names : NameLists
  pub enabled : ℕ → Bool
  pub ctr : ℕ

-- whether what a number stands for is there
abbrev pub is_there : (ℕ → Bool) → Named → Bool
is_there enabled (Cap number) = enabled number
is_there enabled (Given on) = on

-- whether an entry is selected, if its number is named
abbrev pub selection : NameLists → (ℕ → Bool) → Entry → Option Bool
selection names enabled entry = option_map (is_there enabled) (number_named names entry.number)

-- whether an entry is selected
abbrev pub is_selected : Features → Entry → Bool
is_selected features entry = unwrap_or (selection features.names features.enabled entry) false

-- the selected entries in the table's order
abbrev pub selected_of : Features → List ℕ → Layout → List Entry
selected_of features image layout = filter (is_selected features) (entries_of image layout)
