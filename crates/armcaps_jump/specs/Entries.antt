-- The entries of a table of jump labels (Linux, include/linux/jump_label.h, `struct jump_entry` in its relative form).
use Rattle.std.specs.Prelude.{◌==◌, ◌+◌, ◌*◌, ◌/◌, ◌%◌, ◌+ℤ◌, ℕ, List, drop, map, pos}
use Rattle.std.specs.List.{range_with_len}
use Rattle.armcaps_image.specs.Bytes.{as_signed_quad, quad_in, signed_in}
use Rattle.armcaps_jump.specs.declared.jump_entry.JumpEntry.{JumpEntry}

-- the entry in the first sixteen of these bytes, which stand at a place of the image. Each offset counts from its own
-- field's place. The key's offset is a multiple of four: bit 0 of its field is the branch flag, bit 1 is passed over
abbrev pub entry_from : List ℕ → ℕ → JumpEntry
entry_from bytes place = record {
  code = pos place +ℤ signed_in bytes 0;
  target = pos (place + 4) +ℤ signed_in bytes 4;
  key = pos (place + 8) +ℤ as_signed_quad (quad_in bytes 8 / 4 * 4);
  branch = quad_in bytes 8 % 2 == 1;
}

-- the entry of the table that has this number, from 0
abbrev pub entry_at : List ℕ → ℕ → ℕ → JumpEntry
entry_at image table number = entry_from (drop (table + 16 * number) image) (table + 16 * number)

-- the entries in the table's order
abbrev pub entries_of : List ℕ → ℕ → ℕ → List JumpEntry
entries_of image table count = map (entry_at image table) (range_with_len 0 count)
