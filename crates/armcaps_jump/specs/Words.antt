-- What the word at an entry's code place becomes.
use Rattle.std.specs.Prelude.{ℕ, Bool, not, List, Option, Some, if◌then◌else◌, int_le, pos, unwrap_or}
use Rattle.armcaps_insn.specs.Encodings.{nop}
use Rattle.armcaps_insn.specs.Moved.{branch_to}
use Rattle.armcaps_image.specs.Bytes.{signed_in}
use Rattle.armcaps_image.specs.Places.{as_place}
use Rattle.armcaps_jump.specs.declared.jump_entry.JumpEntry.{JumpEntry}
use Rattle.armcaps_jump.specs.declared.site.Site.{Site}

-- whether an entry's key is on: the number at its place is above 0 (Linux, `static_key_count`)
abbrev pub is_on : List ℕ → JumpEntry → Bool
is_on image entry = not (int_le (signed_in image (as_place entry.key)) (pos 0))

-- whether an entry jumps: its key is on and its branch flag is not set, or the other way round
abbrev pub does_jump : List ℕ → JumpEntry → Bool
does_jump image entry = if entry.branch then not (is_on image entry) else is_on image entry

-- the word of an entry: the B to its target where it jumps, if there is one, and NOP where it does not (Linux,
-- arch/arm64/kernel/jump_label.c, `arch_jump_label_transform_queue`)
abbrev pub word_of : List ℕ → JumpEntry → Option ℕ
word_of image entry =
    if does_jump image entry then branch_to (as_place entry.code) entry.target else Some nop

-- where an entry's word is put, and the word; an entry that is not refused has one
abbrev pub site_of : List ℕ → JumpEntry → Site
site_of image entry = record { place = as_place entry.code; word = unwrap_or (word_of image entry) 0 }
