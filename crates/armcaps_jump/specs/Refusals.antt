-- Why an entry is refused.
use Rattle.std.specs.Prelude.{◌&&◌, ℕ, not, List, Option, Some, None, find, if◌then◌else◌, is_none, is_some, length}
use Rattle.std.specs.List.{range_with_len}
use Rattle.std.specs.Option.{option_and_then, option_map}
use Rattle.armcaps_image.specs.Places.{is_aligned, is_within}
use Rattle.armcaps_jump.specs.declared.jump_entry.JumpEntry.{JumpEntry}
use Rattle.armcaps_jump.specs.Entries.{entry_at}
use Rattle.armcaps_jump.specs.Words.{word_of}

-- the least kind that holds of an entry: 1, its code is no word of the image; 2, its key does not lie within the image;
-- 3, it jumps and no B has its target
abbrev pub kind_of : List ℕ → JumpEntry → Option ℕ
kind_of image entry =
    if not (is_aligned entry.code && is_within (length image) entry.code 4) then Some 1
    else if not (is_within (length image) entry.key 4) then Some 2
    else if is_none (word_of image entry) then Some 3
    else None

-- an entry, by its number in the table from 0 on, and why it is refused
pub record Refusal : Type 0 where
  pub entry : ℕ
  pub kind : ℕ

-- why the entry of this number is refused, if it is
abbrev pub refusal_at : List ℕ → ℕ → ℕ → Option Refusal
refusal_at image table number =
    option_map (λ kind. record { entry = number; kind = kind }) (kind_of image (entry_at image table number))

-- the first entry of a table that is refused, and the least kind that holds of it
abbrev pub first_refusal : List ℕ → ℕ → ℕ → Option Refusal
first_refusal image table count =
    option_and_then (refusal_at image table)
    (find (λ number. is_some (kind_of image (entry_at image table number))) (range_with_len 0 count))
