-- What a plan keeps of the selected entries, and what it makes of them. Of this file `StandsFor` has to be believed,
-- with `Planned` and `kept_of`: what a plan makes of an image is proved to be the patched image of armcaps_alt.
use Rattle.std.specs.Prelude.{◌≡◌, ◌+◌, ◌-◌, ◌*◌, ◌/◌, ◌%◌, ◌^◌, ◌≤◌, ◌<◌, ◌&&◌, ℕ, Bool, List, Option, Some, None, Result, if◌then◌else◌, length, map, nat_le, nat_lt, slice_index, unwrap_or}
use Rattle.std.specs.List.{All, range_with_len}
use Rattle.std.specs.Option.{option_map_or}
use Rattle.armcaps_insn.specs.declared.correction.FixRefused.{FixRefused}
use Rattle.armcaps_insn.specs.Moved.{corrected}
use Rattle.armcaps_alt.specs.declared.callback_kind.CallbackKind.{CallbackKind}
use Rattle.armcaps_alt.specs.declared.callback_kind.CallbackKind.TheVariants as callback
use Rattle.armcaps_alt.specs.declared.smccc_conduit.Conduit.{Conduit}
use Rattle.armcaps_alt.specs.declared.table_entry.Entry.{Entry}
use Rattle.armcaps_alt.specs.declared.table_place.Layout.{Layout}
use Rattle.armcaps_image.specs.Bytes.{byte_of, word_in}
use Rattle.armcaps_image.specs.Last.{last_that}
use Rattle.armcaps_image.specs.Places.{as_place}
use Rattle.armcaps_alt.specs.Entries.{Features, selected_of}
use Rattle.armcaps_alt.specs.Names.{NameLists, callback_named}
use Rattle.armcaps_alt.specs.Refusals.{first_refusal}
use Rattle.armcaps_alt.specs.Words.{IsIndex, callback_word_of, ok_or_word}
use Rattle.armcaps_patch.specs.declared.kept.Kept.{Kept}

-- what is kept of an entry: the place of its site and its length, and the place of its replacement or its callback; a
-- callback that isn't named, which an entry that is not refused hasn't, keeps the words
abbrev pub kept_of : NameLists → Entry → Kept
kept_of names entry = record {
  site = as_place entry.site;
  repl = if entry.callback then 0 else as_place entry.repl;
  len = entry.orig_len;
  callback = if entry.callback then Some (unwrap_or (callback_named names entry.repl) callback.Keep) else None;
}

-- where a kept entry's words come from: a replacement within an image of this size, or a callback that makes so many
-- words
abbrev pub SourceIsKept : ℕ → Kept → Option CallbackKind → Type 0
SourceIsKept size kept None = (kept.repl % 4 ≡ 0) × (kept.repl + kept.len ≤ size)
SourceIsKept size kept (Some kind) = (index : ℕ) → 4 * index < kept.len → IsIndex kind index

-- a kept entry's places, in an image of this size
pub record IsKept (size : ℕ) (kept : Kept) : Type 0 where
  pub site_aligned : kept.site % 4 ≡ 0
  pub len_aligned : kept.len % 4 ≡ 0
  pub short : kept.len < 2 ^ 8
  pub site_within : kept.site + kept.len ≤ size
  pub source : SourceIsKept size kept kept.callback

-- the replacement's word for the site's word at an index, in words from its begin, moved there
abbrev pub moved_word : List ℕ → Kept → ℕ → Result ℕ FixRefused
moved_word image kept index =
    let from = kept.repl + 4 * index in
    corrected (word_in image from) from (kept.site + 4 * index) kept.repl (kept.repl + kept.len)

-- the new word of a kept entry's site at an index: the callback's where there is one, and else the moved word
abbrev pub kept_word_by : Option CallbackKind → ℕ → Conduit → List ℕ → Kept → ℕ → ℕ
kept_word_by None ctr conduit image kept index =
    ok_or_word (moved_word image kept index) (word_in image (kept.site + 4 * index))
kept_word_by (Some kind) ctr conduit image kept index =
    callback_word_of kind index ctr conduit (word_in image kept.site) (word_in image (kept.site + 4 * index))

-- the new word of a kept entry's site at an index, by the entry's own callback
abbrev pub kept_word : ℕ → Conduit → List ℕ → Kept → ℕ → ℕ
kept_word ctr conduit image kept index = kept_word_by kept.callback ctr conduit image kept index

-- whether a kept entry's site covers the byte at a place
abbrev pub kept_covers : ℕ → Kept → Bool
kept_covers place kept = nat_le kept.site place && nat_lt place (kept.site + kept.len)

-- what a plan keeps: the selected entries in the table's order, the image's length, CTR_EL0 and the conduit
pub record Planned : Type 0 where
  pub kept : List Kept
  pub size : ℕ
  pub ctr : ℕ
  pub conduit : Conduit

-- the word that a kept entry makes at a place which its site covers
abbrev pub word_by : Planned → List ℕ → ℕ → Kept → ℕ
word_by plan image place kept = kept_word plan.ctr plan.conduit image kept ((place - kept.site) / 4)

-- the word at a place that is a multiple of 4: the new one by the last kept entry that covers it, and else the original
abbrev pub planned_word : Planned → List ℕ → ℕ → ℕ
planned_word plan image place =
    option_map_or (word_by plan image place) (last_that (kept_covers place) plan.kept) (word_in image place)

-- the byte at a place
abbrev pub planned_byte : Planned → List ℕ → ℕ → ℕ
planned_byte plan image place =
    let original = slice_index image place in
    option_map_or (λ kept. byte_of (word_by plan image place kept) (place % 4))
    (last_that (kept_covers place) plan.kept)
    original

-- the image that a plan makes of an image
abbrev pub planned_image : Planned → List ℕ → List ℕ
planned_image plan image = map (planned_byte plan image) (range_with_len 0 (length image))

-- what is planned with what is kept of an image's entries, CTR_EL0 and the conduit
abbrev pub plan_of : List Kept → List ℕ → ℕ → Conduit → Planned
plan_of kept image ctr conduit = record { kept = kept; size = length image; ctr = ctr; conduit = conduit }

-- so many bytes from a place on are a piece of an image that begins with a word, and these are kept of its entries
pub record IsPiece (image : List ℕ) (kept : List Kept) (from count : ℕ) : Type 0 where
  pub small : length image ≤ 2 ^ 29
  pub each : All (IsKept (length image)) kept
  pub aligned : from % 4 ≡ 0
  pub within : from + count ≤ length image

-- a plan stands for an image and its table: no entry is refused, and it keeps the selected ones
pub record StandsFor (plan : Planned) (features : Features) (image : List ℕ) (layout : Layout) : Type 0 where
  pub accepted : first_refusal features image layout ≡ None
  pub kept : plan.kept ≡ map (kept_of features.names) (selected_of features image layout)
  pub size : plan.size ≡ length image
  pub ctr : plan.ctr ≡ features.ctr
  pub conduit : plan.conduit ≡ features.names.conduit
