-- What holds of a selected entry that is not refused.
use Rattle.std.specs.Prelude.{◌≡◌, ◌+◌, ◌*◌, ◌%◌, ◌<◌, ◌≤◌, ℕ, List, Ok, Some, false, length, pos, true}
use Rattle.armcaps_alt.specs.declared.callback_kind.CallbackKind.{CallbackKind}
use Rattle.armcaps_alt.specs.declared.table_entry.Entry.{Entry}
use Rattle.armcaps_alt.specs.Names.{NameLists, callback_named}
use Rattle.armcaps_alt.specs.Refusals.{makes_other_length}
use Rattle.armcaps_alt.specs.Words.{replacement_word}
use Rattle.armcaps_image.specs.Places.{as_place}

-- an entry's replacement has the site's length, begins at a multiple of four bytes and lies within the image, and each
-- of its words can move to the site
pub record HasReplacement (image : List ℕ) (entry : Entry) : Type 0 where
  pub long : entry.alt_len ≡ entry.orig_len
  pub place : entry.repl ≡ pos (as_place entry.repl)
  pub aligned : as_place entry.repl % 4 ≡ 0
  pub within : as_place entry.repl + entry.orig_len ≤ length image
  pub moves : (index : ℕ) → 4 * index < entry.orig_len → (word : ℕ) × (replacement_word image entry index ≡ Ok word)

-- an entry has no replacement, and a callback that is named and makes as many bytes as the site has
pub record HasCallback (names : NameLists) (entry : Entry) : Type 0 where
  pub empty : entry.alt_len ≡ 0
  pub kind : CallbackKind
  pub named : callback_named names entry.repl ≡ Some kind
  pub makes : makes_other_length kind entry.orig_len ≡ false

-- an entry is accepted: its site is whole words that lie within the image, and it has a replacement or a callback
pub record IsAccepted (names : NameLists) (image : List ℕ) (entry : Entry) : Type 0 where
  pub site : entry.site ≡ pos (as_place entry.site)
  pub aligned : as_place entry.site % 4 ≡ 0
  pub words : entry.orig_len % 4 ≡ 0
  pub within : as_place entry.site + entry.orig_len ≤ length image
  pub replaced : entry.callback ≡ false → HasReplacement image entry
  pub called : entry.callback ≡ true → HasCallback names entry
