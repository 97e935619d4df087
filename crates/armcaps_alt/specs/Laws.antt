-- What a table of alternatives makes of an image, in the words of its subject.
use Rattle.std.specs.Prelude.{◌≡◌, ◌+◌, ◌*◌, ◌<◌, ℕ, List, Some, false, length, slice_index, true}
use Rattle.armcaps_insn.specs.Moved.{StaysOrMoves}
use Rattle.armcaps_alt.specs.declared.callback_kind.CallbackKind.{CallbackKind}
use Rattle.armcaps_alt.specs.declared.table_entry.Entry.{Entry}
use Rattle.armcaps_alt.specs.declared.table_place.Layout.{Layout}
use Rattle.armcaps_alt.specs.Entries.{Features, entry_at, is_selected}
use Rattle.armcaps_alt.specs.Names.{callback_named}
use Rattle.armcaps_alt.specs.Patched.{covers}
use Rattle.armcaps_alt.specs.Words.{callback_word_at}
use Rattle.armcaps_image.specs.Bytes.{word_in}
use Rattle.armcaps_image.specs.Places.{as_place}

-- where the word of a site stands that has this index, counted in words from the site's begin
abbrev pub site_place : Entry → ℕ → ℕ
site_place entry index = as_place entry.site + 4 * index

-- where the replacement's word for it stands
abbrev pub replacement_place : Entry → ℕ → ℕ
replacement_place entry index = as_place entry.repl + 4 * index

-- a new word of an entry's site, at an index: the replacement's word in the image, which stays as it is or keeps its
-- class, its other bits and its target; or the one that the entry's callback makes
pub record IsNewWord (features : Features) (image : List ℕ) (entry : Entry) (index word : ℕ) : Type 0 where
  pub replaced : entry.callback ≡ false
      → StaysOrMoves (word_in image (replacement_place entry index)) (replacement_place entry index)
      word (site_place entry index) (as_place entry.repl) (as_place entry.repl + entry.orig_len)
  pub called : (kind : CallbackKind) → entry.callback ≡ true → callback_named features.names entry.repl ≡ Some kind
      → word ≡ callback_word_at features image entry kind index

-- the entry of this number is selected, its site covers a place, and that of no later selected entry does
pub record IsLastThere (features : Features) (image : List ℕ) (layout : Layout) (place number : ℕ) : Type 0 where
  pub within : number < layout.count
  pub selected : is_selected features (entry_at image layout number) ≡ true
  pub covered : covers place (entry_at image layout number) ≡ true
  pub last : (later : ℕ) → number < later → later < layout.count
      → is_selected features (entry_at image layout later) ≡ true
      → covers place (entry_at image layout later) ≡ false

-- the site of no selected entry covers a place
abbrev pub IsUncovered : Features → List ℕ → Layout → ℕ → Type 0
IsUncovered features image layout place =
    (number : ℕ) → number < layout.count → is_selected features (entry_at image layout number) ≡ true
    → covers place (entry_at image layout number) ≡ false

-- an image with its sites replaced: it keeps its length, each byte that no selected site covers is as it was, and each
-- word of a site is a new word of the last selected entry whose site covers it
pub record ReplacesSites (features : Features) (image : List ℕ) (layout : Layout) (patched : List ℕ) : Type 0 where
  pub size : length patched ≡ length image
  pub others : (place : ℕ) → place < length image → IsUncovered features image layout place
      → slice_index patched place ≡ slice_index image place
  pub sites : (number index : ℕ)
      → IsLastThere features image layout (site_place (entry_at image layout number) index) number
      → IsNewWord features image (entry_at image layout number) index
      (word_in patched (site_place (entry_at image layout number) index))
