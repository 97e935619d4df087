-- How an image is judged: the words that are marked, and the first places that fail a test.
use Rattle.std.specs.Prelude.{ℕ, ◌≡◌, ◌≤◌, ◌<◌, ◌-◌, ◌*◌, ◌/◌, ◌^◌, ◌%◌, ◌==◌, ◌&&◌, ◌||◌, ◌+◌, Bool, true, false, not, if◌then◌else◌, List, ◌∷◌, filter, is_some, length, map, nat_le, nat_lt, slice_index}
use Rattle.std.specs.List.{All, range_with_len}
use Rattle.std.specs.Int.{bit_at}
use Rattle.std.specs.Option.{option_map_or}
use Rattle.armcaps_image.specs.Bytes.{byte_of}
use Rattle.armcaps_image.specs.Last.{last_that}
use Rattle.armcaps_image.specs.Places.{as_place}
use Rattle.armcaps_alt.specs.declared.table_entry.Entry.{Entry}
use Rattle.armcaps_alt.specs.declared.table_place.Layout.{Layout}
use Rattle.armcaps_alt.specs.Accepted.{IsAccepted}
use Rattle.armcaps_alt.specs.Entries.{Features, entry_at, is_selected}
use Rattle.armcaps_alt.specs.Names.{NameLists}
use Rattle.armcaps_alt.specs.Patched.{covers, new_byte}
use Rattle.armcaps_pool.specs.Audits.{differs_at}

-- whether a word of the image, by its number from the image's begin, is marked: one bit a word
abbrev pub is_marked : List ℕ → ℕ → Bool
is_marked marks number = bit_at (slice_index marks (number / 64)) (number % 64) == 1

-- the first place below the size that passes a test, or the size where none does
pub record IsFirst (test : ℕ → Bool) (size place : ℕ) : Type 0 where
  pub most : place ≤ size
  pub before : (earlier : ℕ) → earlier < place → test earlier ≡ false
  pub passes : place < size → test place ≡ true

-- whether the byte at a place is in no marked word, and differs
abbrev pub is_changed : List ℕ → List ℕ → List ℕ → ℕ → Bool
is_changed marks patched image place = not (is_marked marks (place / 4)) && differs_at patched image place

-- whether two words differ in a byte, counted from the lowest
abbrev pub differ_in : ℕ → ℕ → ℕ → Bool
differ_in one other index = not (byte_of one index == byte_of other index)

-- a second image has the length of the first, which is at most 2 ^ 29 bytes
pub record AreImages (image patched : List ℕ) : Type 0 where
  pub same : length patched ≡ length image
  pub size : length image ≤ 2 ^ 29

-- what the words of sites are made from; which capabilities are enabled is asked before
abbrev pub features_by : NameLists → ℕ → Features
features_by names ctr = record { names = names; enabled = λ number. false; ctr = ctr }

-- whether a word, by its number from the image's begin, is one of the first words of an entry's site
abbrev pub is_among : Entry → ℕ → ℕ → Bool
is_among entry count number =
    nat_le (as_place entry.site / 4) number && nat_lt number (as_place entry.site / 4 + count)

-- whether the byte at a place is not the one that an entry makes
abbrev pub is_other : Features → List ℕ → List ℕ → Entry → ℕ → Bool
is_other features image patched entry place = not (slice_index patched place == new_byte features image entry place)

-- whether the byte at a place is in no marked word, and is not the one that an entry makes
abbrev pub is_wrong_by : Features → List ℕ → List ℕ → List ℕ → Entry → ℕ → Bool
is_wrong_by features image patched marks entry place =
    not (is_marked marks (place / 4)) && is_other features image patched entry place

-- the first words of an entry's site are judged, so many of them: they are marked beside the ones that were, and a
-- place is the first wrong byte of those that weren't
pub record IsJudged (features : Features) (image patched old : List ℕ) (entry : Entry) (count : ℕ)
    (marks : List ℕ) (place : ℕ) : Type 0 where
  pub size : length marks ≡ length old
  pub marked : (number : ℕ) → is_marked marks number ≡ (is_marked old number || is_among entry count number)
  pub first : IsFirst (λ p. is_among entry count (p / 4) && is_wrong_by features image patched old entry p)
      (length image) place

-- whether the byte at a place is not the one that the last of some entries makes whose site covers it
abbrev pub is_wrong : Features → List ℕ → List ℕ → List Entry → ℕ → Bool
is_wrong features image patched entries place =
    option_map_or (λ entry. is_other features image patched entry place) (last_that (covers place) entries) false

-- the selected ones of the last entries of a table
abbrev pub last_of : Features → List ℕ → Layout → ℕ → List Entry
last_of features image layout count =
    filter (is_selected features) (map (entry_at image layout) (range_with_len (layout.count - count) count))

-- some entries and one before them, if it is selected
abbrev pub with_entry : Features → Entry → List Entry → List Entry
with_entry features entry entries = if is_selected features entry then entry ∷ entries else entries

-- some entries are judged: the words of their sites are marked, and no other, and a place is the first byte of these
-- that is wrong
pub record AreJudged (features : Features) (image patched : List ℕ) (entries : List Entry) (marks : List ℕ)
    (place : ℕ) : Type 0 where
  pub accepted : All (IsAccepted features.names image) entries
  pub marked : (number : ℕ) → is_marked marks number ≡ is_some (last_that (covers (4 * number)) entries)
  pub first : IsFirst (is_wrong features image patched entries) (length image) place

-- each selected entry of a table is accepted
abbrev pub AreAccepted : Features → List ℕ → Layout → Type 0
AreAccepted features image layout = (number : ℕ) → number < layout.count
    → is_selected features (entry_at image layout number) ≡ true
    → IsAccepted features.names image (entry_at image layout number)
