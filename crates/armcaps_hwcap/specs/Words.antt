-- The two words that tell programs of users which hwcaps there are (Linux, AT_HWCAP and AT_HWCAP2 of the auxiliary
-- vector).
use Rattle.std.specs.Prelude.{◌≡◌, ℕ, ◌^◌, ◌==◌, ◌&&◌, Bool, true, false, not, if◌then◌else◌, List, slice_get, sum_by, take}
use Rattle.std.specs.Int.{bit_at}
use Rattle.std.specs.List.{enumerate_from}
use Rattle.std.specs.Option.{option_map_or}
use Rattle.armcaps_tables.specs.Core.{Core}
use Rattle.armcaps_tables.specs.Overriding.{FieldOverrides}
use Rattle.armcaps_hwcap.specs.declared.hw_set.HwSet.{HwSet}
use Rattle.armcaps_hwcap.specs.Hwcaps.{hwcap_over}
use Rattle.armcaps_hwcap.specs.Row.{Row}
use Rattle.armcaps_hwcap.specs.Rows.{hwcap_rows}

-- whether a row stands in the second word, or in the first
abbrev pub stands_in : Bool → Row → Bool
stands_in true row = row.second
stands_in false row = not row.second

-- the bit of a row of the word, where the row's index passes the test
abbrev pub bit_of : Bool → (ℕ → Bool) → ℕ → Row → ℕ
bit_of second test index row = if stands_in second row && test index then 2 ^ row.bit else 0

-- the sum of the bits of a word's rows whose index passes the test
unfoldable pub bits_of : Bool → (ℕ → Bool) → ℕ
bits_of second test = sum_by (λ item. bit_of second test item.0 item.1) (enumerate_from 0 hwcap_rows)

-- the sum of the bits of a word's rows whose index passes the test, among the first `count` rows of the table
unfoldable pub bits_of_first : ℕ → Bool → (ℕ → Bool) → ℕ
bits_of_first count second test =
    sum_by (λ item. bit_of second test item.0 item.1) (take count (enumerate_from 0 hwcap_rows))

-- the first word, AT_HWCAP, of the hwcaps whose index passes the test
abbrev pub hwcap_word : (ℕ → Bool) → ℕ
hwcap_word test = bits_of false test

-- the second word, AT_HWCAP2, of the hwcaps whose index passes the test
abbrev pub hwcap2_word : (ℕ → Bool) → ℕ
hwcap2_word test = bits_of true test

-- a set has the first rows, `count` of them, whose index passes the test
pub record HasFirst (count : ℕ) (test : ℕ → Bool) (set : HwSet) : Type 0 where
  pub hwcap : set.hwcap ≡ bits_of_first count false test
  pub hwcap2 : set.hwcap2 ≡ bits_of_first count true test

-- whether the bit of the hwcap at a place of the table is set in its word
unfoldable pub set_has_row : HwSet → ℕ → Bool
set_has_row set index =
    option_map_or (λ row. bit_at (if row.second then set.hwcap2 else set.hwcap) row.bit == 1)
    (slice_get hwcap_rows index) false

-- the set has the hwcaps that are advertised over some cores, and no others
pub record IsAdvertised (overrides : FieldOverrides) (cores : List Core) (set : HwSet) : Type 0 where
  pub hwcap : set.hwcap ≡ hwcap_word (hwcap_over overrides cores)
  pub hwcap2 : set.hwcap2 ≡ hwcap2_word (hwcap_over overrides cores)
