-- A set of hwcaps that is made row by row, and what it holds when it is made.
use Rattle.std.proofs.Common.{◌≡◌, ℕ, ◌+◌, ◌*◌, ◌/◌, ◌%◌, ◌^◌, ◌<◌, ◌≤◌, Bool, true, false, not, ◌&&◌, cond, ◌∷◌, [], length, get_or, take, sum_by, Option, Some, None, slice_get, refl, sym, ◌∙◌, ap, arith, zero-add}
use Rattle.std.specs.Prelude.{◌==◌}
use Rattle.std.specs.Int.{bit_at}
use Rattle.std.specs.Int.RustNames.{bit_and, bit_or}
use Rattle.std.specs.List.{enumerate_from}
use Rattle.std.specs.Option.{option_map_or}
use Rattle.std.proofs.lemmas.List.{take_all, take_more}
use Rattle.std.proofs.lemmas.List.FromFn.{get_or-enumerate_from, length-enumerate_from}
use Rattle.std.proofs.lemmas.List.Sums.{sum_by-append}
use Rattle.std.proofs.lemmas.Nat.{one_shl, or_comm, or_shifted}
use Rattle.std.proofs.lemmas.Nat.Bits.{bit_at-zero, shr_and_one}
use Rattle.std.proofs.lemmas.Option.{get_or_from_slice_get, slice_get_within}
use Rattle.armcaps_rule.proofs.Insertion.{by_bool}
use Rattle.armcaps_hwcap.specs.declared.hw_set.HwSet.{HwSet}
use Rattle.armcaps_hwcap.specs.Facts.{bits_rise}
use Rattle.armcaps_hwcap.specs.Row.{Row}
use Rattle.armcaps_hwcap.specs.Rows.{hwcap_rows}
use Rattle.armcaps_hwcap.specs.Words.{bit_of, bits_of, bits_of_first, hwcap2_word, hwcap_word, set_has_row, stands_in, HasFirst}
use Rattle.armcaps_hwcap.proofs.Listing.{all_listed, bit_below, first_rises, row_found, second_rises}
use Rattle.armcaps_hwcap.proofs.Sums.{bit_in_sum, part, prefix_below}

-- the code's test of a bit of one of the two words
pub set_has_row-at : (set : HwSet) (index : ℕ) (row : Row) → slice_get hwcap_rows index ≡ Some row
    → (bit_and (cond row.second set.hwcap2 set.hwcap / 2 ^ row.bit) 1 == 1) ≡ set_has_row set index
unfolding set_has_row
set_has_row-at set index row at =
    ap (λ bit. bit == 1) (shr_and_one (cond row.second set.hwcap2 set.hwcap) row.bit)
    ∙ sym (ap
    (λ found. option_map_or (λ (it : Row). bit_at (cond it.second set.hwcap2 set.hwcap) it.bit == 1) found false)
    at)

-- the bits of both words rise
rises : (second : Bool) → bits_rise second 0 hwcap_rows ≡ true
rises true = second_rises
rises false = first_rises

-- a word's bits of one more row
pub bits_of_first-more : (index : ℕ) (second : Bool) (test : ℕ → Bool) (row : Row)
    → slice_get hwcap_rows index ≡ Some row
    → bits_of_first (index + 1) second test ≡ bits_of_first index second test + bit_of second test index row
unfolding bits_of_first
bits_of_first-more index second test row at =
    let within : index < length (enumerate_from 0 hwcap_rows) = omega
    (arith, length-enumerate_from 0 hwcap_rows, slice_get_within hwcap_rows index row at) in
    let last : get_or (enumerate_from 0 hwcap_rows) index (0, row) ≡ (index, row) =
    get_or-enumerate_from 0 hwcap_rows index (0, row) (slice_get_within hwcap_rows index row at)
    ∙ ap (λ place. (place, get_or hwcap_rows index row)) (zero-add index)
    ∙ ap (λ it. (index, it)) (get_or_from_slice_get hwcap_rows index row row at) in
    ap (sum_by (part second test)) (take_more (enumerate_from 0 hwcap_rows) index (0, row) within)
    ∙ sum_by-append (part second test) (take index (enumerate_from 0 hwcap_rows))
    (get_or (enumerate_from 0 hwcap_rows) index (0, row) ∷ [])
    ∙ ap (λ item. sum_by (part second test) (take index (enumerate_from 0 hwcap_rows)) + sum_by (part second test)
    (item ∷ [])) last
    ∙ ap (λ n. sum_by (part second test) (take index (enumerate_from 0 hwcap_rows)) + n)
    (zero-add (bit_of second test index row))

-- the first rows' bits are below the bit of the next row of the word
first_below : (index : ℕ) (second : Bool) (test : ℕ → Bool) (row : Row) → slice_get hwcap_rows index ≡ Some row
    → stands_in second row ≡ true
    → bits_of_first index second test < 2 ^ row.bit
unfolding bits_of_first
first_below index second test row at is =
    omega (arith, prefix_below second test 0 0 0 hwcap_rows index row (rises second) at is (omega arith))

-- to set the bit of a row is to add it
set_adds : (word bit : ℕ) → bit < 64 → word < 2 ^ bit → bit_or word (1 * 2 ^ bit % 2 ^ 64) ≡ word + 2 ^ bit
set_adds word bit within below =
    let once : 2 ^ bit ≡ 1 * 2 ^ bit = omega arith in
    ap (bit_or word) (one_shl bit 64 within)
    ∙ or_comm word (2 ^ bit)
    ∙ ap (λ n. bit_or n word) once
    ∙ or_shifted 1 bit word below
    ∙ omega arith

-- a row adds its bit to the word that it stands in, where its index passes, and nothing else
own_bit : (second : Bool) (test : ℕ → Bool) (index : ℕ) (row : Row) → stands_in second row ≡ true → test index ≡ true
    → bit_of second test index row ≡ 2 ^ row.bit
own_bit second test index row is passes = ap (λ b. cond (b && test index) (2 ^ row.bit) 0) is
    ∙ ap (λ b. cond b (2 ^ row.bit) 0) passes

no_bit : (second : Bool) (test : ℕ → Bool) (index : ℕ) (row : Row) → test index ≡ false
    → bit_of second test index row ≡ 0
no_bit second test index row fails = ap (λ b. cond (stands_in second row && b) (2 ^ row.bit) 0) fails
    ∙ neither (stands_in second row) where
      neither : (b : Bool) → cond (b && false) (2 ^ row.bit) 0 ≡ 0
      neither true = refl
      neither false = refl

other_bit : (second : Bool) (test : ℕ → Bool) (index : ℕ) (row : Row) → stands_in second row ≡ false
    → bit_of second test index row ≡ 0
other_bit second test index row is = ap (λ b. cond (b && test index) (2 ^ row.bit) 0) is

-- the word that a row stands in, with the row's bit set
word_added : (index : ℕ) (second : Bool) (test : ℕ → Bool) (row : Row) (word : ℕ)
    → slice_get hwcap_rows index ≡ Some row → stands_in second row ≡ true
    → test index ≡ true → word ≡ bits_of_first index second test
    → bit_or word (1 * 2 ^ row.bit % 2 ^ 64) ≡ bits_of_first (index + 1) second test
word_added index second test row word at is passes same =
    let below : word < 2 ^ row.bit = omega (arith, first_below index second test row at is) in
    set_adds word row.bit (bit_below index row at) below
    ∙ omega (arith, bits_of_first-more index second test row at, own_bit second test index row is passes)

-- the other word stays
word_kept : (index : ℕ) (second : Bool) (test : ℕ → Bool) (row : Row) (word : ℕ)
    → slice_get hwcap_rows index ≡ Some row → stands_in second row ≡ false
    → word ≡ bits_of_first index second test → word ≡ bits_of_first (index + 1) second test
word_kept index second test row word at is same =
    omega (arith, bits_of_first-more index second test row at, other_bit second test index row is)

-- a set with the first rows that pass and one more row that passes
pub with_second : (index : ℕ) (test : ℕ → Bool) (row : Row) (set : HwSet) → slice_get hwcap_rows index ≡ Some row
    → row.second ≡ true → test index ≡ true
    → HasFirst index test set
    → HasFirst (index + 1) test
    (record { hwcap = set.hwcap; hwcap2 = bit_or set.hwcap2 (1 * 2 ^ row.bit % 2 ^ 64) })
with_second index test row set at is passes has = record {
  hwcap = word_kept index false test row set.hwcap at (ap not is) has.hwcap;
  hwcap2 = word_added index true test row set.hwcap2 at is passes has.hwcap2;
}

pub with_first : (index : ℕ) (test : ℕ → Bool) (row : Row) (set : HwSet) → slice_get hwcap_rows index ≡ Some row
    → row.second ≡ false → test index ≡ true
    → HasFirst index test set
    → HasFirst (index + 1) test
    (record { hwcap = bit_or set.hwcap (1 * 2 ^ row.bit % 2 ^ 64); hwcap2 = set.hwcap2 })
with_first index test row set at is passes has = record {
  hwcap = word_added index false test row set.hwcap at (ap not is) passes has.hwcap;
  hwcap2 = word_kept index true test row set.hwcap2 at is has.hwcap2;
}

-- the same set, where the next row doesn't pass
pub without : (index : ℕ) (test : ℕ → Bool) (set : HwSet) → index < 57 → test index ≡ false → HasFirst index test set
    → HasFirst (index + 1) test set
without index test set within fails has =
    let found : (row : Row) × (slice_get hwcap_rows index ≡ Some row) = row_found index within in
    record {
      hwcap = omega (
        arith,
        has.hwcap,
        bits_of_first-more index false test found.0 found.1,
        no_bit false test index found.0
            fails,
      );
      hwcap2 = omega
          (arith, has.hwcap2, bits_of_first-more index true test found.0 found.1, no_bit true test index found.0 fails);
    }

-- before the first row there is nothing, and after the last row there is all
pub at_first : (test : ℕ → Bool) → HasFirst 0 test (record { hwcap = 0; hwcap2 = 0 })
unfolding bits_of_first
at_first test = record { hwcap = refl; hwcap2 = refl }

at_last : (second : Bool) (test : ℕ → Bool) (count : ℕ) → 57 ≤ count
    → bits_of_first count second test ≡ bits_of second test
unfolding bits_of_first bits_of
at_last second test count past =
    ap (sum_by (part second test))
    (take_all count (enumerate_from 0 hwcap_rows) (omega (arith, length-enumerate_from 0 hwcap_rows, all_listed)))

pub made_first : (test : ℕ → Bool) (set : HwSet) (count : ℕ) → 57 ≤ count → HasFirst count test set
    → set.hwcap ≡ hwcap_word test
made_first test set count past has = has.hwcap ∙ at_last false test count past

pub made_second : (test : ℕ → Bool) (set : HwSet) (count : ℕ) → 57 ≤ count → HasFirst count test set
    → set.hwcap2 ≡ hwcap2_word test
made_second test set count past has = has.hwcap2 ∙ at_last true test count past

-- a set whose words are made by a test has the hwcaps that pass it
bit_made : (index : ℕ) (second : Bool) (test : ℕ → Bool) (row : Row) → slice_get hwcap_rows index ≡ Some row
    → stands_in second row ≡ true
    → (bit_at (bits_of second test) row.bit == 1) ≡ test index
unfolding bits_of
bit_made index second test row at is =
    ap (λ bit. bit == 1)
    (ap (λ n. bit_at n row.bit) (sym (zero-add (sum_by (part second test) (enumerate_from 0 hwcap_rows))))
    ∙ bit_in_sum second test 0 0 0 hwcap_rows index row (rises second) at is (omega arith))
    ∙ ap (λ n. (cond (test n) 1 0) == 1) (zero-add index)
    ∙ same (test index) where
      same : (b : Bool) → (cond b 1 0 == 1) ≡ b
      same true = refl
      same false = refl

pub set_has_row-made : (set : HwSet) (test : ℕ → Bool) (index : ℕ) → index < 57 → set.hwcap ≡ hwcap_word test
    → set.hwcap2 ≡ hwcap2_word test
    → set_has_row set index ≡ test index
unfolding set_has_row
set_has_row-made set test index within first second =
    let found : (row : Row) × (slice_get hwcap_rows index ≡ Some row) = row_found index within in
    let row : Row = found.0 in
    let test_of : Row → Bool = λ it. bit_at (cond it.second set.hwcap2 set.hwcap) it.bit == 1 in
    ap (λ listed. option_map_or test_of listed false) found.1
    ∙ by_bool row.second
    (λ is. ap (λ b. bit_at (cond b set.hwcap2 set.hwcap) row.bit == 1) is ∙ ap (λ n. bit_at n row.bit == 1) second
    ∙ bit_made index true test row found.1 is)
    (λ is. ap (λ b. bit_at (cond b set.hwcap2 set.hwcap) row.bit == 1) is ∙ ap (λ n. bit_at n row.bit == 1) first
    ∙ bit_made index false test row found.1 (ap not is))

-- the empty set has none
pub set_has_row-empty : (set : HwSet) (index : ℕ) → set.hwcap ≡ 0 → set.hwcap2 ≡ 0 → set_has_row set index ≡ false
unfolding set_has_row
set_has_row-empty set index first second = at (slice_get hwcap_rows index) where
  zero_bit : (word bit : ℕ) → word ≡ 0 → (bit_at word bit == 1) ≡ false
  zero_bit word bit is = ap (λ n. bit_at n bit == 1) is ∙ ap (λ n. n == 1) (bit_at-zero bit)

  at : (listed : Option Row)
      → option_map_or (λ (it : Row). bit_at (cond it.second set.hwcap2 set.hwcap) it.bit == 1) listed false ≡ false
  at None = refl
  at (Some row) = by_bool row.second
      (λ is. ap (λ b. bit_at (cond b set.hwcap2 set.hwcap) row.bit == 1) is ∙ zero_bit set.hwcap2 row.bit second)
      (λ is. ap (λ b. bit_at (cond b set.hwcap2 set.hwcap) row.bit == 1) is ∙ zero_bit set.hwcap row.bit first)
