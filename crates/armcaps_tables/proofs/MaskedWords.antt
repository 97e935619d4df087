-- What a mask keeps of a register's word.
use Rattle.std.proofs.Common.{◌≡◌, ◌≢◌, ℕ, ℤ, ◌+◌, ◌-◌, ◌*◌, ◌/◌, ◌%◌, ◌^◌, ◌<◌, ◌≤◌, ◌==◌, ◌&&◌, Bool, true, false, not, IsTrue, pos, cond, bit_and, bit_or, List, [], ◌∷◌, filter, slice_get, Some, sum_by, refl, sym, ap, ◌∙◌, inl, inr, pow_pos, arith}
use Rattle.std.specs.List.{list_all, list_any}
use Rattle.std.specs.Ordering.{int_eq}
use Rattle.std.specs.Int.Bits.{and_zero_r, or_zero_l, or_zero_r}
use Rattle.std.proofs.Math.Nat.{mod-mod, zero-mul}
use Rattle.std.proofs.lemmas.Bool.{lt-ltb, eq-eqb, false≢true, and_parts}
use Rattle.std.proofs.lemmas.Bool.Decides.{eqb_tells}
use Rattle.std.proofs.lemmas.List.Folds.{Any-from_list_any}
use Rattle.std.proofs.lemmas.List.Sums.{sum_by-cons}
use Rattle.std.proofs.lemmas.Nat.{and_le_l, and_mask, and_mod, and_shr, mod_below, or_lt, or_mod, or_shr}
use Rattle.std.proofs.lemmas.Option.{slice_get-get_or}
use Rattle.armcaps_logic.proofs.Searches.{list_any-item}
use Rattle.armcaps_bits.specs.Field.{field_bits, field_fits, number_of, unsigned_field}
use Rattle.armcaps_bits.proofs.Signs.{field_bits-number_of, number_fits, one_number, signed_number-low}
use Rattle.armcaps_enc.specs.declared.register.SysReg.{SysReg}
use Rattle.armcaps_rule.proofs.Leading.{int_eq_self, int_eq_true}
use Rattle.armcaps_tables.specs.Row.{Row}
use Rattle.armcaps_tables.specs.Rows.{rows_of}
use Rattle.armcaps_tables.specs.Facts.{row_holds}
use Rattle.armcaps_tables.specs.Fields.{field_in, word_of, ValuesFit, IsMadeOf}
use Rattle.armcaps_tables.specs.Masks.{field_mask, mask_of}
use Rattle.armcaps_tables.proofs.FieldWords.{made_of, only_one, row_some, word_from, word_from-cons, word_of-same}
use Rattle.armcaps_tables.proofs.Places.{hold_of, row_in_word, row_safe}

-- 0 is a value of every field, and stands for no bits
zero_fits : (signed : Bool) (width : ℕ) → IsTrue (field_fits signed width (pos 0))
zero_fits true width = lt-ltb 0 (2 ^ (width - 1)) (pow_pos (width - 1))
zero_fits false width = lt-ltb 0 (2 ^ width) (pow_pos width)

zero_number : (signed : Bool) (width : ℕ) → number_of signed width 0 ≡ pos 0
zero_number true width = signed_number-low width 0 (pow_pos (width - 1))
zero_number false width = refl

-- all bits of the fields that pass a test
abbrev ones : (Row → Bool) → ℕ → Row → ℤ
ones test index row = cond (test row) (number_of row.signed row.width (2 ^ row.width - 1)) (pos 0)

mask_from : (test : Row → Bool) (first : ℕ) (rows : List Row) → list_all row_holds rows ≡ true
    → mask_of test rows ≡ word_from (ones test) first rows
mask_from test first [] hold = refl
mask_from test first (row ∷ rows) hold =
    let parts = and_parts (row_holds row) (list_all row_holds rows) hold in
    let some : 1 ≤ row.width = row_some row parts.0 in
    let bits : field_bits row.width (number_of row.signed row.width (2 ^ row.width - 1)) ≡ 2 ^ row.width - 1 =
    field_bits-number_of row.signed row.width (2 ^ row.width - 1) some (omega (arith, pow_pos row.width)) in
    by_test (test row) (ap (λ n. n * 2 ^ row.shift) bits) (mask_from test (first + 1) rows parts.1)
    ∙ sym (word_from-cons (ones test) first row rows)
  where
    all : ℤ
    all = number_of row.signed row.width (2 ^ row.width - 1)

    by_test : (passes : Bool) → field_bits row.width all * 2 ^ row.shift ≡ field_mask row
        → mask_of test rows ≡ word_from (ones test) (first + 1) rows
        → sum_by field_mask (cond passes (row ∷ filter test rows) (filter test rows))
        ≡ field_bits row.width (cond passes all (pos 0)) * 2 ^ row.shift + word_from (ones test) (first + 1) rows
    by_test true bits more =
        sum_by-cons field_mask row (filter test rows)
        ∙ ap (λ n. n + mask_of test rows) (sym bits)
        ∙ ap (λ n. field_bits row.width all * 2 ^ row.shift + n) more
    by_test false bits more = omega (arith, more, zero-mul (2 ^ row.shift))

-- a mask has all bits of the fields that pass, and no others
ones_fit : (test : Row → Bool) (reg : SysReg) → ValuesFit (ones test) (rows_of reg)
ones_fit test reg index row at = by_test (test row)
  where
    by_test : (passes : Bool)
        → IsTrue (field_fits row.signed row.width
        (cond passes (number_of row.signed row.width (2 ^ row.width - 1)) (pos 0)))
    by_test true =
        number_fits row.signed row.width (2 ^ row.width - 1) (row_in_word reg index row at).0
        (omega (arith, pow_pos row.width))
    by_test false = zero_fits row.signed row.width

mask_made : (test : Row → Bool) (reg : SysReg) → IsMadeOf (ones test) (rows_of reg) (mask_of test (rows_of reg))
mask_made test reg = rw (mask_from test 0 (rows_of reg) (hold_of reg)) (made_of reg (ones test) (ones_fit test reg))

-- the bits of a field, by its value
bits_of : (reg : SysReg) (index : ℕ) (row : Row) (word bits : ℕ) → slice_get (rows_of reg) index ≡ Some row
    → bits < 2 ^ row.width
    → field_in row word ≡ number_of row.signed row.width bits → unsigned_field row.shift row.width word ≡ bits
bits_of reg index row word bits at small is =
    one_number row.signed row.width (unsigned_field row.shift row.width word) bits (row_in_word reg index row at).0
    (mod_below (word / 2 ^ row.shift) (2 ^ row.width) (pow_pos row.width)) small is

no_bits : (reg : SysReg) (index : ℕ) (row : Row) (word : ℕ) → slice_get (rows_of reg) index ≡ Some row
    → field_in row word ≡ pos 0 → unsigned_field row.shift row.width word ≡ 0
no_bits reg index row word at is =
    bits_of reg index row word 0 at (pow_pos row.width) (is ∙ sym (zero_number row.signed row.width))

-- a field of two words' common bits, and of their joined bits
field_of_and : (shift width one other : ℕ) → unsigned_field shift width (bit_and one other)
    ≡ bit_and (unsigned_field shift width one) (unsigned_field shift width other)
field_of_and shift width one other =
    ap (λ n. n % 2 ^ width) (and_shr one other shift) ∙ and_mod (one / 2 ^ shift) (other / 2 ^ shift) width

field_of_or : (shift width one other : ℕ) → unsigned_field shift width (bit_or one other)
    ≡ bit_or (unsigned_field shift width one) (unsigned_field shift width other)
field_of_or shift width one other =
    ap (λ n. n % 2 ^ width) (or_shr one other shift) ∙ or_mod (one / 2 ^ shift) (other / 2 ^ shift) width

-- a word under a mask has the fields that pass, and 0 in all other bits
abbrev pub masked : (Row → Bool) → ℕ → ℕ → Row → ℤ
masked test word index row = cond (test row) (field_in row word) (pos 0)

masked_field : (test : Row → Bool) (reg : SysReg) (word index : ℕ) (row : Row)
    → slice_get (rows_of reg) index ≡ Some row
    → field_in row (bit_and word (mask_of test (rows_of reg))) ≡ masked test word index row
masked_field test reg word index row at = by_test (test row) refl
  where
    mask : ℕ
    mask = mask_of test (rows_of reg)

    field : ℕ
    field = unsigned_field row.shift row.width word

    joined : (bits : ℕ) → unsigned_field row.shift row.width mask ≡ bits
        → unsigned_field row.shift row.width (bit_and word mask) ≡ bit_and field bits
    joined bits is = field_of_and row.shift row.width word mask ∙ ap (bit_and field) is

    by_test : (passes : Bool) → test row ≡ passes
        → number_of row.signed row.width (unsigned_field row.shift row.width (bit_and word mask))
        ≡ cond passes (field_in row word) (pos 0)
    by_test true is =
        let all : unsigned_field row.shift row.width mask ≡ 2 ^ row.width - 1 =
        bits_of reg index row mask (2 ^ row.width - 1) at (omega (arith, pow_pos row.width))
        (rw is at ((mask_made test reg).fields index row at)) in
        ap (number_of row.signed row.width)
        (joined (2 ^ row.width - 1) all ∙ and_mask field row.width ∙ mod-mod (word / 2 ^ row.shift) (2 ^ row.width))
    by_test false is =
        let none : unsigned_field row.shift row.width mask ≡ 0 =
        no_bits reg index row mask at (rw is at ((mask_made test reg).fields index row at)) in
        ap (number_of row.signed row.width) (joined 0 none ∙ and_zero_r field) ∙ zero_number row.signed row.width

masked_made : (test : Row → Bool) (reg : SysReg) (word : ℕ) → word < 2 ^ 64
    → IsMadeOf (masked test word) (rows_of reg) (bit_and word (mask_of test (rows_of reg)))
masked_made test reg word small = record {
  fields = masked_field test reg word;
  others = λ shift width within outside.
      field_of_and shift width word (mask_of test (rows_of reg))
      ∙ ap (bit_and (unsigned_field shift width word)) ((mask_made test reg).others shift width within outside)
      ∙ and_zero_r (unsigned_field shift width word);
  within = omega (arith, and_le_l word (mask_of test (rows_of reg)));
}

masked_fit : (test : Row → Bool) (reg : SysReg) (word : ℕ) → ValuesFit (masked test word) (rows_of reg)
masked_fit test reg word index row at = by_test (test row)
  where
    by_test : (passes : Bool) → IsTrue (field_fits row.signed row.width (cond passes (field_in row word) (pos 0)))
    by_test true =
        number_fits row.signed row.width (unsigned_field row.shift row.width word) (row_in_word reg index row at).0
        (mod_below (word / 2 ^ row.shift) (2 ^ row.width) (pow_pos row.width))
    by_test false = zero_fits row.signed row.width

-- so it is the word of these fields
pub masked_word : (test : Row → Bool) (reg : SysReg) (word : ℕ) → word < 2 ^ 64
    → bit_and word (mask_of test (rows_of reg)) ≡ word_of (masked test word) (rows_of reg)
masked_word test reg word small =
    only_one reg (masked test word) (bit_and word (mask_of test (rows_of reg))) (masked_fit test reg word)
    (masked_made test reg word small)

-- the visible fields of a word joined with the safe values of the hidden ones
abbrev safe_where_hidden : ℕ → Row → ℤ
safe_where_hidden index row = cond row.visible (pos 0) row.safe

abbrev pub shown_or_safe : ℕ → ℕ → Row → ℤ
shown_or_safe word index row = cond row.visible (field_in row word) row.safe

hidden_fit : (reg : SysReg) → ValuesFit safe_where_hidden (rows_of reg)
hidden_fit reg index row at = by_test row.visible
  where
    by_test : (visible : Bool) → IsTrue (field_fits row.signed row.width (cond visible (pos 0) row.safe))
    by_test true = zero_fits row.signed row.width
    by_test false = row_safe reg index row at

shown_fit : (reg : SysReg) (word : ℕ) → ValuesFit (shown_or_safe word) (rows_of reg)
shown_fit reg word index row at = by_test row.visible
  where
    by_test : (visible : Bool) → IsTrue (field_fits row.signed row.width (cond visible (field_in row word) row.safe))
    by_test true =
        number_fits row.signed row.width (unsigned_field row.shift row.width word) (row_in_word reg index row at).0
        (mod_below (word / 2 ^ row.shift) (2 ^ row.width) (pow_pos row.width))
    by_test false = row_safe reg index row at

-- two words that are made of fields, where at each field one of them has 0
joined_field : (reg : SysReg) (word one other index : ℕ) (row : Row) → slice_get (rows_of reg) index ≡ Some row
    → field_in row one ≡ cond row.visible (field_in row word) (pos 0) → field_in row other
    ≡ cond row.visible (pos 0) row.safe
    → field_in row (bit_or one other) ≡ cond row.visible (field_in row word) row.safe
joined_field reg word one other index row at first second = by_test row.visible first second
  where
    field : ℕ → ℕ
    field = unsigned_field row.shift row.width

    by_test : (visible : Bool) → field_in row one ≡ cond visible (field_in row word) (pos 0)
        → field_in row other ≡ cond visible (pos 0) row.safe
        → field_in row (bit_or one other) ≡ cond visible (field_in row word) row.safe
    by_test true first second =
        ap (number_of row.signed row.width) (field_of_or row.shift row.width one other
        ∙ ap (bit_or (field one)) (no_bits reg index row other at second) ∙ or_zero_r (field one)) ∙ first
    by_test false first second =
        ap (number_of row.signed row.width) (field_of_or row.shift row.width one other
        ∙ ap (λ bits. bit_or bits (field other)) (no_bits reg index row one at first) ∙ or_zero_l (field other))
        ∙ second

pub shown_word : (reg : SysReg) (word : ℕ) → word < 2 ^ 64
    → bit_or (bit_and word (mask_of (λ row. row.visible) (rows_of reg))) (word_of safe_where_hidden (rows_of reg))
    ≡ word_of (shown_or_safe word) (rows_of reg)
shown_word reg word small =
    let seen = masked_made (λ row. row.visible) reg word small in
    let hidden = made_of reg safe_where_hidden (hidden_fit reg) in
    let one : ℕ = bit_and word (mask_of (λ row. row.visible) (rows_of reg)) in
    let other : ℕ = word_of safe_where_hidden (rows_of reg) in
    only_one reg (shown_or_safe word) (bit_or one other) (shown_fit reg word) (record {
      fields =
          λ index row at. joined_field reg word one other index row at (seen.fields index row at)
          (hidden.fields index row at);
      others = λ shift width within outside.
          field_of_or shift width one other
          ∙ ap (λ bits. bit_or bits (unsigned_field shift width other)) (seen.others shift width within outside)
          ∙ ap (bit_or 0) (hidden.others shift width within outside) ∙ or_zero_r 0;
      within = or_lt 64 one other seen.within hidden.within;
    })

-- whether a strict field has other values in two words
abbrev pub differs : ℕ → ℕ → Row → Bool
differs one other row = row.strict && not (int_eq (field_in row one) (field_in row other))

-- where no strict field does, the two are one word under the mask
alike_field : (one other : ℕ) (row : Row) → differs one other row ≡ false
    → cond row.strict (field_in row one) (pos 0) ≡ cond row.strict (field_in row other) (pos 0)
alike_field one other row same = by_test row.strict same
  where
    by_equal : (equal : Bool) → int_eq (field_in row one) (field_in row other) ≡ equal → not equal ≡ false
        → field_in row one ≡ field_in row other
    by_equal true is h = int_eq_true (field_in row one) (field_in row other) is
    by_equal false is h = absurd (false≢true (sym h))

    by_test : (strict : Bool) → (strict && not (int_eq (field_in row one) (field_in row other))) ≡ false
        → cond strict (field_in row one) (pos 0) ≡ cond strict (field_in row other) (pos 0)
    by_test true h = by_equal (int_eq (field_in row one) (field_in row other)) refl h
    by_test false h = refl

alike : (reg : SysReg) (one other : ℕ) → one < 2 ^ 64 → other < 2 ^ 64
    → list_any (differs one other) (rows_of reg) ≡ false
    → bit_and one (mask_of (λ row. row.strict) (rows_of reg))
    ≡ bit_and other (mask_of (λ row. row.strict) (rows_of reg))
alike reg one other small small' none =
    masked_word (λ row. row.strict) reg one small
    ∙ word_of-same (masked (λ row. row.strict) one) (masked (λ row. row.strict) other) (rows_of reg) (λ index row at.
    alike_field one other row (list_any-item (differs one other) (rows_of reg) index row none at))
    ∙ sym (masked_word (λ row. row.strict) reg other small')

-- and where one does, they differ under it
apart_field : (one other : ℕ) (row : Row) → differs one other row ≡ true
    → cond row.strict (field_in row one) (pos 0) ≢ cond row.strict (field_in row other) (pos 0)
apart_field one other row is = by_test row.strict is
  where
    by_test : (strict : Bool) → (strict && not (int_eq (field_in row one) (field_in row other))) ≡ true
        → cond strict (field_in row one) (pos 0) ≢ cond strict (field_in row other) (pos 0)
    by_test true h same =
        let equal : int_eq (field_in row one) (field_in row other) ≡ true =
        ap (int_eq (field_in row one)) (sym same) ∙ int_eq_self (field_in row one) in
        absurd (false≢true (sym (ap not equal) ∙ h))
    by_test false h same = absurd (false≢true h)

apart : (reg : SysReg) (one other : ℕ) → one < 2 ^ 64 → other < 2 ^ 64
    → list_any (differs one other) (rows_of reg) ≡ true
    → bit_and one (mask_of (λ row. row.strict) (rows_of reg)) ≢ bit_and other
    (mask_of (λ row. row.strict) (rows_of reg))
apart reg one other small small' some same =
    let found = Any-from_list_any (differs one other) (rows_of reg) some in
    let index : ℕ = found.0 in
    let row : Row = found.1 in
    let at : slice_get (rows_of reg) index ≡ Some row =
    slice_get-get_or (rows_of reg) index row found.2 ∙ ap Some found.3 in
    let seen = (masked_made (λ row. row.strict) reg one small).fields index row at in
    let seen' = (masked_made (λ row. row.strict) reg other small').fields index row at in
    apart_field one other row found.4 (sym seen ∙ ap (field_in row) same ∙ seen')

pub differ : (reg : SysReg) (one other : ℕ) → one < 2 ^ 64 → other < 2 ^ 64
    → not (bit_and one (mask_of (λ row. row.strict) (rows_of reg)) == bit_and other
    (mask_of (λ row. row.strict) (rows_of reg)))
    ≡ list_any (differs one other) (rows_of reg)
differ reg one other small small' = by_any (list_any (differs one other) (rows_of reg)) refl
  where
    left : ℕ
    left = bit_and one (mask_of (λ row. row.strict) (rows_of reg))

    right : ℕ
    right = bit_and other (mask_of (λ row. row.strict) (rows_of reg))

    by_any : (found : Bool) → list_any (differs one other) (rows_of reg) ≡ found → not (left == right) ≡ found
    by_any false is = ap not (eq-eqb left right (alike reg one other small small' is))
    by_any true is = elim (eqb_tells left right) [
      | inl same ↦ absurd (apart reg one other small small' is same.1)
      | inr off ↦ ap not off.0
    ]
