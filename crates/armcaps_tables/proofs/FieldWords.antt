-- The word that is made of values of a register's fields.
use Rattle.std.proofs.Common.{◌≡◌, ℕ, ◌+◌, ◌-◌, ◌*◌, ◌/◌, ◌%◌, ◌^◌, ◌<◌, ◌≤◌, inl, inr, suc, zero, true, IsTrue, List, [], ◌∷◌, Some, slice_get, refl, sym, ◌∙◌, ap, subst, lit<, pow_pos, arith, length, drop, add-one, sum_by}
use Rattle.std.proofs.Math.Nat.{pow-le-pow_right, mod-eq_of_lt, add_comm, zero-div, zero-mod, mod-one}
use Rattle.std.proofs.lemmas.Bool.{leb-true, le-leb, and_parts}
use Rattle.std.proofs.lemmas.List.Sums.{sum_by-cons}
use Rattle.std.proofs.lemmas.List.{drop_all}
use Rattle.std.proofs.lemmas.Nat.{mod_below, mod-pow-add}
use Rattle.std.specs.Prelude.{ℤ, nat_le, not, ◌||◌}
use Rattle.std.specs.List.{enumerate_from, list_all}
use Rattle.armcaps_bits.specs.Field.{field_bits, field_fits, unsigned_field, number_of, Apart}
use Rattle.armcaps_bits.proofs.Puts.{put_above}
use Rattle.armcaps_bits.proofs.Signs.{field_bits_below, number_of-field_bits, one_number}
use Rattle.armcaps_enc.specs.declared.register.SysReg.{SysReg}
use Rattle.armcaps_tables.specs.Row.{Row}
use Rattle.armcaps_tables.specs.Rows.{rows_of}
use Rattle.armcaps_tables.specs.Facts.{counts_from_zero, row_holds, rises}
use Rattle.armcaps_tables.specs.Fields.{bits_in_place, value_fits, word_of, ValuesFit, IsOutside, IsMadeOf}
use Rattle.armcaps_tables.proofs.Places.{first_of, rises_within, rise_of, hold_of, row_in_word}

pub row_some : (row : Row) → row_holds row ≡ true → 1 ≤ row.width
row_some row h =
    leb-true 1 row.width (first_of (nat_le 1 row.width) (nat_le row.width 32) (field_fits row.signed row.width row.safe)
    (not (counts_from_zero row.rule) || not row.signed) h).0

-- a word below a bound, with the values of the fields from there on
record Grown (value : ℕ → Row → ℤ) (first : ℕ) (rows : List Row) (end base word : ℕ) : Type 0 where
  below : (shift width : ℕ) → shift + width ≤ end → unsigned_field shift width word ≡ unsigned_field shift width base
  fields : (index place : ℕ) (row : Row) → place ≡ first + index → slice_get rows index ≡ Some row
      → unsigned_field row.shift row.width word ≡ field_bits row.width (value place row)
  others : (shift width : ℕ) → shift + width ≤ 64 → IsOutside rows shift width
      → unsigned_field shift width word ≡ unsigned_field shift width base
  within : word < 2 ^ 64

Fitting : (ℕ → Row → ℤ) → ℕ → List Row → Type 0
Fitting value first rows = (index place : ℕ) (row : Row) → place ≡ first + index → slice_get rows index ≡ Some row
    → IsTrue (value_fits row (value place row))

-- the sum of the values' bits, where the first row has the index given
abbrev pub word_from : (ℕ → Row → ℤ) → ℕ → List Row → ℕ
word_from value first rows = sum_by (bits_in_place value) (enumerate_from first rows)

pub word_from-cons : (value : ℕ → Row → ℤ) (first : ℕ) (row : Row) (rows : List Row)
    → word_from value first (row ∷ rows)
    ≡ field_bits row.width (value first row) * 2 ^ row.shift + word_from value (first + 1) rows
word_from-cons value first row rows =
    sum_by-cons (bits_in_place value) (first, row) (enumerate_from (first + 1) rows)

-- what holds at the first row and at the others
fields_at : (value : ℕ → Row → ℤ) (first : ℕ) (row : Row) (rows : List Row) (word : ℕ)
    → unsigned_field row.shift row.width word ≡ field_bits row.width (value first row)
    → ((index place : ℕ) (other : Row) → place ≡ first + 1 + index → slice_get rows index ≡ Some other
    → unsigned_field other.shift other.width word ≡ field_bits other.width (value place other))
    → (index place : ℕ) (other : Row) → place ≡ first + index → slice_get (row ∷ rows) index ≡ Some other
    → unsigned_field other.shift other.width word ≡ field_bits other.width (value place other)
fields_at value first row rows word head tail zero place other e at =
    let same : row ≡ other = cc in
    let here : place ≡ first = omega arith in
    rw here (subst (λ (r : Row). unsigned_field r.shift r.width word ≡ field_bits r.width (value first r)) same head)
fields_at value first row rows word head tail (suc index) place other e at = tail index place other (omega arith) at

grown : (value : ℕ → Row → ℤ) (first : ℕ) (rows : List Row) (end base word : ℕ) → rises end rows ≡ true
    → list_all row_holds rows ≡ true
    → Fitting value first rows → base < 2 ^ end → word ≡ base + word_from value first rows
    → Grown value first rows end base word
unfolding Fitting
grown value first [] end base word up hold fit low is =
    let same : word ≡ base = omega arith in
    let top : end ≤ 64 = leb-true end 64 up in
    record {
      below = λ shift width h. ap (unsigned_field shift width) same;
      fields = λ index place row e at. cc;
      others = λ shift width h out. ap (unsigned_field shift width) same;
      within = omega (arith, pow-le-pow_right {n = 2} (lit< tt) top);
    }
grown value first (row ∷ rows) end base word up hold fit low is =
    let rising = and_parts (nat_le end row.shift) (rises (row.shift + row.width) rows) up in
    let holding = and_parts (row_holds row) (list_all row_holds rows) hold in
    let some = row_some row holding.0 in
    let over : end ≤ row.shift = leb-true end row.shift rising.0 in
    let top : row.shift + row.width ≤ 64 = rises_within (row.shift + row.width) rows rising.1 in
    let small : field_bits row.width (value first row) < 2 ^ row.width =
    field_bits_below row.signed row.width (value first row) some (fit 0 first row (omega arith) refl) in
    let lower : base < 2 ^ row.shift = omega (arith, pow-le-pow_right {n = 2} (lit< tt) over) in
    let put = put_above row.shift row.width (field_bits row.width (value first row)) base top small lower in
    let more =
    grown value (first + 1) rows (row.shift + row.width)
    (base + field_bits row.width (value first row) * 2 ^ row.shift) word
    rising.1 holding.1 (λ index place other e at. fit (suc index) place other (omega arith) at) put.1
    (omega (arith, is, word_from-cons value first row rows)) in
    record {
      below =
          λ shift width h. more.below shift width (omega arith)
          ∙ put.0.others shift width (inl (omega arith)) (omega arith);
      fields =
          fields_at value first row rows word (more.below row.shift row.width (omega arith) ∙ put.0.got) more.fields;
      others =
          λ shift width h out. more.others shift width h (λ index other at. out (suc index) other at)
          ∙ put.0.others shift width (out 0 row refl) h;
      within = more.within;
    }

pub zero_field : (shift width : ℕ) → unsigned_field shift width 0 ≡ 0
zero_field shift width = ap (λ n. n % 2 ^ width) (zero-div (2 ^ shift)) ∙ zero-mod (2 ^ width)

-- the word that fitting values make has them in its fields, and nothing else
pub made_of : (reg : SysReg) (value : ℕ → Row → ℤ) → ValuesFit value (rows_of reg)
    → IsMadeOf value (rows_of reg) (word_of value (rows_of reg))
unfolding Fitting
made_of reg value fit =
    let it = grown value 0 (rows_of reg) 0 0 (word_of value (rows_of reg)) (rise_of reg) (hold_of reg)
    (λ index place row e at. let same : place ≡ index = omega arith in rw same (fit index row at)) (lit< tt)
    (omega arith) in
    record {
      fields = λ index row at.
          let some = (row_in_word reg index row at).0 in
          ap (number_of row.signed row.width) (it.fields index index row (omega arith) at)
          ∙ number_of-field_bits row.signed row.width (value index row) some (fit index row at);
      others = λ shift width h out. it.others shift width h out ∙ zero_field shift width;
      within = it.within;
    }

-- equal values make equal words
word_from-same : (one other : ℕ → Row → ℤ) (first : ℕ) (rows : List Row)
    → ((index place : ℕ) (row : Row) → place ≡ first + index → slice_get rows index ≡ Some row → one place row
    ≡ other place row)
    → word_from one first rows ≡ word_from other first rows
word_from-same one other first [] same = refl
word_from-same one other first (row ∷ rows) same =
    let here = same 0 first row (omega arith) refl in
    let more =
    word_from-same one other (first + 1) rows
    (λ index place later e at. same (suc index) place later (omega arith) at) in
    word_from-cons one first row rows
    ∙ ap (λ v. field_bits row.width v * 2 ^ row.shift + word_from one (first + 1) rows) here
    ∙ ap (λ n. field_bits row.width (other first row) * 2 ^ row.shift + n) more
    ∙ sym (word_from-cons other first row rows)

pub word_of-same : (one other : ℕ → Row → ℤ) (rows : List Row)
    → ((index : ℕ) (row : Row) → slice_get rows index ≡ Some row → one index row ≡ other index row)
    → word_of one rows ≡ word_of other rows
word_of-same one other rows same =
    word_from-same one other 0 rows
    (λ index place row e at. let is : place ≡ index = omega arith in rw is (same index row at))

-- where the fields before a row end
pub end_at : ℕ → List Row → ℕ → ℕ
end_at end rows zero = end
end_at end [] (suc index) = end
end_at end (row ∷ rows) (suc index) = end_at (row.shift + row.width) rows index

rises_from : (end : ℕ) (rows : List Row) (index : ℕ) → rises end rows ≡ true
    → rises (end_at end rows index) (drop index rows) ≡ true
unfolding end_at
rises_from end rows zero h = h
rises_from end [] (suc index) h = h
rises_from end (row ∷ rows) (suc index) h =
    rises_from (row.shift + row.width) rows index (and_parts (nat_le end row.shift) (rises (row.shift + row.width) rows) h).1

end_past : (end : ℕ) (rows : List Row) (index : ℕ) (row : Row) → slice_get rows index ≡ Some row
    → end_at end rows (suc index) ≡ row.shift + row.width
unfolding end_at
end_past end [] index row at = cc
end_past end (first ∷ rows) zero row at = let same : first ≡ row = cc in ap (λ (r : Row). r.shift + r.width) same
end_past end (first ∷ rows) (suc index) row at = end_past (first.shift + first.width) rows index row at

drop_at : (rows : List Row) (index : ℕ) (row : Row) → slice_get rows index ≡ Some row
    → drop index rows ≡ row ∷ drop (suc index) rows
drop_at [] index row at = cc
drop_at (first ∷ rows) zero row at = let same : first ≡ row = cc in ap (λ r. r ∷ rows) same
drop_at (first ∷ rows) (suc index) row at = drop_at rows index row at

-- a word so far: it ends before the next field, and the fields that are left make the rest
pub record SoFar (value : ℕ → Row → ℤ) (rows : List Row) (index word : ℕ) : Type 0 where
  pub low : word < 2 ^ end_at 0 rows index
  pub rest : word + word_from value index (drop index rows) ≡ word_of value rows

pub so_far_none : (value : ℕ → Row → ℤ) (rows : List Row) → SoFar value rows 0 0
unfolding end_at
so_far_none value rows = record { low = lit< tt; rest = omega arith }

pub below_next : (value : ℕ → Row → ℤ) (reg : SysReg) (index word : ℕ) (row : Row)
    → SoFar value (rows_of reg) index word
    → slice_get (rows_of reg) index ≡ Some row → word < 2 ^ row.shift
below_next value reg index word row far at =
    let rows = rows_of reg in
    let up = rises_from 0 (rows_of reg) index (rise_of reg) in
    let up' = (rw (drop_at (rows_of reg) index row at) at up) in
    let over = leb-true (end_at 0 (rows_of reg) index) row.shift
    (and_parts (nat_le (end_at 0 (rows_of reg) index) row.shift)
    (rises (row.shift + row.width) (drop (suc index) (rows_of reg))) up').0 in
    let low = far.low in
    omega (arith, pow-le-pow_right {n = 2} (lit< tt) over)

pub so_far_more : (value : ℕ → Row → ℤ) (reg : SysReg) (index word : ℕ) (row : Row)
    → SoFar value (rows_of reg) index word
    → slice_get (rows_of reg) index ≡ Some row
    → word + field_bits row.width (value index row) * 2 ^ row.shift < 2 ^ (row.shift + row.width)
    → SoFar value (rows_of reg) (index + 1) (word + field_bits row.width (value index row) * 2 ^ row.shift)
so_far_more value reg index word row far at small =
    let next : index + 1 ≡ suc index = add-one index in
    let past = end_past 0 (rows_of reg) index row at in
    let left : word_from value index (drop index (rows_of reg))
    ≡ field_bits row.width (value index row) * 2 ^ row.shift + word_from value (index + 1)
    (drop (suc index) (rows_of reg)) =
    rw (drop_at (rows_of reg) index row at) (word_from-cons value index row (drop (suc index) (rows_of reg))) in
    let left' : word_from value index (drop index (rows_of reg))
    ≡ field_bits row.width (value index row) * 2 ^ row.shift + word_from value (index + 1)
    (drop (index + 1) (rows_of reg)) =
    subst (λ (n : ℕ). word_from value index (drop index (rows_of reg))
    ≡ field_bits row.width (value index row) * 2 ^ row.shift + word_from value (index + 1) (drop n (rows_of reg)))
    (sym next) left in
    record {
      low = rw (next, past) small;
      rest = omega (arith, far.rest, left');
    }

pub so_far_all : (value : ℕ → Row → ℤ) (rows : List Row) (index word : ℕ) → SoFar value rows index word
    → length rows ≤ index
    → word ≡ word_of value rows
so_far_all value rows index word far h =
    let none : drop index rows ≡ [] = drop_all index rows h in
    let left : word_from value index (drop index rows) ≡ 0 = rw none in
    omega (arith, far.rest, left)

-- no field begins before the bound from which the fields rise
starts_from : (end : ℕ) (rows : List Row) (index : ℕ) (row : Row) → rises end rows ≡ true
    → slice_get rows index ≡ Some row → end ≤ row.shift
starts_from end [] index row up at = cc
starts_from end (first ∷ rows) zero row up at =
    let same : first ≡ row = cc in
    let over = leb-true end first.shift (and_parts (nat_le end first.shift) (rises (first.shift + first.width) rows) up).0 in
    subst (λ (r : Row). end ≤ r.shift) same over
starts_from end (first ∷ rows) (suc index) row up at =
    let parts = and_parts (nat_le end first.shift) (rises (first.shift + first.width) rows) up in
    let over = leb-true end first.shift parts.0 in
    let more = starts_from (first.shift + first.width) rows index row parts.1 at in
    omega arith

-- two words that agree below a bound and in a range from there agree below the range's end
agree_more : (shift width one other : ℕ) → one % 2 ^ shift ≡ other % 2 ^ shift
    → unsigned_field shift width one ≡ unsigned_field shift width other
    → one % 2 ^ (shift + width) ≡ other % 2 ^ (shift + width)
agree_more shift width one other low field =
    rw (add_comm shift width) (mod-pow-add one width shift ∙ rw (field, low) (sym (mod-pow-add other width shift)))

-- two words with the same bits in each field and elsewhere are equal
one_word : (end : ℕ) (rows : List Row) (one other : ℕ) → rises end rows ≡ true → one < 2 ^ 64 → other < 2 ^ 64
    → one % 2 ^ end ≡ other % 2 ^ end
    → ((index : ℕ) (row : Row) → slice_get rows index ≡ Some row → unsigned_field row.shift row.width one
    ≡ unsigned_field row.shift row.width other)
    → ((shift width : ℕ) → end ≤ shift → shift + width ≤ 64 → IsOutside rows shift width
    → unsigned_field shift width one ≡ unsigned_field shift width other)
    → one ≡ other
one_word end [] one other up small small' low fields outside =
    let top : end ≤ 64 = leb-true end 64 up in
    let all : end + (64 - end) ≡ 64 = omega arith in
    let whole =
    agree_more end (64 - end) one other low (outside end (64 - end) (omega arith) (omega arith) (λ index row at. cc)) in
    let whole' = subst (λ (n : ℕ). one % 2 ^ n ≡ other % 2 ^ n) all whole in
    sym (mod-eq_of_lt small) ∙ whole' ∙ mod-eq_of_lt small'
one_word end (row ∷ rows) one other up small small' low fields outside =
    let parts = and_parts (nat_le end row.shift) (rises (row.shift + row.width) rows) up in
    let over : end ≤ row.shift = leb-true end row.shift parts.0 in
    let top : row.shift + row.width ≤ 64 = rises_within (row.shift + row.width) rows parts.1 in
    let gap : end + (row.shift - end) ≡ row.shift = omega arith in
    let level : rises row.shift (row ∷ rows) ≡ true = rw (le-leb row.shift row.shift (omega arith)) parts.1 in
    let before =
    agree_more end (row.shift - end) one other low (outside end (row.shift - end) (omega arith) (omega arith)
    (λ index later at. let from = starts_from row.shift (row ∷ rows) index later level at in inl (omega arith))) in
    let before' = subst (λ (n : ℕ). one % 2 ^ n ≡ other % 2 ^ n) gap before in
    one_word (row.shift + row.width) rows one other parts.1 small small'
    (agree_more row.shift row.width one other before' (fields 0 row refl))
    (λ index later at. fields (suc index) later at)
    (λ shift width h k out. outside shift width (omega arith) k (also_first shift width h out))
  where
    also_first : (shift width : ℕ) → row.shift + row.width ≤ shift → IsOutside rows shift width
        → IsOutside (row ∷ rows) shift width
    also_first shift width h out zero later at =
        let same : row ≡ later = cc in subst (λ (r : Row). Apart r.shift r.width shift width) same (inr h)
    also_first shift width h out (suc index) later at = out index later at

-- the word that fitting values make is the only one with these values in the fields and 0 elsewhere
pub only_one : (reg : SysReg) (value : ℕ → Row → ℤ) (word : ℕ) → ValuesFit value (rows_of reg)
    → IsMadeOf value (rows_of reg) word → word ≡ word_of value (rows_of reg)
only_one reg value word fit made =
    let it = made_of reg value fit in
    one_word 0 (rows_of reg) word (word_of value (rows_of reg)) (rise_of reg) made.within it.within
    (mod-one word ∙ sym (mod-one (word_of value (rows_of reg))))
    (λ index row at. one_number row.signed row.width (unsigned_field row.shift row.width word)
    (unsigned_field row.shift row.width (word_of value (rows_of reg)))
    (row_in_word reg index row at).0 (mod_below (word / 2 ^ row.shift) (2 ^ row.width) (pow_pos row.width))
    (mod_below (word_of value (rows_of reg) / 2 ^ row.shift) (2 ^ row.width) (pow_pos row.width))
    (made.fields index row at ∙ sym (it.fields index row at)))
    (λ shift width h k out. made.others shift width k out ∙ sym (it.others shift width k out))
