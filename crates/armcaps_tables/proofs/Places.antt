-- What the tests of a table say of the rows at its places.
use Rattle.std.proofs.Common.{◌≡◌, ℕ, ◌+◌, ◌<◌, ◌≤◌, suc, zero, Bool, true, false, not, ◌&&◌, ◌||◌, IsTrue, nat_le, List, [], ◌∷◌, Option, Some, None, IfSome, slice_get, sym, ◌∙◌, ap, subst, inl, inr, arith}
use Rattle.std.specs.List.{list_all, list_any}
use Rattle.std.specs.Str.{bytes_eq}
use Rattle.std.proofs.lemmas.Bool.{cases_lt, leb-true, false≢true, and_parts, not-true}
use Rattle.std.proofs.lemmas.Slice.Eq.{bytes_eq-Decides}
use Rattle.armcaps_logic.proofs.Searches.{list_all-item, list_any-item}
use Rattle.armcaps_bits.specs.Field.{IsRange, field_fits}
use Rattle.armcaps_rule.specs.declared.rule.Rule.TheVariants.{HigherOrZero}
use Rattle.armcaps_enc.specs.declared.register.SysReg.{SysReg}
use Rattle.armcaps_tables.specs.Row.{Row}
use Rattle.armcaps_tables.specs.Rows.{rows_of}
use Rattle.armcaps_tables.specs.Facts.{counts_from_zero, rises, row_holds, names_differ}
use Rattle.armcaps_tables.proofs.Tables.{tables}

-- rows that rise from an end leave it within the word
pub rises_within : (end : ℕ) (rows : List Row) → rises end rows ≡ true → end ≤ 64
rises_within end [] rise = leb-true end 64 rise
rises_within end (row ∷ rows) rise =
    let parts : (nat_le end row.shift ≡ true) × (rises (row.shift + row.width) rows ≡ true) =
    and_parts (nat_le end row.shift) (rises (row.shift + row.width) rows) rise in
    omega (arith, leb-true end row.shift parts.0, rises_within (row.shift + row.width) rows parts.1)

-- a row begins at or after the end that came before it, and ends within the word
rises_at : (end : ℕ) (rows : List Row) (i : ℕ) (row : Row) → rises end rows ≡ true → slice_get rows i ≡ Some row
    → (end ≤ row.shift) × (row.shift + row.width ≤ 64)
rises_at end [] i row rise at = cc
rises_at end (first ∷ rows) zero row rise at =
    let parts : (nat_le end first.shift ≡ true) × (rises (first.shift + first.width) rows ≡ true) =
    and_parts (nat_le end first.shift) (rises (first.shift + first.width) rows) rise in
    let same : first ≡ row = cc in
    let At : Row → Type 0 = λ it. (end ≤ it.shift) × (it.shift + it.width ≤ 64) in
    subst At same (leb-true end first.shift parts.0, rises_within (first.shift + first.width) rows parts.1)
rises_at end (first ∷ rows) (suc i) row rise at =
    let parts : (nat_le end first.shift ≡ true) × (rises (first.shift + first.width) rows ≡ true) =
    and_parts (nat_le end first.shift) (rises (first.shift + first.width) rows) rise in
    let later : (first.shift + first.width ≤ row.shift) × (row.shift + row.width ≤ 64) =
    rises_at (first.shift + first.width) rows i row parts.1 at in
    (omega (arith, leb-true end first.shift parts.0), later.1)

-- of two rows, the later begins at or after the end of the earlier
rises_apart : (end : ℕ) (rows : List Row) (i j : ℕ) (one other : Row) → rises end rows ≡ true → i < j
    → slice_get rows i ≡ Some one → slice_get rows j ≡ Some other → one.shift + one.width ≤ other.shift
rises_apart end [] i j one other rise before at later = cc
rises_apart end (first ∷ rows) i zero one other rise before at later = absurd (omega arith)
rises_apart end (first ∷ rows) zero (suc j) one other rise before at later =
    let same : first ≡ one = cc in
    let Apart : Row → Type 0 = λ it. it.shift + it.width ≤ other.shift in
    subst Apart same (rises_at (first.shift + first.width) rows j other
    (and_parts (nat_le end first.shift) (rises (first.shift + first.width) rows) rise).1 later).0
rises_apart end (first ∷ rows) (suc i) (suc j) one other rise before at later =
    rises_apart (first.shift + first.width) rows i j one other
    (and_parts (nat_le end first.shift) (rises (first.shift + first.width) rows) rise).1 (omega arith) at later

-- of two rows, the later has another name
differ_at : (rows : List Row) (i j : ℕ) (one other : Row) → names_differ rows ≡ true → i < j
    → slice_get rows i ≡ Some one → slice_get rows j ≡ Some other → bytes_eq one.name other.name ≡ false
differ_at [] i j one other differ before at later = cc
differ_at (first ∷ rows) i zero one other differ before at later = absurd (omega arith)
differ_at (first ∷ rows) zero (suc j) one other differ before at later =
    let same : first ≡ one = cc in
    let Differ : Row → Type 0 = λ it. bytes_eq it.name other.name ≡ false in
    let named : Row → Bool = λ it. bytes_eq first.name it.name in
    subst Differ same (list_any-item named rows j other
    (not-true (list_any named rows) (and_parts (not (list_any named rows)) (names_differ rows) differ).0) later)
differ_at (first ∷ rows) (suc i) (suc j) one other differ before at later =
    let named : Row → Bool = λ it. bytes_eq first.name it.name in
    differ_at rows i j one other (and_parts (not (list_any named rows)) (names_differ rows) differ).1 (omega arith) at later

-- the three parts of the test
pub rise_of : (reg : SysReg) → rises 0 (rows_of reg) ≡ true
rise_of reg =
    (and_parts (rises 0 (rows_of reg)) (list_all row_holds (rows_of reg))
    (and_parts (rises 0 (rows_of reg) && list_all row_holds (rows_of reg)) (names_differ (rows_of reg)) (tables reg)).0).0

pub hold_of : (reg : SysReg) → list_all row_holds (rows_of reg) ≡ true
hold_of reg =
    (and_parts (rises 0 (rows_of reg)) (list_all row_holds (rows_of reg))
    (and_parts (rises 0 (rows_of reg) && list_all row_holds (rows_of reg)) (names_differ (rows_of reg)) (tables reg)).0).1

names_of : (reg : SysReg) → names_differ (rows_of reg) ≡ true
names_of reg =
    (and_parts (rises 0 (rows_of reg) && list_all row_holds (rows_of reg)) (names_differ (rows_of reg)) (tables reg)).1

-- a test that an implication holds
implied : (a b : Bool) → (not a || not b) ≡ true → a ≡ true → b ≡ false
implied true b h is = not-true b h
implied false b h is = absurd (false≢true is)

-- the parts of the test of a row
pub first_of : (a b c d : Bool) → (a && b && c && d) ≡ true → (a ≡ true) × (b ≡ true) × (c ≡ true) × (d ≡ true)
first_of a b c d h =
    let last : ((a && b && c) ≡ true) × (d ≡ true) = and_parts (a && b && c) d h in
    let third : ((a && b) ≡ true) × (c ≡ true) = and_parts (a && b) c last.0 in
    let two : (a ≡ true) × (b ≡ true) = and_parts a b third.0 in
    (two.0, two.1, third.1, last.1)

parts_of : (reg : SysReg) (i : ℕ) (row : Row) → slice_get (rows_of reg) i ≡ Some row
    → (nat_le 1 row.width ≡ true) × (nat_le row.width 32 ≡ true) × (field_fits row.signed row.width row.safe ≡ true) ×
    ((not (counts_from_zero row.rule) || not row.signed) ≡ true)
parts_of reg i row at =
    first_of (nat_le 1 row.width) (nat_le row.width 32) (field_fits row.signed row.width row.safe)
    (not (counts_from_zero row.rule) || not row.signed) (list_all-item row_holds (rows_of reg) i row (hold_of reg) at)

-- a field of a table is a range of the word
pub row_in_word : (reg : SysReg) (i : ℕ) (row : Row) → slice_get (rows_of reg) i ≡ Some row
    → IsRange row.shift row.width
row_in_word reg i row at =
    let parts : (nat_le 1 row.width ≡ true) × (nat_le row.width 32 ≡ true) ×
    (field_fits row.signed row.width row.safe ≡ true) ×
    ((not (counts_from_zero row.rule) || not row.signed) ≡ true) = parts_of reg i row at in
    (leb-true 1 row.width parts.0, leb-true row.width 32 parts.1, (rises_at 0 (rows_of reg) i row (rise_of reg) at).1)

-- its safe value fits it
pub row_safe : (reg : SysReg) (i : ℕ) (row : Row) → slice_get (rows_of reg) i ≡ Some row
    → IsTrue (field_fits row.signed row.width row.safe)
row_safe reg i row at = (parts_of reg i row at).2

-- it is unsigned where 0 counts less than every other value
pub row_unsigned : (reg : SysReg) (i : ℕ) (row : Row) → slice_get (rows_of reg) i ≡ Some row → row.rule ≡ HigherOrZero
    → row.signed ≡ false
row_unsigned reg i row at is =
    implied (counts_from_zero row.rule) row.signed (parts_of reg i row at).3 (ap counts_from_zero is)

-- of two fields of a table, the later begins at or after the end of the earlier
pub rows_apart : (reg : SysReg) (i j : ℕ) (one other : Row) → i < j → slice_get (rows_of reg) i ≡ Some one
    → slice_get (rows_of reg) j ≡ Some other → one.shift + one.width ≤ other.shift
rows_apart reg i j one other before at later = rises_apart 0 (rows_of reg) i j one other (rise_of reg) before at later

-- two fields of a table with one name are one field
pub one_name : (reg : SysReg) (i j : ℕ) (one other : Row) → slice_get (rows_of reg) i ≡ Some one
    → slice_get (rows_of reg) j ≡ Some other → one.name ≡ other.name → i ≡ j
one_name reg i j one other at later same =
    elim (cases_lt i j) [
      | inl before ↦ absurd (false≢true
          (sym (differ_at (rows_of reg) i j one other (names_of reg) before at later)
          ∙ (bytes_eq-Decides one.name other.name).1 same))
      | inr past ↦ elim (cases_lt j i) [
        | inl before ↦ absurd (false≢true
            (sym (differ_at (rows_of reg) j i other one (names_of reg) before later at)
            ∙ (bytes_eq-Decides other.name one.name).1 (sym same)))
        | inr equal ↦ omega arith
      ]
    ]

-- the same of what is found at a place of a table
pub found_safe : (reg : SysReg) (i : ℕ) (found : Option Row) → found ≡ slice_get (rows_of reg) i
    → IfSome found (λ row. IsTrue (field_fits row.signed row.width row.safe))
found_safe reg i None at = tt
found_safe reg i (Some row) at = row_safe reg i row (sym at)

pub found_unsigned : (reg : SysReg) (i : ℕ) (found : Option Row) → found ≡ slice_get (rows_of reg) i
    → IfSome found (λ row. row.rule ≡ HigherOrZero → row.signed ≡ false)
found_unsigned reg i None at = tt
found_unsigned reg i (Some row) at = row_unsigned reg i row (sym at)
