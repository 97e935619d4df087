-- What the tests of the table of hwcaps say of the rows at its places.
use Rattle.std.proofs.Common.{◌≡◌, ℕ, ◌+◌, ◌<◌, ◌≤◌, suc, zero, Bool, true, false, not, ◌&&◌, nat_le, IsSome, List, [], ◌∷◌, length, Option, Some, None, slice_get, refl, ◌∙◌, ap, subst, inl, inr, arith}
use Rattle.std.specs.List.{list_all}
use Rattle.std.specs.Option.{option_map}
use Rattle.std.proofs.lemmas.Bool.{leb-true, and_parts}
use Rattle.std.proofs.lemmas.Option.{slice_get_cases}
use Rattle.armcaps_logic.proofs.Searches.{list_all-item}
use Rattle.armcaps_rule.proofs.Insertion.{by_bool}
use Rattle.armcaps_tables.specs.Rows.{id_aa64pfr0_rows, id_aa64pfr1_rows, id_aa64zfr0_rows, id_aa64isar0_rows, id_aa64isar1_rows, id_aa64isar2_rows, id_aa64mmfr0_rows, id_aa64mmfr1_rows, id_aa64mmfr2_rows}
use Rattle.armcaps_hwcap.specs.declared.table.Line.{Line}
use Rattle.armcaps_hwcap.specs.Facts.{bits_rise, field_holds, names_differ, row_holds}
use Rattle.armcaps_hwcap.specs.Row.{Row}
use Rattle.armcaps_hwcap.specs.RowOf.{row_of_line}
use Rattle.armcaps_hwcap.specs.Rows.{hwcap_count, hwcap_rows}
use Rattle.armcaps_hwcap.specs.Words.{stands_in}

-- the tests, computed
pub rows_hold : list_all row_holds hwcap_rows ≡ true
unfolding hwcap_rows id_aa64pfr0_rows id_aa64pfr1_rows id_aa64zfr0_rows id_aa64isar0_rows id_aa64isar1_rows id_aa64isar2_rows id_aa64mmfr0_rows id_aa64mmfr1_rows id_aa64mmfr2_rows
rows_hold = refl

pub first_rises : bits_rise false 0 hwcap_rows ≡ true
unfolding hwcap_rows
first_rises = refl

pub second_rises : bits_rise true 0 hwcap_rows ≡ true
unfolding hwcap_rows
second_rises = refl

pub names : names_differ hwcap_rows ≡ true
unfolding hwcap_rows
names = refl

pub all_listed : length hwcap_rows ≡ 57
unfolding hwcap_rows
all_listed = refl

-- the row at a place below 57
pub row_found : (index : ℕ) → index < 57 → (row : Row) × (slice_get hwcap_rows index ≡ Some row)
row_found index within =
    elim (slice_get_cases hwcap_rows index).1 [
      | inl found ↦ (found.0, found.2)
      | inr past ↦ absurd (omega (arith, all_listed, past.0))
    ]

-- a row has at most three fields, and each holds
pub row_at : (index : ℕ) (row : Row) → slice_get hwcap_rows index ≡ Some row
    → (list_all field_holds row.fields ≡ true) × (length row.fields ≤ 3)
row_at index row at =
    let parts = and_parts (list_all field_holds row.fields) (nat_le (length row.fields) 3)
    (list_all-item row_holds hwcap_rows index row rows_hold at) in
    (parts.0, leb-true (length row.fields) 3 parts.1)

-- the rows of a word after the first have bits past the first one's
pub rises_step : (second : Bool) (least : ℕ) (row : Row) (rows : List Row)
    → bits_rise second least (row ∷ rows) ≡ true → stands_in second row ≡ true
    → (least ≤ row.bit) × (bits_rise second (row.bit + 1) rows ≡ true)
rises_step second least row rows rise is =
    let step : (nat_le least row.bit && bits_rise second (row.bit + 1) rows) ≡ true = rw is at rise in
    let parts = and_parts (nat_le least row.bit) (bits_rise second (row.bit + 1) rows) step in
    (leb-true least row.bit parts.0, parts.1)

pub rises_skip : (second : Bool) (least : ℕ) (row : Row) (rows : List Row)
    → bits_rise second least (row ∷ rows) ≡ true → stands_in second row ≡ false
    → bits_rise second least rows ≡ true
rises_skip second least row rows rise is = rw is at rise

-- what the bits of a word's rows rise to
rises_within : (second : Bool) (least : ℕ) (rows : List Row) → bits_rise second least rows ≡ true → least ≤ 64
rises_within second least [] rise = leb-true least 64 rise
rises_within second least (row ∷ rows) rise =
    by_bool (stands_in second row)
    (λ is.
    let step = rises_step second least row rows rise is in
    omega (arith, step.0, rises_within second (row.bit + 1) rows step.1))
    (λ is. rises_within second least rows (rises_skip second least row rows rise is))

-- the bit of a row of the word is below 64
rises_below : (second : Bool) (least : ℕ) (rows : List Row) (index : ℕ) (row : Row) → bits_rise second least rows ≡ true
    → slice_get rows index ≡ Some row → stands_in second row ≡ true → row.bit < 64
rises_below second least [] index row rise at is = absurd (cc)
rises_below second least (first ∷ rows) zero row rise at is =
    let same : first ≡ row = cc in
    let its : stands_in second first ≡ true = ap (stands_in second) same ∙ is in
    let Below : Row → Type 0 = λ it. it.bit < 64 in
    let step = rises_step second least first rows rise its in
    subst Below same (omega (arith, rises_within second (first.bit + 1) rows step.1))
rises_below second least (first ∷ rows) (suc index) row rise at is =
    by_bool (stands_in second first)
    (λ its. rises_below second (first.bit + 1) rows index row (rises_step second least first rows rise its).1 at is)
    (λ its. rises_below second least rows index row (rises_skip second least first rows rise its) at is)

pub bit_below : (index : ℕ) (row : Row) → slice_get hwcap_rows index ≡ Some row → row.bit < 64
bit_below index row at =
    by_bool row.second
    (λ is. rises_below true 0 hwcap_rows index row second_rises at is)
    (λ is. rises_below false 0 hwcap_rows index row first_rises at (ap not is))

-- there is a line where there is a row
pub line_found : (index : ℕ) (found : Option Line) → index < hwcap_count
    → option_map row_of_line found ≡ slice_get hwcap_rows index → IsSome found
line_found index None within same = let row = row_found index within in absurd (cc (row.1))
line_found index (Some line) within same = refl
