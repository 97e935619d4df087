-- Hwcaps by other values of the same fields: a system's words and the cores that it stands for agree, and what all
-- cores together show each of them shows.
use Rattle.std.proofs.Common.{◌≡◌, ℕ, ◌^◌, Bool, true, false, ◌&&◌, ◌||◌, List, [], ◌∷◌, ◌++◌, sum_by, cond, Option, Some, None, slice_get, refl, sym, ◌∙◌, ap, arith}
use Rattle.std.specs.Prelude.{ℤ, int_le}
use Rattle.std.specs.List.{enumerate_from, list_all, list_any}
use Rattle.std.specs.Option.{option_map_or}
use Rattle.std.proofs.lemmas.List.Sums.{sum_by-cons}
use Rattle.std.proofs.lemmas.Bool.{and_parts}
use Rattle.std.proofs.Math.Bool.{or-true}
use Rattle.armcaps_rule.proofs.Insertion.{by_bool}
use Rattle.armcaps_enc.specs.declared.register.SysReg.{SysReg}
use Rattle.armcaps_tables.specs.Core.{Core}
use Rattle.armcaps_tables.specs.Row.{Row as FieldRow}
use Rattle.armcaps_tables.specs.Rows.{rows_of}
use Rattle.armcaps_sanit.specs.Reaching.{row_keeps, word_values}
use Rattle.armcaps_tables.specs.Overriding.{FieldOverrides}
use Rattle.armcaps_sanit.specs.System.{local_field, system_field, IsSystemOf}
use Rattle.armcaps_sanit.proofs.Reaching.{field_passes-same, local_keeps}
use Rattle.armcaps_sanit.proofs.SystemWords.{system_field_at}
use Rattle.armcaps_hwcap.specs.declared.hw_set.HwSet.{HwSet}
use Rattle.armcaps_hwcap.specs.declared.row.HwField.{HwField}
use Rattle.armcaps_hwcap.specs.Facts.{field_holds}
use Rattle.armcaps_hwcap.specs.Hwcaps.{core_has_hwcap, hwcap_over, hwcap_shows, row_shows, shows, system_has_hwcap}
use Rattle.armcaps_hwcap.specs.Row.{Row}
use Rattle.armcaps_hwcap.specs.Rows.{hwcap_rows}
use Rattle.armcaps_hwcap.specs.Words.{bits_of, hwcap2_word, hwcap_word, stands_in, IsAdvertised}
use Rattle.armcaps_hwcap.proofs.Listing.{row_at}
use Rattle.armcaps_hwcap.proofs.Sums.{part}

-- tests that agree at each element agree on the list
list_any-same : (one other : HwField → Bool) → ((field : HwField) → one field ≡ other field) → (fields : List HwField)
    → list_any one fields ≡ list_any other fields
list_any-same one other agree [] = refl
list_any-same one other agree (field ∷ fields) =
    ap (λ b. b || list_any one fields) (agree field) ∙ ap (λ b. other field || b) (list_any-same one other agree fields)

-- a test of one element that implies another, where a third holds of all
list_any-more : (holds one other : HwField → Bool)
    → ((field : HwField) → holds field ≡ true → one field ≡ true → other field ≡ true)
    → (fields : List HwField) → list_all holds fields ≡ true → list_any one fields ≡ true → list_any other fields ≡ true
list_any-more holds one other implies [] all passes = passes
list_any-more holds one other implies (field ∷ fields) all passes =
    let parts = and_parts (holds field) (list_all holds fields) all in
    by_bool (one field)
    (λ is. ap (λ b. b || list_any other fields) (implies field parts.0 is))
    (λ is.
    let later : list_any one fields ≡ true = ap (λ b. b || list_any one fields) (sym is) ∙ passes in
    ap (λ b. other field || b) (list_any-more holds one other implies fields parts.1 later)
    ∙ or-true (other field))

-- two ways to tell the values of fields
abbrev Values : Type 0
Values = SysReg → ℕ → FieldRow → ℤ

abbrev Agree : Values → Values → Type 0
Agree one other = (reg : SysReg) (index : ℕ) (row : FieldRow) → slice_get (rows_of reg) index ≡ Some row
    → one reg index row ≡ other reg index row

-- where they agree, they show the same hwcaps
pub hwcap_shows-same : (one other : Values) → Agree one other → (index : ℕ)
    → hwcap_shows one index ≡ hwcap_shows other index
unfolding hwcap_shows
hwcap_shows-same one other agree index = at (slice_get hwcap_rows index) where
  at : (listed : Option Row) → option_map_or (row_shows one) listed false ≡ option_map_or (row_shows other) listed false
  at None = refl
  at (Some row) = ap (λ b. row.always || b) (list_any-same (shows one) (shows other)
      (λ field. field_passes-same _ _ field.reg field.index (λ it is. ap (λ v. it.visible
      && int_le field.min v) (agree field.reg field.index it is))) row.fields)

-- the same words come of tests that agree
pub bits_of-same : (second : Bool) (one other : ℕ → Bool) → ((index : ℕ) → one index ≡ other index)
    → bits_of second one ≡ bits_of second other
unfolding bits_of
bits_of-same second one other agree = at (enumerate_from 0 hwcap_rows) where
  at : (items : List (ℕ × Row)) → sum_by (part second one) items ≡ sum_by (part second other) items
  at [] = refl
  at (item ∷ items) =
      let own : part second one item
      ≡ part second other item = ap (λ b. cond (stands_in second item.1 && b) (2 ^ item.1.bit) 0) (agree item.0) in
      omega (arith, sum_by-cons (part second one) item items, sum_by-cons (part second other) item items, own, at items)

-- a hwcap that is advertised by a system's words is advertised over the cores that it stands for, and the other way
-- round
pub system_has_hwcap-over : (overrides : FieldOverrides) (cores : List Core) (words : List ℕ) (index : ℕ)
    → IsSystemOf overrides cores words → system_has_hwcap words index ≡ hwcap_over overrides cores index
system_has_hwcap-over overrides cores words index stands =
    hwcap_shows-same (word_values words) (system_field overrides cores)
    (λ reg place row at. system_field_at overrides cores words reg place row stands at) index

pub is_advertised : (overrides : FieldOverrides) (cores : List Core) (words : List ℕ) (set : HwSet)
    → IsSystemOf overrides cores words → set.hwcap ≡ hwcap_word (system_has_hwcap words)
    → set.hwcap2 ≡ hwcap2_word (system_has_hwcap words)
    → IsAdvertised overrides cores set
is_advertised overrides cores words set stands first second = record {
  hwcap = first
      ∙ bits_of-same false (system_has_hwcap words) (hwcap_over overrides cores)
      (λ index. system_has_hwcap-over overrides cores words index stands);
  hwcap2 = second
      ∙ bits_of-same true (system_has_hwcap words) (hwcap_over overrides cores)
      (λ index. system_has_hwcap-over overrides cores words index stands);
}

-- a hwcap that is advertised over some cores each of them has
pub hwcap_over-each : (overrides : FieldOverrides) (before after : List Core) (core : Core) (index : ℕ)
    → hwcap_over overrides (before ++ core ∷ after) index ≡ true → core_has_hwcap overrides core index ≡ true
unfolding hwcap_shows
hwcap_over-each overrides before after core index = at (slice_get hwcap_rows index) refl where
  one : (field : HwField) → field_holds field ≡ true
      → shows (system_field overrides (before ++ core ∷ after)) field ≡ true
      → shows (local_field overrides core) field ≡ true
  one field holds shown = at_field (slice_get (rows_of field.reg) field.index) holds shown where
    at_field : (listed : Option FieldRow)
        → option_map_or (λ row. row.visible && row_keeps field.min row) listed false ≡ true
        → option_map_or (λ row. row.visible
        && int_le field.min (system_field overrides (before ++ core ∷ after) field.reg field.index row)) listed
        false ≡ true
        → option_map_or (λ row. row.visible
        && int_le field.min (local_field overrides core field.reg field.index row)) listed false ≡ true
    at_field None holds shown = shown
    at_field (Some row) holds shown =
        let kept = and_parts row.visible (row_keeps field.min row) holds in
        let seen = and_parts row.visible
        (int_le field.min (system_field overrides (before ++ core ∷ after) field.reg field.index row)) shown in
        ap (λ b. b && int_le field.min (local_field overrides core field.reg field.index row)) kept.0
        ∙ local_keeps overrides before after core field.reg field.index row field.min kept.1 seen.1

  at : (listed : Option Row) → slice_get hwcap_rows index ≡ listed
      → option_map_or (row_shows (system_field overrides (before ++ core ∷ after))) listed false ≡ true
      → option_map_or (row_shows (local_field overrides core)) listed false ≡ true
  at None is shown = shown
  at (Some row) is shown = by_bool row.always
      (λ all. ap (λ b. b || list_any (shows (local_field overrides core)) row.fields) all)
      (λ not_all.
      let some : list_any (shows (system_field overrides (before ++ core ∷ after))) row.fields ≡ true =
      ap (λ b. b || list_any (shows (system_field overrides (before ++ core ∷ after))) row.fields) (sym not_all)
      ∙ shown in
      ap (λ b. b || list_any (shows (local_field overrides core)) row.fields) not_all
      ∙ list_any-more field_holds (shows (system_field overrides (before ++ core ∷ after)))
      (shows (local_field overrides core)) one row.fields (row_at index row is).0 some)

-- the same, by the words of a system
pub system_has_hwcap-each : (overrides : FieldOverrides) (before after : List Core) (words : List ℕ) (core : Core)
    (index : ℕ)
    → IsSystemOf overrides (before ++ core ∷ after) words → system_has_hwcap words index ≡ true
    → core_has_hwcap overrides core index ≡ true
system_has_hwcap-each overrides before after words core index stands has =
    hwcap_over-each overrides before after core index
    (sym (system_has_hwcap-over overrides (before ++ core ∷ after) words index stands) ∙ has)
