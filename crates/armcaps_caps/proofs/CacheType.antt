-- The cache type of cores that don't differ from the boot core: a system's word compares as the boot core's word does.
use Rattle.std.proofs.Common.{◌≡◌, ◌<◌, ℕ, suc, zero, Bool, true, false, not, ◌&&◌, ◌||◌, List, [], ◌∷◌, length, Some, None, slice_get, refl, sym, ◌∙◌, ap, arith}
use Rattle.std.specs.List.{list_any, All}
use Rattle.std.specs.Ordering.{int_eq}
use Rattle.std.proofs.lemmas.Bool.{false≢true, or_parts}
use Rattle.std.proofs.lemmas.List.Folds.{list_any_at}
use Rattle.std.proofs.lemmas.Option.{get_or_from_slice_get, slice_get_within}
use Rattle.armcaps_rule.proofs.Insertion.{by_bool}
use Rattle.armcaps_rule.proofs.Leading.{int_eq_true}
use Rattle.armcaps_enc.specs.declared.register.SysReg.TheVariants.{CtrEl0}
use Rattle.armcaps_tables.specs.Core.{Core, core_word, word_at}
use Rattle.armcaps_tables.specs.Fields.{field_in}
use Rattle.armcaps_tables.specs.Overriding.{FieldOverrides, override_of}
use Rattle.armcaps_tables.specs.Row.{Row as FieldRow}
use Rattle.armcaps_tables.specs.Rows.{rows_of}
use Rattle.armcaps_sanit.specs.System.{field_values, IsSystemOf}
use Rattle.armcaps_sanit.specs.Varying.{row_varies, word_varies}
use Rattle.armcaps_sanit.proofs.SystemFields.{system_field_same}
use Rattle.armcaps_sanit.proofs.SystemWords.{system_field_at}
use Rattle.armcaps_caps.specs.Capabilities.{core_has_capability}
use Rattle.armcaps_caps.proofs.Shared.{core_has_capability-cache}

-- tests that agree at each place of a list agree on the list
list_any-at : (one other : FieldRow → Bool) (rows : List FieldRow)
    → ((index : ℕ) (row : FieldRow) → slice_get rows index ≡ Some row → one row ≡ other row)
    → list_any one rows ≡ list_any other rows
list_any-at one other [] agree = refl
list_any-at one other (row ∷ rows) agree =
    ap (λ b. b || list_any one rows) (agree 0 row refl)
    ∙ ap (λ b. other row || b) (list_any-at one other rows (λ index it at. agree (suc index) it at))

-- no element passes a test that the list doesn't pass
none_passes : (test : FieldRow → Bool) (rows : List FieldRow) (index : ℕ) (row : FieldRow)
    → list_any test rows ≡ false → slice_get rows index ≡ Some row
    → test row ≡ false
none_passes test rows index row none at = by_bool (test row)
    (λ passes.
    absurd (false≢true (sym none ∙ list_any_at test rows index row (slice_get_within rows index row at)
    (ap test (get_or_from_slice_get rows index row row at) ∙ passes))))
    (λ fails. fails)

-- a strict field of a core that doesn't differ has the boot core's value
same_value : (row : FieldRow) (boot other : ℕ) → row.strict ≡ true → row_varies boot other row ≡ false
    → field_in row other ≡ field_in row boot
same_value row boot other strict same =
    by_bool (int_eq (field_in row boot) (field_in row other))
    (λ equal. sym (int_eq_true (field_in row boot) (field_in row other) equal))
    (λ differ.
    let varies : row_varies boot other row
    ≡ true = ap (λ b. b && not (int_eq (field_in row boot) (field_in row other))) strict ∙ ap not differ in
    absurd (false≢true (sym same ∙ varies)))

-- so all of a list have that value
all_same : (row : FieldRow) (index boot : ℕ) (cores : List Core) → slice_get (rows_of CtrEl0) index ≡ Some row
    → row.strict ≡ true
    → list_any (λ core. word_varies CtrEl0 boot (core_word core CtrEl0)) cores ≡ false
    → All (λ value. value ≡ field_in row boot) (field_values cores CtrEl0 row)
all_same row index boot [] at strict none k d within = absurd (omega arith)
all_same row index boot (core ∷ cores) at strict none zero d within =
    same_value row boot (core_word core CtrEl0) strict
    (none_passes (row_varies boot (core_word core CtrEl0)) (rows_of CtrEl0) index row
    (or_parts (word_varies CtrEl0 boot (core_word core CtrEl0))
    (list_any (λ core. word_varies CtrEl0 boot (core_word core CtrEl0)) cores) none).0 at)
all_same row index boot (core ∷ cores) at strict none (suc k) d within =
    all_same row index boot cores at strict
    (or_parts (word_varies CtrEl0 boot (core_word core CtrEl0))
    (list_any (λ core. word_varies CtrEl0 boot (core_word core CtrEl0)) cores) none).1
    k d (omega arith)

-- the word over such cores differs from another word where the boot core's does
word_compares : (overrides : FieldOverrides) (cores : List Core) (words : List ℕ) (boot other : ℕ)
    → IsSystemOf overrides cores words
    → ((index : ℕ) → index < length (rows_of CtrEl0) → override_of overrides CtrEl0 index ≡ None)
    → list_any (λ core. word_varies CtrEl0 boot (core_word core CtrEl0)) cores ≡ false
    → word_varies CtrEl0 (word_at words CtrEl0) other ≡ word_varies CtrEl0 boot other
word_compares overrides cores words boot other stands free none =
    list_any-at (row_varies (word_at words CtrEl0) other) (row_varies boot other) (rows_of CtrEl0) (λ index row at.
    by_bool row.strict
    (λ strict.
    let kept : field_in row (word_at words CtrEl0) ≡ field_in row boot =
    system_field_at overrides cores words CtrEl0 index row stands at
    ∙ system_field_same overrides cores CtrEl0 index row (field_in row boot) (free index (slice_get_within (rows_of CtrEl0) index row at)) stands.some
    (all_same row index boot cores at strict none) in
    ap (λ value. row.strict && not (int_eq value (field_in row other))) kept)
    (λ loose.
    ap (λ b. b && not (int_eq (field_in row (word_at words CtrEl0)) (field_in row other))) loose
    ∙ sym (ap (λ b. b && not (int_eq (field_in row boot) (field_in row other))) loose)))

-- the same of the capability of the cache type
pub cache_type_compares : (overrides : FieldOverrides) (cores : List Core) (words : List ℕ) (boot core : Core)
    → IsSystemOf overrides cores words
    → ((index : ℕ) → index < length (rows_of CtrEl0) → override_of overrides CtrEl0 index ≡ None)
    → list_any (λ other. core_has_capability overrides boot (core_word boot CtrEl0) other 42) cores ≡ false
    → core_has_capability overrides boot (word_at words CtrEl0) core 42
    ≡ core_has_capability overrides boot (core_word boot CtrEl0) core 42
cache_type_compares overrides cores words boot core stands free none =
    core_has_capability-cache overrides boot core (word_at words CtrEl0)
    ∙ word_compares overrides cores words (core_word boot CtrEl0) (core_word core CtrEl0) stands free
    (differ cores none)
    ∙ sym (core_has_capability-cache overrides boot core (core_word boot CtrEl0)) where
      differ : (cores : List Core)
          → list_any (λ other. core_has_capability overrides boot (core_word boot CtrEl0) other 42) cores ≡ false
          → list_any (λ core. word_varies CtrEl0 (core_word boot CtrEl0) (core_word core CtrEl0)) cores ≡ false
      differ [] none = none
      differ (other ∷ cores) none =
          let parts = or_parts (core_has_capability overrides boot (core_word boot CtrEl0) other 42)
          (list_any (λ other. core_has_capability overrides boot (core_word boot CtrEl0) other 42) cores) none in
          ap (λ b. b || list_any (λ core. word_varies CtrEl0 (core_word boot CtrEl0) (core_word core CtrEl0)) cores)
          (sym (core_has_capability-cache overrides boot other (core_word boot CtrEl0)) ∙ parts.0)
          ∙ differ cores parts.1
