-- The value of a field override some cores: that the field can have it, and what one more core changes.
use Rattle.std.proofs.Common.{◌≡◌, ℕ, ◌<◌, Bool, IsTrue, List, [], ◌∷◌, ◌++◌, Option, Some, None, slice_get, length, sym, ◌∙◌, ap, subst, arith}
use Rattle.std.specs.Prelude.{ℤ, All, IfSome}
use Rattle.std.proofs.lemmas.List.{map-append, length-map}
use Rattle.std.specs.Ordering.{int_eq}
use Rattle.armcaps_tables.proofs.MergedWords.{field_in_fits}
use Rattle.armcaps_tables.proofs.MergedFields.{merged_passes}
use Rattle.armcaps_rule.specs.declared.rule.Rule.{Rule}
use Rattle.armcaps_rule.specs.declared.rule.Rule.TheVariants.{Exact, Lower, Higher, HigherOrZero}
use Rattle.armcaps_rule.specs.Rule.{merged, forced_of}
use Rattle.armcaps_rule.proofs.Merging.{eq_not_false, fold_one, fold_front, fold_same}
use Rattle.armcaps_rule.proofs.Insertion.{by_bool}
use Rattle.armcaps_rule.proofs.Leading.{int_eq_true}
use Rattle.armcaps_rule.proofs.Overrides.{forced_again, forced_insert, forced_none, forced_more, forced_exact_safe, forced_exact_other}
use Rattle.armcaps_enc.specs.declared.register.SysReg.{SysReg}
use Rattle.armcaps_tables.specs.Row.{Row}
use Rattle.armcaps_tables.specs.Rows.{rows_of}
use Rattle.armcaps_tables.specs.Core.{Core, core_word}
use Rattle.armcaps_tables.specs.Fields.{field_in, value_fits, ValuesFit}
use Rattle.armcaps_tables.specs.Overriding.{override_of, override_fits, AllFit, FieldOverrides}
use Rattle.armcaps_tables.proofs.Places.{row_safe, row_in_word}
use Rattle.armcaps_sanit.specs.System.{field_values, local_field, system_field}

forced_two_passes : (test : ℤ → Bool) (rule : Rule) (safe override v : ℤ) → IsTrue (test safe) → IsTrue (test override) → IsTrue (test v) → (rule ≡ Exact → ⊥)
    → IsTrue (test (forced_of rule safe (Some override) (v ∷ [])))
forced_two_passes test rule safe override v s o p ne =
    let is : forced_of rule safe (Some override) (v ∷ []) ≡ merged rule safe v override =
    forced_more rule safe override (v ∷ []) ne ∙ fold_front rule safe (v ∷ []) override (omega arith) ∙ ap (λ w. merged rule safe w override) (fold_one rule safe v) in
    subst (λ z. IsTrue (test z)) (sym is) (merged_passes test rule safe v override s p o)

-- one value under an override
forced_one_passes : (test : ℤ → Bool) (rule : Rule) (safe : ℤ) (override : Option ℤ) (v : ℤ) → IsTrue (test safe)
    → IfSome override (λ value. IsTrue (test value)) → IsTrue (test v) → IsTrue (test (forced_of rule safe override (v ∷ [])))
forced_one_passes test rule safe None v s o p =
    subst (λ z. IsTrue (test z)) (sym (forced_none rule safe (v ∷ []) ∙ fold_one rule safe v)) p
forced_one_passes test Exact safe (Some override) v s o p = by_bool (int_eq override safe)
    (λ e. subst (λ z. IsTrue (test z)) (sym (forced_exact_safe safe override (v ∷ []) (int_eq_true override safe e))) s)
    (λ e. subst (λ z. IsTrue (test z)) (sym (forced_exact_other safe override (v ∷ []) (λ same. eq_not_false override safe same e) ∙ fold_one Exact safe v)) p)
forced_one_passes test Lower safe (Some override) v s o p = forced_two_passes test Lower safe override v s o p (λ e. cc)
forced_one_passes test Higher safe (Some override) v s o p = forced_two_passes test Higher safe override v s o p (λ e. cc)
forced_one_passes test HigherOrZero safe (Some override) v s o p = forced_two_passes test HigherOrZero safe override v s o p (λ e. cc)

override_passes : (row : Row) (override : Option ℤ) → IsTrue (override_fits row override) → IfSome override (λ value. IsTrue (value_fits row value))
override_passes row None h = tt
override_passes row (Some value) h = h

-- the value that a core's field counts as is one that the field can have
pub local_field_fits : (overrides : FieldOverrides) (core : Core) (reg : SysReg) (index : ℕ) (row : Row)
    → slice_get (rows_of reg) index ≡ Some row → IsTrue (override_fits row (override_of overrides reg index))
    → IsTrue (value_fits row (local_field overrides core reg index row))
local_field_fits overrides core reg index row at fit =
    forced_one_passes (value_fits row) row.rule row.safe (override_of overrides reg index) (field_in row (core_word core reg))
    (row_safe reg index row at) (override_passes row (override_of overrides reg index) fit)
    (field_in_fits row (core_word core reg) (row_in_word reg index row at).0)

-- the value override some cores is one that the field can have
pub system_field_fits : (overrides : FieldOverrides) → AllFit overrides → (cores : List Core) → 0 < length cores
    → (reg : SysReg) → ValuesFit (system_field overrides cores reg) (rows_of reg)
system_field_fits overrides fit [] some reg index row at = absurd (omega arith)
system_field_fits overrides fit (core ∷ []) some reg index row at =
    local_field_fits overrides core reg index row at (fit reg index row at)
system_field_fits overrides fit (core ∷ next ∷ cores) some reg index row at =
    let some_bits = (row_in_word reg index row at).0 in
    let more = system_field_fits overrides fit (next ∷ cores) (omega arith) reg index row at in
    subst (λ z. IsTrue (value_fits row z))
    (sym (forced_insert row.rule row.safe (override_of overrides reg index) [] (field_values (next ∷ cores) reg row)
    (field_in row (core_word core reg)) (omega arith)))
    (merged_passes (value_fits row) row.rule row.safe (system_field overrides (next ∷ cores) reg index row)
    (field_in row (core_word core reg)) (row_safe reg index row at) more (field_in_fits row (core_word core reg) some_bits))

-- the field override some cores, after one more core, wherever it belongs
pub system_field_insert : (overrides : FieldOverrides) (before after : List Core) (core : Core) (reg : SysReg) (index : ℕ) (row : Row)
    → 0 < length (before ++ after)
    → system_field overrides (before ++ core ∷ after) reg index row
    ≡ merged row.rule row.safe (system_field overrides (before ++ after) reg index row) (field_in row (core_word core reg))
system_field_insert overrides before after core reg index row some =
    let value : Core → ℤ = λ c. field_in row (core_word c reg) in
    let override = override_of overrides reg index in
    let longer = map-append (λ (c : Core). field_in row (core_word c reg)) before (core ∷ after) in
    let shorter = map-append (λ (c : Core). field_in row (core_word c reg)) before after in
    ap (forced_of row.rule row.safe (override_of overrides reg index)) longer
    ∙ forced_insert row.rule row.safe (override_of overrides reg index) (field_values before reg row) (field_values after reg row)
    (field_in row (core_word core reg))
    (omega (arith, ap length shorter, length-map (before ++ after) (λ (c : Core). field_in row (core_word c reg))))
    ∙ ap (λ values. merged row.rule row.safe (forced_of row.rule row.safe (override_of overrides reg index) values) (field_in row (core_word core reg))) (sym shorter)

-- the field override some cores, merged with the value of one that is among them
pub system_field_again : (overrides : FieldOverrides) (before after : List Core) (core : Core) (reg : SysReg) (index : ℕ)
    (row : Row)
    → merged row.rule row.safe (system_field overrides (before ++ core ∷ after) reg index row) (field_in row (core_word core reg))
    ≡ system_field overrides (before ++ core ∷ after) reg index row
system_field_again overrides before after core reg index row =
    let all = map-append (λ (c : Core). field_in row (core_word c reg)) before (core ∷ after) in
    rw all (forced_again row.rule row.safe (override_of overrides reg index) (field_values before reg row)
    (field_values after reg row) (field_in row (core_word core reg)))

-- where all cores have one value and no override stands in, the field has it
pub system_field_same : (overrides : FieldOverrides) (cores : List Core) (reg : SysReg) (index : ℕ) (row : Row) (value : ℤ)
    → override_of overrides reg index ≡ None → 0 < length cores → All (λ v. v ≡ value) (field_values cores reg row)
    → system_field overrides cores reg index row ≡ value
system_field_same overrides cores reg index row value none some all =
    rw (none, forced_none row.rule row.safe (field_values cores reg row))
    (fold_same row.rule row.safe (field_values cores reg row) value
    (omega (arith, length-map cores (λ (c : Core). field_in row (core_word c reg)))) all)
