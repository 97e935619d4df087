-- Which tests of a field hold of each core where they hold of all cores together, and of the words of a system where
-- they hold of the cores that it stands for.
use Rattle.std.proofs.Common.{◌≡◌, ℕ, ◌<◌, Bool, true, false, cond, List, [], ◌∷◌, ◌++◌, length, map, Option, Some, None, slice_get, refl, sym, ◌∙◌, ap, arith, length-append}
use Rattle.std.specs.Prelude.{ℤ, int_le, int_lt}
use Rattle.std.specs.Int.{int_min}
use Rattle.std.specs.Ordering.{int_eq}
use Rattle.std.specs.Option.{option_map_or}
use Rattle.std.proofs.lemmas.Bool.{false≢true}
use Rattle.std.proofs.lemmas.Int.{ints}
use Rattle.std.proofs.lemmas.List.{map-append}
use Rattle.armcaps_rule.specs.declared.rule.Rule.{Rule}
use Rattle.armcaps_rule.specs.declared.rule.Rule.TheVariants.{Exact, Lower, Higher, HigherOrZero}
use Rattle.armcaps_rule.specs.Rule.{forced_of, merged}
use Rattle.armcaps_rule.proofs.Insertion.{by_bool}
use Rattle.armcaps_rule.proofs.Merging.{merge_lower, merged_exact}
use Rattle.armcaps_rule.proofs.Overrides.{forced_insert}
use Rattle.armcaps_enc.specs.declared.register.SysReg.{SysReg}
use Rattle.armcaps_tables.specs.Core.{Core, core_word}
use Rattle.armcaps_tables.specs.Fields.{field_in}
use Rattle.armcaps_tables.specs.Overriding.{FieldOverrides, override_of}
use Rattle.armcaps_tables.specs.Row.{Row}
use Rattle.armcaps_tables.specs.Rows.{rows_of}
use Rattle.armcaps_sanit.specs.System.{local_field, system_field}
use Rattle.armcaps_sanit.specs.Reaching.{field_passes, row_keeps, rule_keeps}

-- with a rule that keeps the minimum, a merged value is at least the minimum only where the value before was
lower_keeps : (minimum m x : ℤ) → int_le minimum (int_min m x) ≡ true → int_le minimum m ≡ true
lower_keeps minimum m x reaches = grind (arith, ints)

below_fails : (minimum safe : ℤ) → int_lt safe minimum ≡ true → int_le minimum safe ≡ true → ⊥
below_fails minimum safe below reaches = grind (arith, ints)

merged_keeps : (rule : Rule) (safe minimum m x : ℤ) → rule_keeps rule (int_lt safe minimum) ≡ true
    → int_le minimum (merged rule safe m x) ≡ true
    → int_le minimum m ≡ true
merged_keeps Lower safe minimum m x keeps reaches =
    lower_keeps minimum m x (ap (int_le minimum) (merge_lower Lower safe m x (int_min m x) refl refl) ∙ reaches)
merged_keeps Exact safe minimum m x keeps reaches =
    let either : int_le minimum (cond (int_eq m x) m safe) ≡ true = ap (int_le minimum) (sym (merged_exact safe m x))
    ∙ reaches in
    by_bool (int_eq m x)
    (λ same. ap (λ b. int_le minimum (cond b m safe)) (sym same) ∙ either)
    (λ differ. absurd (below_fails minimum safe keeps (ap (λ b. int_le minimum (cond b m safe)) (sym differ) ∙ either)))
merged_keeps Higher safe minimum m x keeps reaches = absurd (false≢true keeps)
merged_keeps HigherOrZero safe minimum m x keeps reaches = absurd (false≢true keeps)

-- so the values of all are at least the minimum only where each alone is
forced_before : (rule : Rule) (safe minimum : ℤ) (override : Option ℤ) (before after : List ℤ) (x : ℤ)
    → rule_keeps rule (int_lt safe minimum) ≡ true
    → int_le minimum (forced_of rule safe override (before ++ x ∷ after)) ≡ true
    → int_le minimum (forced_of rule safe override (x ∷ after)) ≡ true
forced_before rule safe minimum override [] after x keeps reaches = reaches
forced_before rule safe minimum override (b ∷ before) after x keeps reaches =
    let some : 0 < length (before ++ x ∷ after) = omega (arith, length-append before (x ∷ after)) in
    let one = forced_insert rule safe override [] (before ++ x ∷ after) b some in
    forced_before rule safe minimum override before after x keeps
    (merged_keeps rule safe minimum (forced_of rule safe override (before ++ x ∷ after)) b keeps
    (ap (int_le minimum) (sym one) ∙ reaches))

forced_after : (rule : Rule) (safe minimum : ℤ) (override : Option ℤ) (after : List ℤ) (x : ℤ)
    → rule_keeps rule (int_lt safe minimum) ≡ true
    → int_le minimum (forced_of rule safe override (x ∷ after)) ≡ true
    → int_le minimum (forced_of rule safe override (x ∷ [])) ≡ true
forced_after rule safe minimum override [] x keeps reaches = reaches
forced_after rule safe minimum override (a ∷ after) x keeps reaches =
    let one = forced_insert rule safe override (x ∷ []) after a (omega arith) in
    forced_after rule safe minimum override after x keeps
    (merged_keeps rule safe minimum (forced_of rule safe override (x ∷ after)) a keeps (ap (int_le minimum) (sym one)
    ∙ reaches))

pub forced_keeps : (rule : Rule) (safe minimum : ℤ) (override : Option ℤ) (before after : List ℤ) (x : ℤ)
    → rule_keeps rule (int_lt safe minimum) ≡ true
    → int_le minimum (forced_of rule safe override (before ++ x ∷ after)) ≡ true
    → int_le minimum (forced_of rule safe override (x ∷ [])) ≡ true
forced_keeps rule safe minimum override before after x keeps reaches =
    forced_after rule safe minimum override after x keeps
    (forced_before rule safe minimum override before after x keeps reaches)

-- two tests that agree at the field agree
pub field_passes-same : (one other : Row → Bool) (reg : SysReg) (index : ℕ)
    → ((row : Row) → slice_get (rows_of reg) index ≡ Some row → one row ≡ other row)
    → field_passes one reg index ≡ field_passes other reg index
field_passes-same one other reg index agree = at (slice_get (rows_of reg) index) refl where
  at : (listed : Option Row) → slice_get (rows_of reg) index ≡ listed
      → option_map_or one listed false ≡ option_map_or other listed false
  at None is = refl
  at (Some row) is = agree row is

-- a test that holds of a field implies another that it implies at the row
pub field_passes-more : (one other : Row → Bool) (reg : SysReg) (index : ℕ)
    → ((row : Row) → slice_get (rows_of reg) index ≡ Some row → one row ≡ true → other row ≡ true)
    → field_passes one reg index ≡ true → field_passes other reg index ≡ true
field_passes-more one other reg index implies = at (slice_get (rows_of reg) index) refl where
  at : (listed : Option Row) → slice_get (rows_of reg) index ≡ listed → option_map_or one listed false ≡ true
      → option_map_or other listed false ≡ true
  at None is passes = passes
  at (Some row) is passes = implies row is passes

-- the value over some cores is at least a minimum that the row keeps only where each of these cores' is
pub local_keeps : (overrides : FieldOverrides) (before after : List Core) (core : Core) (reg : SysReg) (index : ℕ)
    (row : Row) (minimum : ℤ)
    → row_keeps minimum row ≡ true
    → int_le minimum (system_field overrides (before ++ core ∷ after) reg index row) ≡ true
    → int_le minimum (local_field overrides core reg index row) ≡ true
local_keeps overrides before after core reg index row minimum keeps reaches =
    let value : Core → ℤ = λ it. field_in row (core_word it reg) in
    forced_keeps row.rule row.safe minimum (override_of overrides reg index) (map value before) (map value after)
    (value core) keeps
    (ap (λ values. int_le minimum (forced_of row.rule row.safe (override_of overrides reg index) values))
    (sym (map-append value before (core ∷ after))) ∙ reaches)
