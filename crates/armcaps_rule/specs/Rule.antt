-- The four rules by which the values that cores have of one field become the value that all of them keep
-- (Linux, arch/arm64/include/asm/cpufeature.h, `enum ftr_type`).
use Rattle.std.specs.Prelude.{ℤ, pos, Bool, if◌then◌else◌, List, [], ◌∷◌, Option, Some, None, find, unwrap_or, int_le}
use Rattle.std.specs.List.{list_all, list_any}
use Rattle.std.specs.Ordering.{int_eq}
use Rattle.armcaps_rule.specs.declared.rule.Rule.{Rule}
use Rattle.armcaps_rule.specs.declared.rule.Rule.TheVariants.{Exact, Lower, Higher, HigherOrZero}

-- the value of the list that passes the test against each value of the list
abbrev pub leading : (ℤ → ℤ → Bool) → List ℤ → Option ℤ
leading test values = find (λ value. list_all (test value) values) values

-- the value that all have, if they are all equal
abbrev pub common : List ℤ → Option ℤ
common values = leading int_eq values

-- the least value
abbrev pub least : List ℤ → Option ℤ
least values = leading int_le values

-- the greatest value
abbrev pub greatest : List ℤ → Option ℤ
greatest values = leading (λ a b. int_le b a) values

-- the one value for a list that isn't empty: the common value or else the safe one, the least, the greatest,
-- or 0 if 0 occurs and else the greatest (Linux, `arm64_ftr_safe_value`)
unfoldable pub fold_of : Rule → ℤ → List ℤ → ℤ
fold_of Exact safe values = unwrap_or (common values) safe
fold_of Lower safe values = unwrap_or (least values) safe
fold_of Higher safe values = unwrap_or (greatest values) safe
fold_of HigherOrZero safe values =
    if list_any (int_eq (pos 0)) values then pos 0 else unwrap_or (greatest values) safe

-- the one value for two
abbrev pub merged : Rule → ℤ → ℤ → ℤ → ℤ
merged rule safe current other = fold_of rule safe (current ∷ other ∷ [])

-- the one value under an override from the command line: an Exact field takes only its safe value from there, and
-- with any other rule the override counts as one more value (Linux, `init_cpu_ftr_reg`)
unfoldable pub forced_of : Rule → ℤ → Option ℤ → List ℤ → ℤ
forced_of rule safe None values = fold_of rule safe values
forced_of Exact safe (Some override) values = if int_eq override safe then safe else fold_of Exact safe values
forced_of rule safe (Some override) values = fold_of rule safe (override ∷ values)
