-- What holds of every table of fields, as tests that compute.
use Rattle.std.specs.Prelude.{ℕ, ◌+◌, Bool, true, false, not, ◌&&◌, ◌||◌, List, [], ◌∷◌, nat_le}
use Rattle.std.specs.List.{list_all, list_any}
use Rattle.std.specs.Str.{bytes_eq}
use Rattle.armcaps_rule.specs.declared.rule.Rule.{Rule}
use Rattle.armcaps_rule.specs.declared.rule.Rule.TheVariants.{HigherOrZero}
use Rattle.armcaps_bits.specs.Field.{field_fits}
use Rattle.armcaps_tables.specs.Row.{Row}

-- whether 0 means that a core has nothing of the field, whatever more the others have
abbrev pub counts_from_zero : Rule → Bool
counts_from_zero HigherOrZero = true
counts_from_zero _ = false

-- a field has 1 to 32 bits, its safe value fits them, and it is unsigned where 0 is below every other value
abbrev pub row_holds : Row → Bool
row_holds row =
    nat_le 1 row.width && nat_le row.width 32 && field_fits row.signed row.width row.safe &&
    (not (counts_from_zero row.rule) || not row.signed)

-- each field begins at or after the end of the one before, the first at or after `end`, and the last ends within 64
-- bits: so no two have a bit in common
abbrev pub rises : ℕ → List Row → Bool
rises end [] = nat_le end 64
rises end (row ∷ rows) = nat_le end row.shift && rises (row.shift + row.width) rows

-- no two fields have one name
abbrev pub names_differ : List Row → Bool
names_differ [] = true
names_differ (row ∷ rows) = not (list_any (λ other. bytes_eq row.name other.name) rows) && names_differ rows

-- what holds of the fields of each register
abbrev pub table_holds : List Row → Bool
table_holds rows = rises 0 rows && list_all row_holds rows && names_differ rows

-- whether a field has the name
abbrev pub has_name : List ℕ → Row → Bool
has_name name row = bytes_eq row.name name
