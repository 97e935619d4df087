-- The capability that has a name.
use Rattle.std.proofs.Common.{◌≡◌, ℕ, ◌<◌, true, List, [], get_or, Some, slice_get, sym, ◌∙◌, ap, arith}
use Rattle.std.specs.Option.{option_map_or}
use Rattle.std.specs.Str.{bytes_eq}
use Rattle.std.proofs.lemmas.List.Quantifiers.{position-Some}
use Rattle.std.proofs.lemmas.Option.{get_or_from_slice_get}
use Rattle.std.proofs.lemmas.Slice.Eq.{bytes_eq-Decides}
use Rattle.armcaps_caps.specs.Row.{Row}
use Rattle.armcaps_caps.specs.Rows.{capability_rows}
use Rattle.armcaps_caps.specs.Capabilities.{capability_name, capability_named}
use Rattle.armcaps_caps.specs.Facts.{has_name}
use Rattle.armcaps_caps.proofs.Listing.{all_listed, row_found}

-- a row that has the name, by its number
pub named_at : (name : List ℕ) (number : ℕ) → number < 53
    → ((other : Row) → has_name name (get_or capability_rows number other) ≡ true) → capability_name number ≡ name
unfolding capability_name
named_at name number within has =
    let found : (row : Row) × (slice_get capability_rows number ≡ Some row) = row_found number within in
    let own : bytes_eq found.0.name name ≡ true =
    ap (has_name name) (sym (get_or_from_slice_get capability_rows number found.0 found.0 found.1)) ∙ has found.0 in
    ap (λ row. option_map_or (λ (it : Row). it.name) row []) found.1 ∙ (bytes_eq-Decides found.0.name name).0 own

-- a name's number is below 53
pub capability_named-known : (name : List ℕ) (number : ℕ) → capability_named name ≡ Some number → number < 53
unfolding capability_named
capability_named-known name number is =
    let first : Row = (row_found 0 (omega arith)).0 in
    let found = position-Some (has_name name) capability_rows number first is in
    omega (arith, all_listed, found.0)
