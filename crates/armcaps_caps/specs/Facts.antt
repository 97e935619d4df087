-- What holds of the table of capabilities, as tests that compute.
use Rattle.std.specs.Prelude.{◌≡◌, ◌<◌, ℕ, Bool, true, false, ◌&&◌, ◌==◌, List, Some, length, slice_get}
use Rattle.std.specs.Option.{option_map_or}
use Rattle.std.specs.Str.{bytes_eq}
use Rattle.armcaps_tables.specs.Rows.{rows_of}
use Rattle.armcaps_errata.specs.Errata.{errata_count, errata_rows}
use Rattle.armcaps_sanit.specs.Reaching.{field_passes, row_keeps}
use Rattle.armcaps_caps.specs.declared.cap_row.Test.{Test}
use Rattle.armcaps_caps.specs.declared.cap_row.Test.TheVariants.{Always, AtLeast, SameAsBoot, Erratum, CacheType}
use Rattle.armcaps_caps.specs.Row.{Row}
use Rattle.armcaps_caps.specs.Class.{Class, system_feature}
use Rattle.armcaps_caps.specs.Capabilities.{capability_named, test_of}

-- a field that a capability tests keeps the minimum, an erratum names the capability in the table of errata, and the
-- one capability of the cache type is MISMATCHED_CACHE_TYPE
abbrev pub test_holds : ℕ → Test → Bool
test_holds number Always = true
test_holds number (AtLeast reg index minimum) = field_passes (row_keeps minimum) reg index
test_holds number (SameAsBoot reg index minimum) = field_passes (row_keeps minimum) reg index
test_holds number (Erratum index) = option_map_or (λ erratum. erratum.cap == number) (slice_get errata_rows index) false
test_holds number CacheType = number == 42

-- whether a test is one of all cores together
abbrev pub is_common : Test → Bool
is_common Always = true
is_common (AtLeast reg index minimum) = true
is_common _ = false

-- a capability of system scope has such a test
abbrev pub scope_holds : Class → Test → Bool
scope_holds system_feature test = is_common test
scope_holds _ test = true

-- the test of a row holds and fits its class, and the row is the first of its name, at the place of its number
abbrev pub row_holds : Row → Bool
row_holds row =
    test_holds row.number row.test && scope_holds row.class row.test
    && option_map_or (λ number. number == row.number) (capability_named row.name) false

-- whether a row has the name
abbrev pub has_name : List ℕ → Row → Bool
has_name name row = bytes_eq row.name name

-- a test is of a field that the register has, or of an erratum that the table has
abbrev pub IsAskable : Test → Type 0
IsAskable (AtLeast reg index minimum) = index < length (rows_of reg)
IsAskable (SameAsBoot reg index minimum) = index < length (rows_of reg)
IsAskable (Erratum index) = index < errata_count
IsAskable _ = Unit {0}

-- a capability is had by this test, which can be asked
pub record HasTest (number : ℕ) (test : Test) : Type 0 where
  pub listed : test_of number ≡ Some test
  pub askable : IsAskable test
