-- What the tests of the table of capabilities say of the rows at its places.
use Rattle.std.proofs.Common.{◌≡◌, ℕ, ◌<◌, Bool, true, false, ◌&&◌, [], length, get_or, Option, Some, None, IfSome, IsSome, map, slice_get, refl, sym, ◌∙◌, ap, subst, inl, inr, arith, zero-add}
use Rattle.std.specs.List.{list_all, range_with_len}
use Rattle.std.specs.Option.{option_map, option_map_or}
use Rattle.std.proofs.lemmas.Bool.{false≢true, and_parts}
use Rattle.std.proofs.lemmas.List.FromFn.{get_or-range_with_len}
use Rattle.std.proofs.lemmas.Option.{get_or_from_slice_get, slice_get-map, slice_get_cases, slice_get_within}
use Rattle.armcaps_logic.proofs.Options.{some_from_passing}
use Rattle.armcaps_logic.proofs.Searches.{list_all-item}
use Rattle.armcaps_enc.specs.declared.register.SysReg.{SysReg}
use Rattle.armcaps_tables.specs.Row.{Row as FieldRow}
use Rattle.armcaps_tables.specs.Rows.{rows_of, id_aa64pfr0_rows, id_aa64pfr1_rows, id_aa64smfr0_rows, id_aa64isar0_rows, id_aa64isar1_rows, id_aa64isar2_rows, id_aa64mmfr0_rows, id_aa64mmfr1_rows, id_aa64mmfr2_rows, id_aa64mmfr3_rows}
use Rattle.armcaps_errata.specs.Errata.{errata_count, errata_rows}
use Rattle.armcaps_sanit.specs.Reaching.{field_passes}
use Rattle.armcaps_caps.specs.declared.cap_row.Test.{Test}
use Rattle.armcaps_caps.specs.declared.cap_row.Test.TheVariants.{Always, AtLeast, SameAsBoot, Erratum, CacheType}
use Rattle.armcaps_caps.specs.declared.cap_row.CapRow.{CapRow}
use Rattle.armcaps_caps.specs.Class.{Class, system_feature, erratum, weak_local_feature, boot_feature, strict_boot_feature, in_boot_scope, in_local_scope, in_system_scope, permitted, optional, panic}
use Rattle.armcaps_caps.specs.Flags.{flags_of}
use Rattle.armcaps_caps.specs.RowFlags.{has_flag, HasFlags}
use Rattle.armcaps_caps.specs.Row.{Row}
use Rattle.armcaps_caps.specs.RowOf.{columns_listed, columns_of}
use Rattle.armcaps_caps.specs.Rows.{capability_count, capability_rows}
use Rattle.armcaps_caps.specs.Capabilities.{capability_name, capability_named, is_boot_scope, is_local_scope, is_optional, is_panic, is_permitted, is_system_scope, row_says, test_of}
use Rattle.armcaps_caps.specs.Facts.{row_holds, scope_holds, test_holds, HasTest, IsAskable}

-- the test, computed
pub rows_hold : list_all row_holds capability_rows ≡ true
unfolding capability_rows capability_named errata_rows id_aa64pfr0_rows id_aa64pfr1_rows id_aa64smfr0_rows id_aa64isar0_rows id_aa64isar1_rows id_aa64isar2_rows id_aa64mmfr0_rows id_aa64mmfr1_rows id_aa64mmfr2_rows id_aa64mmfr3_rows
rows_hold = refl

pub numbers : map (λ (row : Row). row.number) capability_rows ≡ range_with_len 0 capability_count
unfolding capability_rows
numbers = refl

pub all_listed : length capability_rows ≡ 53
unfolding capability_rows
all_listed = refl

all_errata : length errata_rows ≡ errata_count
unfolding errata_rows
all_errata = refl

-- a row has the number of its place
pub number_at : (number : ℕ) (row : Row) → slice_get capability_rows number ≡ Some row → row.number ≡ number
number_at number row at =
    let within : number < 53 = omega (arith, all_listed, slice_get_within capability_rows number row at) in
    let listed : slice_get (map (λ (it : Row). it.number) capability_rows) number ≡ Some row.number =
    slice_get-map (λ (it : Row). it.number) capability_rows number ∙ ap (option_map (λ (it : Row). it.number)) at in
    sym (get_or_from_slice_get (map (λ (it : Row). it.number) capability_rows) number row.number 0 listed)
    ∙ ap (λ ns. get_or ns number 0) numbers
    ∙ get_or-range_with_len 0 53 number 0 within
    ∙ zero-add number

-- a row passes the test of the table
pub row_at : (number : ℕ) (row : Row) → slice_get capability_rows number ≡ Some row → row_holds row ≡ true
row_at number row at = list_all-item row_holds capability_rows number row rows_hold at

-- the row of a number below 53
pub row_found : (number : ℕ) → number < 53 → (row : Row) × (slice_get capability_rows number ≡ Some row)
row_found number within =
    elim (slice_get_cases capability_rows number).1 [
      | inl found ↦ (found.0, found.2)
      | inr past ↦ absurd (omega (arith, all_listed, past.0))
    ]

-- a field that passes a test is one that the register has
pub field_within : (test : FieldRow → Bool) (reg : SysReg) (index : ℕ) → field_passes test reg index ≡ true
    → index < length (rows_of reg)
field_within test reg index passes =
    let found = some_from_passing test (slice_get (rows_of reg) index) passes in
    slice_get_within (rows_of reg) index found.0 found.1

-- a test that holds can be asked
askable : (number : ℕ) (test : Test) → test_holds number test ≡ true → IsAskable test
askable number Always holds = tt
askable number (AtLeast reg index minimum) holds = field_within _ reg index holds
askable number (SameAsBoot reg index minimum) holds = field_within _ reg index holds
askable number (Erratum index) holds =
    let found = some_from_passing _ (slice_get errata_rows index) holds in
    omega (arith, all_errata, slice_get_within errata_rows index found.0 found.1)
askable number CacheType holds = tt

-- the test of a row holds, and fits its class
pub test_at_holds : (number : ℕ) (row : Row) → slice_get capability_rows number ≡ Some row
    → (test_holds number row.test ≡ true) × (scope_holds row.class row.test ≡ true)
test_at_holds number row at =
    let tests = and_parts (test_holds row.number row.test && scope_holds row.class row.test) _ (row_at number row at) in
    let parts = and_parts (test_holds row.number row.test) (scope_holds row.class row.test) tests.0 in
    (ap (λ n. test_holds n row.test) (sym (number_at number row at)) ∙ parts.0, parts.1)

-- what holds of a row of the code where it has the columns of the row at the place
of_row : (P : CapRow → Type 0) (found : Option CapRow) (listed : Option Row)
    → option_map columns_of found ≡ option_map columns_listed listed
    → ((row : CapRow) (at : Row) → listed ≡ Some at → columns_of row ≡ columns_listed at → P row)
    → IfSome found P
of_row P None listed same holds = tt
of_row P (Some row) None same holds = absurd (cc)
of_row P (Some row) (Some at) same holds = holds row at refl (cc)

-- there is a row of the code exactly where there is one of the table
pub found_exactly : (number : ℕ) (found : Option CapRow)
    → option_map columns_of found ≡ option_map columns_listed (slice_get capability_rows number)
    → (IsSome found → number < capability_count) × (number < capability_count → IsSome found)
found_exactly number found same =
    (λ some. within found some same, λ below. some found (row_found number below) same) where
      within : (found : Option CapRow) → IsSome found
          → option_map columns_of found ≡ option_map columns_listed (slice_get capability_rows number) → number < 53
      within None some same = absurd (false≢true some)
      within (Some row) some same =
          elim (slice_get_cases capability_rows number).1 [
            | inl at ↦ omega (arith, all_listed, at.1)
            | inr past ↦ (let none = ap (option_map columns_listed) past.1 in absurd (cc))
          ]

      some : (found : Option CapRow) → (row : Row) × (slice_get capability_rows number ≡ Some row)
          → option_map columns_of found ≡ option_map columns_listed (slice_get capability_rows number) → IsSome found
      some None at same = (let one = ap (option_map columns_listed) at.1 in absurd (cc))
      some (Some row) at same = refl

-- what a row of the code says
pub found_number : (number : ℕ) (found : Option CapRow)
    → option_map columns_of found ≡ option_map columns_listed (slice_get capability_rows number)
    → IfSome found (λ row. row.number ≡ number)
found_number number found same =
    of_row (λ row. row.number ≡ number) found (slice_get capability_rows number) same
    (λ row at is columns. (ap (λ c. c.number) columns) ∙ number_at number at is)

pub found_name : (number : ℕ) (found : Option CapRow)
    → option_map columns_of found ≡ option_map columns_listed (slice_get capability_rows number)
    → IfSome found (λ row. row.name.now ≡ capability_name number)
unfolding capability_name
found_name number found same =
    of_row (λ row. row.name.now ≡ capability_name number) found (slice_get capability_rows number) same
    (λ row at is columns. ap (λ c. c.name) columns ∙ ap (λ o. option_map_or (λ (it : Row). it.name) o []) (sym is))

pub found_test : (number : ℕ) (found : Option CapRow)
    → option_map columns_of found ≡ option_map columns_listed (slice_get capability_rows number)
    → IfSome found (λ row. HasTest number row.test)
unfolding test_of
found_test number found same =
    of_row (λ row. HasTest number row.test) found (slice_get capability_rows number) same
    (λ row at is columns.
    let own : at.test ≡ row.test = sym (ap (λ c. c.test) columns) in
    record {
      listed = ap (option_map (λ (it : Row). it.test)) is ∙ ap Some own;
      askable = subst IsAskable own (askable number at.test (test_at_holds number at is).0);
    })

-- the flags of a class say what the class says
flags_boot : (class : Class) → has_flag (flags_of class) 1 ≡ in_boot_scope class
flags_boot system_feature = refl
flags_boot erratum = refl
flags_boot weak_local_feature = refl
flags_boot boot_feature = refl
flags_boot strict_boot_feature = refl

flags_local : (class : Class) → has_flag (flags_of class) 2 ≡ in_local_scope class
flags_local system_feature = refl
flags_local erratum = refl
flags_local weak_local_feature = refl
flags_local boot_feature = refl
flags_local strict_boot_feature = refl

flags_system : (class : Class) → has_flag (flags_of class) 4 ≡ in_system_scope class
flags_system system_feature = refl
flags_system erratum = refl
flags_system weak_local_feature = refl
flags_system boot_feature = refl
flags_system strict_boot_feature = refl

flags_permitted : (class : Class) → has_flag (flags_of class) 8 ≡ permitted class
flags_permitted system_feature = refl
flags_permitted erratum = refl
flags_permitted weak_local_feature = refl
flags_permitted boot_feature = refl
flags_permitted strict_boot_feature = refl

flags_optional : (class : Class) → has_flag (flags_of class) 16 ≡ optional class
flags_optional system_feature = refl
flags_optional erratum = refl
flags_optional weak_local_feature = refl
flags_optional boot_feature = refl
flags_optional strict_boot_feature = refl

flags_panic : (class : Class) → has_flag (flags_of class) 32 ≡ panic class
flags_panic system_feature = refl
flags_panic erratum = refl
flags_panic weak_local_feature = refl
flags_panic boot_feature = refl
flags_panic strict_boot_feature = refl

-- a flag of the row of the code at a place, as the row of the table says it
flag_at : (number flag : ℕ) (says : Class → Bool) (at : Row) (flags : ℕ) → slice_get capability_rows number ≡ Some at
    → flags ≡ flags_of at.class
    → ((class : Class) → has_flag (flags_of class) flag ≡ says class)
    → has_flag flags flag ≡ row_says (λ row. says row.class) number
flag_at number flag says at flags is same agree =
    ap (λ f. has_flag f flag) same ∙ agree at.class
    ∙ sym (ap (λ row. option_map_or (λ (it : Row). says it.class) row false) is)

pub found_flags : (number : ℕ) (found : Option CapRow)
    → option_map columns_of found ≡ option_map columns_listed (slice_get capability_rows number)
    → IfSome found (λ row. HasFlags number row.flags.0)
unfolding is_boot_scope is_local_scope is_system_scope is_permitted is_optional is_panic
found_flags number found same =
    of_row (λ row. HasFlags number row.flags.0) found (slice_get capability_rows number) same
    (λ row at is columns.
    let own : row.flags.0 ≡ flags_of at.class = ap (λ c. c.flags) columns in
    record {
      boot = flag_at number 1 in_boot_scope at row.flags.0 is own flags_boot;
      per_core = flag_at number 2 in_local_scope at row.flags.0 is own flags_local;
      system = flag_at number 4 in_system_scope at row.flags.0 is own flags_system;
      permitted = flag_at number 8 permitted at row.flags.0 is own flags_permitted;
      optional = flag_at number 16 optional at row.flags.0 is own flags_optional;
      panic = flag_at number 32 panic at row.flags.0 is own flags_panic;
    })
