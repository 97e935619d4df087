-- Which capabilities a core has, which the system has, and when a core conflicts with what was decided (Linux,
-- arch/arm64/kernel/cpufeature.c, `has_cpuid_feature`, `update_cpu_capabilities` and `verify_local_cpu_caps`).
use Rattle.std.specs.Prelude.{ℕ, ℤ, Bool, true, false, not, ◌&&◌, ◌||◌, List, [], Option, slice_get, position, int_le}
use Rattle.std.specs.Option.{option_map, option_map_or}
use Rattle.std.specs.Ordering.{int_eq}
use Rattle.std.specs.Str.{bytes_eq}
use Rattle.armcaps_enc.specs.declared.register.SysReg.{SysReg}
use Rattle.armcaps_enc.specs.declared.register.SysReg.TheVariants.{CtrEl0}
use Rattle.armcaps_tables.specs.Row.{Row as FieldRow}
use Rattle.armcaps_tables.specs.Core.{Core, core_word}
use Rattle.armcaps_errata.specs.Has.{has_erratum}
use Rattle.armcaps_sanit.specs.Reaching.{field_passes, reaches, word_values}
use Rattle.armcaps_tables.specs.Overriding.{FieldOverrides}
use Rattle.armcaps_sanit.specs.System.{local_field, system_field}
use Rattle.armcaps_sanit.specs.Varying.{word_varies}
use Rattle.armcaps_caps.specs.declared.cap_row.Test.{Test}
use Rattle.armcaps_caps.specs.declared.cap_row.Test.TheVariants.{Always, AtLeast, SameAsBoot, Erratum, CacheType}
use Rattle.armcaps_caps.specs.Class.{in_boot_scope, in_local_scope, in_system_scope, permitted, optional, panic, workaround}
use Rattle.armcaps_caps.specs.Row.{Row}
use Rattle.armcaps_caps.specs.Rows.{capability_rows}

-- what a capability's row says, and false where there is no such capability
abbrev pub row_says : (Row → Bool) → ℕ → Bool
row_says test number = option_map_or test (slice_get capability_rows number) false

-- whether a capability is decided on the boot core alone
unfoldable pub is_boot_scope : ℕ → Bool
is_boot_scope number = row_says (λ row. in_boot_scope row.class) number

-- whether it is decided on each core alone
unfoldable pub is_local_scope : ℕ → Bool
is_local_scope number = row_says (λ row. in_local_scope row.class) number

-- whether it is decided over all early cores together
unfoldable pub is_system_scope : ℕ → Bool
is_system_scope number = row_says (λ row. in_system_scope row.class) number

-- whether a core that comes later may have it though it is not enabled
unfoldable pub is_permitted : ℕ → Bool
is_permitted number = row_says (λ row. permitted row.class) number

-- whether a core that comes later may lack it though it is enabled
unfoldable pub is_optional : ℕ → Bool
is_optional number = row_says (λ row. optional row.class) number

-- whether a core that conflicts with it stops the machine
unfoldable pub is_panic : ℕ → Bool
is_panic number = row_says (λ row. panic row.class) number

-- whether it works around an erratum
unfoldable pub is_workaround : ℕ → Bool
is_workaround number = row_says (λ row. workaround row.class) number

-- its name, which is empty where there is no such capability
unfoldable pub capability_name : ℕ → List ℕ
capability_name number = option_map_or (λ row. row.name) (slice_get capability_rows number) []

-- the number of the capability that has the name
unfoldable pub capability_named : List ℕ → Option ℕ
capability_named name = position (λ row. bytes_eq row.name name) capability_rows

-- the test by which it is had
unfoldable pub test_of : ℕ → Option Test
test_of number = option_map (λ row. row.test) (slice_get capability_rows number)

-- whether a core passes a test. The core's own values count, under the overrides; its cache type is compared with that
-- of the word `ctr` of CTR_EL0
abbrev pub core_passes : FieldOverrides → Core → ℕ → Core → Test → Bool
core_passes overrides boot ctr core Always = true
core_passes overrides boot ctr core (AtLeast reg index minimum) = reaches (local_field overrides core) reg index minimum
core_passes overrides boot ctr core (SameAsBoot reg index minimum) =
    let own : FieldRow → ℤ = local_field overrides core reg index in
    let boots : FieldRow → ℤ = local_field overrides boot reg index in
    field_passes (λ row. int_le minimum (own row) && int_eq (own row) (boots row)) reg index
core_passes overrides boot ctr core (Erratum index) = has_erratum core index
core_passes overrides boot ctr core CacheType = word_varies CtrEl0 ctr (core_word core CtrEl0)

-- whether a core has a capability
unfoldable pub core_has_capability : FieldOverrides → Core → ℕ → Core → ℕ → Bool
core_has_capability overrides boot ctr core number =
    option_map_or (core_passes overrides boot ctr core) (test_of number) false

-- whether the system passes the test of a capability of system scope, where its fields have these values
abbrev pub system_passes : (SysReg → ℕ → FieldRow → ℤ) → Test → Bool
system_passes value Always = true
system_passes value (AtLeast reg index minimum) = reaches value reg index minimum
system_passes value _ = false

-- whether the system has such a capability, by the words of its registers
unfoldable pub system_has_capability : List ℕ → ℕ → Bool
system_has_capability words number = option_map_or (system_passes (word_values words)) (test_of number) false

-- whether some cores together have such a capability, by what their fields have in common
unfoldable pub capability_over : FieldOverrides → List Core → ℕ → Bool
capability_over overrides cores number =
    option_map_or (system_passes (system_field overrides cores)) (test_of number) false

-- whether a core that comes later conflicts with a capability: it is enabled, the core lacks it and it is not optional;
-- or the core has it, it is not enabled and it is not permitted (Linux, `verify_local_cpu_caps`)
abbrev pub conflicts : ℕ → Bool → Bool → Bool
conflicts number enabled present =
    (enabled && not present && not (is_optional number)) || (present && not enabled && not (is_permitted number))
