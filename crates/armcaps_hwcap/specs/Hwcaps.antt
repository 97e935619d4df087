-- Which hwcaps are advertised to programs of users, and whether a core has one (Linux, arch/arm64/kernel/cpufeature.c,
-- `setup_elf_hwcaps` and `verify_local_elf_hwcaps`).
use Rattle.std.specs.Prelude.{ℕ, ℤ, Bool, false, ◌&&◌, ◌||◌, List, [], slice_get, int_le}
use Rattle.std.specs.List.{list_any}
use Rattle.std.specs.Option.{option_map_or}
use Rattle.armcaps_enc.specs.declared.register.SysReg.{SysReg}
use Rattle.armcaps_tables.specs.Row.{Row as FieldRow}
use Rattle.armcaps_tables.specs.Core.{Core}
use Rattle.armcaps_sanit.specs.Reaching.{field_passes, word_values}
use Rattle.armcaps_tables.specs.Overriding.{FieldOverrides}
use Rattle.armcaps_sanit.specs.System.{local_field, system_field}
use Rattle.armcaps_hwcap.specs.declared.row.HwField.{HwField}
use Rattle.armcaps_hwcap.specs.Row.{Row}
use Rattle.armcaps_hwcap.specs.Rows.{hwcap_rows}

-- whether users see a field and it is at least its minimum, where the fields have these values
abbrev pub shows : (SysReg → ℕ → FieldRow → ℤ) → HwField → Bool
shows value field = field_passes (λ row. row.visible
    && int_le field.min (value field.reg field.index row)) field.reg field.index

-- whether a row is of every machine, or one of its fields shows it
abbrev pub row_shows : (SysReg → ℕ → FieldRow → ℤ) → Row → Bool
row_shows value row = row.always || list_any (shows value) row.fields

-- whether the hwcap at a place of the table is of every machine, or one of its fields shows it; false where there is
-- none
unfoldable pub hwcap_shows : (SysReg → ℕ → FieldRow → ℤ) → ℕ → Bool
hwcap_shows value index = option_map_or (row_shows value) (slice_get hwcap_rows index) false

-- whether a core has a hwcap, by its own values under the overrides
abbrev pub core_has_hwcap : FieldOverrides → Core → ℕ → Bool
core_has_hwcap overrides core index = hwcap_shows (local_field overrides core) index

-- whether a hwcap is advertised, by the words of the system's registers
abbrev pub system_has_hwcap : List ℕ → ℕ → Bool
system_has_hwcap words index = hwcap_shows (word_values words) index

-- whether a hwcap is advertised over some cores, by what their fields have in common
abbrev pub hwcap_over : FieldOverrides → List Core → ℕ → Bool
hwcap_over overrides cores index = hwcap_shows (system_field overrides cores) index

-- a hwcap's name, which is empty where there is none
unfoldable pub hwcap_name : ℕ → List ℕ
hwcap_name index = option_map_or (λ row. row.name) (slice_get hwcap_rows index) []
