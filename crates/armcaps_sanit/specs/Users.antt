-- What users see of the system registers: a field that is hidden from them has its safe value, whatever the cores have
-- (Linux, arch/arm64/include/asm/cpufeature.h, `struct arm64_ftr_reg`, `user_mask` and `user_val`).
use Rattle.std.specs.Prelude.{ℕ, ℤ, if◌then◌else◌, List}
use Rattle.armcaps_enc.specs.declared.register.SysReg.{SysReg}
use Rattle.armcaps_tables.specs.Row.{Row}
use Rattle.armcaps_tables.specs.Rows.{rows_of}
use Rattle.armcaps_tables.specs.Core.{Core}
use Rattle.armcaps_tables.specs.Overriding.{FieldOverrides}
use Rattle.armcaps_tables.specs.Fields.{field_in, word_of}
use Rattle.armcaps_sanit.specs.System.{system_field}

-- what users see of a field's value: the value where the field is visible, and else the safe value
abbrev pub shown : Row → ℤ → ℤ
shown row value = if row.visible then value else row.safe

-- what users see of a field over some cores, under the override of its row
abbrev pub user_field : FieldOverrides → List Core → SysReg → ℕ → Row → ℤ
user_field overrides cores reg index row = shown row (system_field overrides cores reg index row)

-- the word of a register that users see over some cores
unfoldable pub user_word : FieldOverrides → List Core → SysReg → ℕ
user_word overrides cores reg = word_of (user_field overrides cores reg) (rows_of reg)

-- the word that users see where the register's system word is this one
unfoldable pub shown_word : SysReg → ℕ → ℕ
shown_word reg word = word_of (λ index row. shown row (field_in row word)) (rows_of reg)
