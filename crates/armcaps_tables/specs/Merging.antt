-- A register's word after one more core.
use Rattle.std.specs.Prelude.{ℕ}
use Rattle.armcaps_rule.specs.Rule.{merged}
use Rattle.armcaps_enc.specs.declared.register.SysReg.{SysReg}
use Rattle.armcaps_tables.specs.Fields.{field_in, word_of}
use Rattle.armcaps_tables.specs.Rows.{rows_of}

-- a register's word after one more core: each field is merged with the field in the core's word
-- (Linux, arch/arm64/kernel/cpufeature.c, `update_cpu_ftr_reg`)
unfoldable pub merged_word : SysReg → ℕ → ℕ → ℕ
merged_word reg current word =
    word_of (λ index row. merged row.rule row.safe (field_in row current) (field_in row word)) (rows_of reg)
