-- The system registers: for each field the one value that all admitted cores keep, and for each register the word that
-- is made of its fields (Linux, arch/arm64/include/asm/cpufeature.h, `struct arm64_ftr_reg`, `sys_val`).
use Rattle.std.specs.Prelude.{ℕ, ℤ, ◌<◌, ◌≡◌, List, [], ◌∷◌, length, map}
use Rattle.armcaps_rule.specs.Rule.{forced_of}
use Rattle.armcaps_enc.specs.declared.register.SysReg.{SysReg}
use Rattle.armcaps_enc.specs.Registers.{registers}
use Rattle.armcaps_tables.specs.Row.{Row}
use Rattle.armcaps_tables.specs.Rows.{rows_of}
use Rattle.armcaps_tables.specs.Core.{Core, core_word, word_at}
use Rattle.armcaps_tables.specs.Overriding.{AllFit, FieldOverrides, override_of}
use Rattle.armcaps_tables.specs.Fields.{field_in, word_of}
use Rattle.armcaps_tables.specs.Merging.{merged_word}

-- the values that some cores have of a field
abbrev pub field_values : List Core → SysReg → Row → List ℤ
field_values cores reg row = map (λ core. field_in row (core_word core reg)) cores

-- the value that a field has over some cores, under the override of its row
abbrev pub system_field : FieldOverrides → List Core → SysReg → ℕ → Row → ℤ
system_field overrides cores reg index row =
    forced_of row.rule row.safe (override_of overrides reg index) (field_values cores reg row)

-- the value that a core's field counts as: what the core has, under the override of the row
abbrev pub local_field : FieldOverrides → Core → SysReg → ℕ → Row → ℤ
local_field overrides core reg index row = system_field overrides (core ∷ []) reg index row

-- the word that a register has over some cores
unfoldable pub system_word : FieldOverrides → List Core → SysReg → ℕ
system_word overrides cores reg = word_of (system_field overrides cores reg) (rows_of reg)

-- all words over some cores, by the registers' places; those of the first three registers, which have no fields, are 0
unfoldable pub system_words : FieldOverrides → List Core → List ℕ
system_words overrides cores = map (system_word overrides cores) registers

-- all words after one more core
unfoldable pub merged_words : List ℕ → Core → List ℕ
merged_words words core = map (λ reg. merged_word reg (word_at words reg) (core_word core reg)) registers

-- the words are those over some cores, at least one, under overrides that their fields can have
pub record IsSystemOf (overrides : FieldOverrides) (cores : List Core) (kept : List ℕ) : Type 0 where
  pub fit : AllFit overrides
  pub some : 0 < length cores
  pub words : kept ≡ system_words overrides cores
