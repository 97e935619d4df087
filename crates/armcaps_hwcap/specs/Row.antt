-- What the table says of a hwcap, as plain data.
use Rattle.std.specs.Prelude.{ℕ, Bool, List}
use Rattle.armcaps_hwcap.specs.declared.row.HwField.{HwField}

-- a hwcap's name, whether it stands in the second word, its bit there, whether every machine has it, and the fields of
-- which one has to reach its minimum (Linux, arch/arm64/kernel/cpufeature.c, `arm64_elf_hwcaps`)
pub record Row : Type 0 where
  pub name : List ℕ
  pub second : Bool
  pub bit : ℕ
  pub always : Bool
  pub fields : List HwField
