-- What the table says of a capability, as plain data.
use Rattle.std.specs.Prelude.{ℕ, List}
use Rattle.armcaps_caps.specs.declared.cap_row.Test.{Test}
use Rattle.armcaps_caps.specs.Class.{Class}

-- a capability's number, its name, its class, and the test by which a core or the system has it (Linux,
-- arch/arm64/include/asm/cpufeature.h, `struct arm64_cpu_capabilities`)
pub record Row : Type 0 where
  pub number : ℕ
  pub name : List ℕ
  pub class : Class
  pub test : Test
