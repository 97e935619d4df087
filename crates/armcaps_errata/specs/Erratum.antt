-- What the table says of an erratum, as plain data.
use Rattle.std.specs.Prelude.{ℕ, List}
use Rattle.armcaps_midr.specs.declared.processor.MidrRange.{MidrRange}
use Rattle.armcaps_midr.specs.declared.processor.Fix.{Fix}

-- the number of the capability that works around the erratum, the processors that have it, and how some tell that it is
-- mended (Linux, arch/arm64/include/asm/cpufeature.h, `struct arm64_cpu_capabilities`)
pub record Erratum : Type 0 where
  pub cap : ℕ
  pub ranges : List MidrRange
  pub fixes : List Fix
