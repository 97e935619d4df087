-- What a table says of a field, as plain data.
use Rattle.std.specs.Prelude.{ℕ, ℤ, Bool, List}
use Rattle.armcaps_rule.specs.declared.rule.Rule.{Rule}

-- a field's name, its lowest bit, its number of bits, whether it is read as a signed number, how the values of unequal
-- cores become one, the safe value, whether users see it, and whether it counts where cores differ (Linux,
-- arch/arm64/include/asm/cpufeature.h, `struct arm64_ftr_bits`)
pub record Row : Type 0 where
  pub name : List ℕ
  pub shift : ℕ
  pub width : ℕ
  pub signed : Bool
  pub rule : Rule
  pub safe : ℤ
  pub visible : Bool
  pub strict : Bool
