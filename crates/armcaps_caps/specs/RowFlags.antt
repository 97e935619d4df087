-- What the flags of a row of the code say.
use Rattle.std.specs.Prelude.{◌≡◌, ◌==◌, ℕ, Bool}
use Rattle.std.specs.Int.RustNames.{bit_and}
use Rattle.armcaps_caps.specs.Capabilities.{is_boot_scope, is_local_scope, is_optional, is_panic, is_permitted, is_system_scope}

-- whether a flag is among the flags
abbrev pub has_flag : ℕ → ℕ → Bool
has_flag flags flag = bit_and flags flag == flag

-- these are the flags of the capability of this number
pub record HasFlags (number flags : ℕ) : Type 0 where
  pub boot : has_flag flags 1 ≡ is_boot_scope number
  pub per_core : has_flag flags 2 ≡ is_local_scope number
  pub system : has_flag flags 4 ≡ is_system_scope number
  pub permitted : has_flag flags 8 ≡ is_permitted number
  pub optional : has_flag flags 16 ≡ is_optional number
  pub panic : has_flag flags 32 ≡ is_panic number
