-- What holds of the class of every capability.
use Rattle.std.specs.Prelude.{◌≡◌, ℕ, true, false}
use Rattle.armcaps_caps.specs.Capabilities.{is_boot_scope, is_workaround, is_local_scope, is_optional, is_panic, is_permitted, is_system_scope}

-- a capability is decided in one way; one of system scope is permitted and not optional, one of local scope is
-- optional, one that stops the machine is of boot scope, and one that works around an erratum is of local scope and not
-- permitted
pub record ScopesHold (number : ℕ) : Type 0 where
  pub decided : is_boot_scope number ≡ false → is_local_scope number ≡ false → is_system_scope number ≡ true
  pub boot_not_local : is_boot_scope number ≡ true → is_local_scope number ≡ false
  pub boot_not_system : is_boot_scope number ≡ true → is_system_scope number ≡ false
  pub local_not_system : is_local_scope number ≡ true → is_system_scope number ≡ false
  pub system_permitted : is_system_scope number ≡ true → is_permitted number ≡ true
  pub system_not_optional : is_system_scope number ≡ true → is_optional number ≡ false
  pub local_optional : is_local_scope number ≡ true → is_optional number ≡ true
  pub boot_not_optional : is_boot_scope number ≡ true → is_optional number ≡ false
  pub panic_boot : is_panic number ≡ true → is_boot_scope number ≡ true
  pub erratum_local : is_workaround number ≡ true → is_local_scope number ≡ true
  pub erratum_not_permitted : is_workaround number ≡ true → is_permitted number ≡ false
