-- What the classes say of every capability: each is decided in one way, and only one of the boot core's stops the
-- machine.
use Rattle.std.proofs.Common.{◌≡◌, ℕ, ◌<◌, Bool, true, false, not, Some, slice_get, refl, sym, ◌∙◌, ap, arith}
use Rattle.std.specs.Option.{option_map_or}
use Rattle.std.proofs.Math.Bool.{or-false}
use Rattle.armcaps_caps.specs.Capabilities.{conflicts, is_boot_scope, is_workaround, is_local_scope, is_optional, is_panic, is_permitted, is_system_scope, row_says}
use Rattle.armcaps_caps.specs.Class.{Class, system_feature, erratum, weak_local_feature, boot_feature, strict_boot_feature, in_boot_scope, in_local_scope, in_system_scope, permitted, optional, panic, workaround}
use Rattle.armcaps_caps.specs.Scopes.{ScopesHold}
use Rattle.armcaps_caps.specs.Row.{Row}
use Rattle.armcaps_caps.specs.Rows.{capability_rows}
use Rattle.armcaps_caps.proofs.Listing.{row_found}

-- the class of a capability, and that the tests of its number are those of the class
pub record HasClass (number : ℕ) (class : Class) : Type 0 where
  pub boot : is_boot_scope number ≡ in_boot_scope class
  pub per_core : is_local_scope number ≡ in_local_scope class
  pub system : is_system_scope number ≡ in_system_scope class
  pub permitted : is_permitted number ≡ permitted class
  pub optional : is_optional number ≡ optional class
  pub panic : is_panic number ≡ panic class
  pub erratum : is_workaround number ≡ workaround class

pub class_found : (number : ℕ) → number < 53 → (class : Class) × HasClass number class
unfolding is_boot_scope is_local_scope is_system_scope is_permitted is_optional is_panic is_workaround
class_found number within =
    let found : (row : Row) × (slice_get capability_rows number ≡ Some row) = row_found number within in
    let says : (test : Class → Bool) → row_says (λ row. test row.class) number ≡ test found.0.class =
    λ test. ap (λ row. option_map_or (λ (it : Row). test it.class) row false) found.1 in (
      found.0.class,
      record {
        boot = says in_boot_scope;
        per_core = says in_local_scope;
        system = says in_system_scope;
        permitted = says permitted;
        optional = says optional;
        panic = says panic;
        erratum = says workaround;
      },
    )

-- what every class says of itself
pub record ClassHolds (class : Class) : Type 0 where
  pub decided : in_boot_scope class ≡ false → in_local_scope class ≡ false → in_system_scope class ≡ true
  pub boot_not_local : in_boot_scope class ≡ true → in_local_scope class ≡ false
  pub boot_not_system : in_boot_scope class ≡ true → in_system_scope class ≡ false
  pub local_not_system : in_local_scope class ≡ true → in_system_scope class ≡ false
  pub system_permitted : in_system_scope class ≡ true → permitted class ≡ true
  pub system_not_optional : in_system_scope class ≡ true → optional class ≡ false
  pub local_optional : in_local_scope class ≡ true → optional class ≡ true
  pub boot_not_optional : in_boot_scope class ≡ true → optional class ≡ false
  pub panic_boot : panic class ≡ true → in_boot_scope class ≡ true
  pub erratum_local : workaround class ≡ true → in_local_scope class ≡ true
  pub erratum_not_permitted : workaround class ≡ true → permitted class ≡ false

pub class_holds : (class : Class) → ClassHolds class
class_holds system_feature = grind arith
class_holds erratum = grind arith
class_holds weak_local_feature = grind arith
class_holds boot_feature = grind arith
class_holds strict_boot_feature = grind arith

-- so of every capability
pub number_holds : (number : ℕ) → number < 53 → ScopesHold number
number_holds number within =
    let found : (class : Class) × HasClass number class = class_found number within in
    let class : Class = found.0 in
    let its : HasClass number class = found.1 in
    let holds : ClassHolds class = class_holds class in
    record {
      decided = λ b l. its.system ∙ holds.decided (sym its.boot ∙ b) (sym its.per_core ∙ l);
      boot_not_local = λ h. its.per_core ∙ holds.boot_not_local (sym its.boot ∙ h);
      boot_not_system = λ h. its.system ∙ holds.boot_not_system (sym its.boot ∙ h);
      local_not_system = λ h. its.system ∙ holds.local_not_system (sym its.per_core ∙ h);
      system_permitted = λ h. its.permitted ∙ holds.system_permitted (sym its.system ∙ h);
      system_not_optional = λ h. its.optional ∙ holds.system_not_optional (sym its.system ∙ h);
      local_optional = λ h. its.optional ∙ holds.local_optional (sym its.per_core ∙ h);
      boot_not_optional = λ h. its.optional ∙ holds.boot_not_optional (sym its.boot ∙ h);
      panic_boot = λ h. its.boot ∙ holds.panic_boot (sym its.panic ∙ h);
      erratum_local = λ h. its.per_core ∙ holds.erratum_local (sym its.erratum ∙ h);
      erratum_not_permitted = λ h. its.permitted ∙ holds.erratum_not_permitted (sym its.erratum ∙ h);
    }

-- when a core conflicts, by what is enabled and what it has
pub conflicts-both : (number : ℕ) → conflicts number true true ≡ false
conflicts-both number = refl

pub conflicts-neither : (number : ℕ) → conflicts number false false ≡ false
conflicts-neither number = refl

pub conflicts-lacking : (number : ℕ) → conflicts number true false ≡ not (is_optional number)
conflicts-lacking number = or-false (not (is_optional number))

pub conflicts-bringing : (number : ℕ) → conflicts number false true ≡ not (is_permitted number)
conflicts-bringing number = refl
