-- What the crates below say, in the form in which it is used here.
use Rattle.std.proofs.Common.{◌≡◌, ◌<◌, ◌≤◌, ◌⊎◌, inl, inr, ℕ, Bool, true, false, List, ◌∷◌, ◌++◌, Option, option_map, refl, sym, ◌∙◌, ap, arith, length-append}
use Rattle.std.specs.Option.{option_map_or}
use Rattle.std.proofs.lemmas.Bool.{cases_lt}
use Rattle.std.proofs.lemmas.Option.{slice_get_past}
use Rattle.std.specs.List.{list_any}
use Rattle.armcaps_enc.specs.declared.register.SysReg.TheVariants.{CtrEl0}
use Rattle.armcaps_tables.specs.Core.{Core, core_word, word_at}
use Rattle.armcaps_tables.specs.Overriding.{FieldOverrides, AllFit}
use Rattle.armcaps_board.specs.Board.{Board, IsCtrPlain}
use Rattle.armcaps_boot.specs.Causes.{capability_enabled}
use Rattle.armcaps_sanit.specs.System.{IsSystemOf, system_field, system_words}
use Rattle.armcaps_caps.specs.Capabilities.{capability_over, core_has_capability, system_passes, test_of, is_boot_scope, is_local_scope, is_system_scope, is_permitted, is_optional, is_panic, is_workaround, row_says}
use Rattle.armcaps_caps.specs.Class.{in_boot_scope, in_local_scope, in_system_scope, workaround}
use Rattle.armcaps_caps.specs.Row.{Row}
use Rattle.armcaps_caps.specs.Rows.{capability_rows}
use Rattle.armcaps_caps.proofs.Classes.{number_holds}
use Rattle.armcaps_caps.proofs.Listing.{all_listed}
use Rattle.armcaps_caps.proofs.CacheType.{cache_type_compares}

system_of : (o : FieldOverrides) (before after : List Core) (core : Core) → AllFit o → IsSystemOf o (before ++ core ∷ after) (system_words o (before ++ core ∷ after))
system_of o before after core fit = record { fit = fit; some = omega (arith, length-append before (core ∷ after)); words = refl }

pub cache_type_stays : (o : FieldOverrides) (boot core : Core) (before after : List Core) → AllFit o → IsCtrPlain o
    → list_any (λ c. core_has_capability o boot (core_word boot CtrEl0) c 42) (before ++ boot ∷ after) ≡ false
    → core_has_capability o boot (word_at (system_words o (before ++ boot ∷ after)) CtrEl0) core 42 ≡ core_has_capability o boot (core_word boot CtrEl0) core 42
cache_type_stays o boot core before after fit plain none =
    cache_type_compares o (before ++ boot ∷ after) (system_words o (before ++ boot ∷ after)) boot core (system_of o before after boot fit) plain none

not_both : (one other : Bool) → (one ≡ true → other ≡ false) → other ≡ true → one ≡ false
not_both true other h is = absurd (let bad : true ≡ false = sym is ∙ h refl in let no : ⊥ = cc in no)
not_both false other h is = refl

-- no number past the table is one of a capability
counted : (number : ℕ) (says : Row → Bool) → row_says says number ≡ true → number < 53
counted number says is = by (cases_lt number 53) where
  by : (number < 53) ⊎ (53 ≤ number) → number < 53
  by (inl within) = within
  by (inr past) =
      absurd (let bad : false ≡ true = sym (ap (λ (row : Option Row). option_map_or says row false) (slice_get_past capability_rows number (omega (arith, all_listed)))) ∙ is in
      let no : ⊥ = cc in no)

-- no number past the table is enabled
says-past : (number : ℕ) (says : Row → Bool) → 53 ≤ number → row_says says number ≡ false
says-past number says past =
    ap (λ (row : Option Row). option_map_or says row false) (slice_get_past capability_rows number (omega (arith, all_listed, past)))

pub boot_scope-past : (number : ℕ) → 53 ≤ number → is_boot_scope number ≡ false
unfolding is_boot_scope
boot_scope-past number past = says-past number (λ row. in_boot_scope row.class) past

over-past : (overrides : FieldOverrides) (cores : List Core) (number : ℕ) → 53 ≤ number → capability_over overrides cores number ≡ false
unfolding capability_over test_of
over-past overrides cores number past =
    ap (λ (row : Option Row). option_map_or (system_passes (system_field overrides cores)) (option_map (λ row. row.test) row) false)
    (slice_get_past capability_rows number (omega (arith, all_listed, past)))

pub enabled-past : (board : Board) (early : List Core) (number : ℕ) → 53 ≤ number → capability_enabled board early number ≡ false
unfolding capability_enabled is_local_scope
enabled-past board early number past =
    let boot = boot_scope-past number past in
    let local = says-past number (λ row. in_local_scope row.class) past in
    rw (boot, local) (over-past board.overrides early number past)

pub system_is_counted : (number : ℕ) → is_system_scope number ≡ true → number < 53
unfolding is_system_scope
system_is_counted number is = counted number (λ row. in_system_scope row.class) is

pub erratum_is_counted : (number : ℕ) → is_workaround number ≡ true → number < 53
unfolding is_workaround
erratum_is_counted number is = counted number (λ row. workaround row.class) is

pub system_scope_else : (number : ℕ) → number < 53 → is_boot_scope number ≡ false → is_local_scope number ≡ false → is_system_scope number ≡ true
system_scope_else number within boot local = (number_holds number within).decided boot local

-- what else is known of a capability of system scope
pub record SystemScope (number : ℕ) : Type 0 where
  pub not_boot : is_boot_scope number ≡ false
  pub permitted : is_permitted number ≡ true
  pub needed : is_optional number ≡ false

pub system_alone : (number : ℕ) → number < 53 → is_system_scope number ≡ true → SystemScope number
system_alone number within system = let holds = number_holds number within in record {
  not_boot = not_both (is_boot_scope number) (is_system_scope number) holds.boot_not_system system;
  permitted = holds.system_permitted system;
  needed = holds.system_not_optional system;
}

-- what else is known of a local capability
pub record LocalScope (number : ℕ) : Type 0 where
  pub not_boot : is_boot_scope number ≡ false
  pub optional : is_optional number ≡ true

pub local_alone : (number : ℕ) → number < 53 → is_local_scope number ≡ true → LocalScope number
local_alone number within local = let holds = number_holds number within in record {
  not_boot = not_both (is_boot_scope number) (is_local_scope number) holds.boot_not_local local;
  optional = holds.local_optional local;
}

pub panic_is_boot : (number : ℕ) → number < 53 → is_panic number ≡ true → is_boot_scope number ≡ true
panic_is_boot number within panic = (number_holds number within).panic_boot panic

-- what is known of a workaround
pub record Workaround (number : ℕ) : Type 0 where
  pub is_local : is_local_scope number ≡ true
  pub strict : is_permitted number ≡ false

pub erratum_is_local : (number : ℕ) → number < 53 → is_workaround number ≡ true → Workaround number
erratum_is_local number within erratum = let holds = number_holds number within in record {
  is_local = holds.erratum_local erratum;
  strict = holds.erratum_not_permitted erratum;
}

pub cache_type_is_erratum : is_workaround 42 ≡ true
unfolding is_workaround capability_rows
cache_type_is_erratum = refl
