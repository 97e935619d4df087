-- The heart of finalisation: what is decided over the early cores, each of them has.
use Rattle.std.proofs.Common.{◌≡◌, ◌<◌, ℕ, Bool, true, false, not, ◌&&◌, List, None, refl, sym, ◌∙◌, ap}
use Rattle.std.specs.List.{list_any, list_all}
use Rattle.armcaps_enc.specs.declared.register.SysReg.TheVariants.{CtrEl0}
use Rattle.armcaps_tables.specs.Core.{Core, core_word}
use Rattle.armcaps_tables.specs.Overriding.{AllFit}
use Rattle.armcaps_board.specs.Board.{Board, boot_core}
use Rattle.armcaps_boot.specs.Causes.{capability_enabled, first_conflict, has_capability, has_length, hwcap_advertised, is_system_length, misfit}
use Rattle.armcaps_boot.specs.Numbers.{first_of}
use Rattle.armcaps_caps.specs.Capabilities.{capability_over, conflicts, is_boot_scope, is_local_scope, is_optional, is_permitted}
use Rattle.armcaps_hwcap.specs.Hwcaps.{core_has_hwcap, hwcap_over}
use Rattle.armcaps_boot.proofs.ChosenCores.{Among, any-among, all-among}
use Rattle.armcaps_boot.proofs.FirstNumbers.{first_of-none}
use Rattle.armcaps_caps.proofs.Shared.{capability_over-each}
use Rattle.armcaps_hwcap.proofs.Shown.{hwcap_over-each}
use Rattle.armcaps_boot.proofs.Below.{system_scope_else, system_alone, local_alone}
use Rattle.armcaps_caps.proofs.Classes.{conflicts-both, conflicts-neither, conflicts-lacking, conflicts-bringing}

pub boot_enabled : (board : Board) (early : List Core) (n : ℕ) → is_boot_scope n ≡ true
    → capability_enabled board early n ≡ has_capability board (boot_core board) n
unfolding capability_enabled
boot_enabled board early n scope = rw scope

pub local_enabled : (board : Board) (early : List Core) (n : ℕ) → is_boot_scope n ≡ false → is_local_scope n ≡ true
    → capability_enabled board early n ≡ list_any (λ core. has_capability board core n) early
unfolding capability_enabled
local_enabled board early n other scope = rw (other, scope)

pub system_enabled : (board : Board) (early : List Core) (n : ℕ) → is_boot_scope n ≡ false → is_local_scope n ≡ false
    → capability_enabled board early n ≡ capability_over board.overrides early n
unfolding capability_enabled
system_enabled board early n other scope = rw (other, scope)

-- no conflict where what is enabled is had, and what is not enabled is permitted or not had
no_conflict : (n : ℕ) (enabled has : Bool) → (enabled ≡ true → has ≡ false → is_optional n ≡ true) → (enabled ≡ false → has ≡ true → is_permitted n ≡ true)
    → conflicts n enabled has ≡ false
no_conflict n true true lacked brought = conflicts-both n
no_conflict n true false lacked brought = conflicts-lacking n ∙ ap not (lacked refl refl)
no_conflict n false true lacked brought = conflicts-bringing n ∙ ap not (brought refl refl)
no_conflict n false false lacked brought = conflicts-neither n

fits_local : (n : ℕ) (enabled has : Bool) → is_optional n ≡ true → (has ≡ true → enabled ≡ true) → conflicts n enabled has ≡ false
fits_local n enabled has optional shown =
    no_conflict n enabled has (λ e h. optional) (λ e h. absurd (let bad : true ≡ false = sym (shown h) ∙ e in let no : ⊥ = cc in no))

fits_system : (n : ℕ) (enabled has : Bool) → is_permitted n ≡ true → (enabled ≡ true → has ≡ true) → conflicts n enabled has ≡ false
fits_system n enabled has permitted had =
    no_conflict n enabled has (λ e h. absurd (let bad : true ≡ false = sym (had e) ∙ h in let no : ⊥ = cc in no)) (λ e h. permitted)

-- an early core is in no conflict with what is decided over the early cores
pub early_no_conflict : (board : Board) (early : List Core) (core : Core) (n : ℕ) → AllFit board.overrides → Among early core → n < 53
    → (not (is_boot_scope n) && conflicts n (capability_enabled board early n) (has_capability board core n)) ≡ false
early_no_conflict board early core n fit among within = on (is_boot_scope n) refl (is_local_scope n) refl where
  local : is_boot_scope n ≡ false → is_local_scope n ≡ true → conflicts n (capability_enabled board early n) (has_capability board core n) ≡ false
  local other scope =
      fits_local n _ _ ((local_alone n within scope).optional)
      (λ has. local_enabled board early n other scope ∙ any-among (λ c. has_capability board c n) early core among has)

  system : is_boot_scope n ≡ false → is_local_scope n ≡ false → conflicts n (capability_enabled board early n) (has_capability board core n) ≡ false
  system other scope =
      let systems = system_scope_else n within other scope in
      fits_system n _ _ ((system_alone n within systems).permitted)
      (λ enabled. capability_over-each board.overrides among.before among.after (boot_core board) core (core_word (boot_core board) CtrEl0) n
      (ap (λ (l : List Core). capability_over board.overrides l n) (sym among.is) ∙ sym (system_enabled board early n other scope) ∙ enabled))

  on : (b : Bool) → is_boot_scope n ≡ b → (l : Bool) → is_local_scope n ≡ l → (not (is_boot_scope n) && conflicts n (capability_enabled board early n) (has_capability board core n)) ≡ false
  on true is l local_is = rw is
  on false is true local_is = rw is (local is local_is)
  on false is false local_is = rw is (system is local_is)

-- an early core has each hwcap that is advertised
pub early_no_lack : (board : Board) (early : List Core) (core : Core) (index : ℕ) → AllFit board.overrides → Among early core → index < 57
    → (hwcap_advertised board early index && not (core_has_hwcap board.overrides core index)) ≡ false
early_no_lack board early core index fit among within = on (hwcap_advertised board early index) refl where
  on : (b : Bool) → hwcap_advertised board early index ≡ b → (hwcap_advertised board early index && not (core_has_hwcap board.overrides core index)) ≡ false
  on false is = rw is
  on true is =
      let has : core_has_hwcap board.overrides core index ≡ true = hwcap_over-each board.overrides among.before among.after core index
      (ap (λ (l : List Core). hwcap_over board.overrides l index) (sym among.is) ∙ is) in
      rw (is, has)

-- an early core has each vector length that is told
pub early_no_short : (board : Board) (early : List Core) (core : Core) (q : ℕ) → Among early core
    → (is_system_length board early q && not (has_length core.lengths q)) ≡ false
early_no_short board early core q among =
    on (capability_enabled board early 36) (list_all (λ c. has_length c.lengths q) early) refl (has_length core.lengths q)
    (all-among (λ c. has_length c.lengths q) early core among) where
      on : (a b : Bool) → list_all (λ c. has_length c.lengths q) early ≡ b → (h : Bool) → (list_all (λ c. has_length c.lengths q) early ≡ true → h ≡ true) → ((a && b) && not h) ≡ false
      on a true is h had = let e = had is in let goal : ((a && true) && not true) ≡ false = by a in rw e goal where
        by : (a : Bool) → ((a && true) && not true) ≡ false
        by true = refl
        by false = refl
      on a false is h had = by a where
        by : (a : Bool) → ((a && false) && not h) ≡ false
        by true = refl
        by false = refl

-- an early core fits the system that the early cores make
pub early_core_fits : (board : Board) (early : List Core) (core : Core) → AllFit board.overrides → Among early core
    → misfit (capability_enabled board early) (hwcap_advertised board early) (is_system_length board early) board core ≡ None
unfolding misfit
early_core_fits board early core fit among =
    let caps : first_conflict (λ n. not (is_boot_scope n)) (capability_enabled board early) (has_capability board core) ≡ None =
    first_of-none _ 0 53 (λ n low high. early_no_conflict board early core n fit among high) in
    let hwcaps : first_of 0 57 (λ index. hwcap_advertised board early index && not (core_has_hwcap board.overrides core index)) ≡ None =
    first_of-none _ 0 57 (λ index low high. early_no_lack board early core index fit among high) in
    let lengths : first_of 1 16 (λ q. is_system_length board early q && not (has_length core.lengths q)) ≡ None =
    first_of-none _ 1 16 (λ q low high. early_no_short board early core q among) in
    rw (caps, hwcaps, lengths)
