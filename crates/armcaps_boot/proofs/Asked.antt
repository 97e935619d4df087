-- What the code asks of what it keeps is what the definitions say.
use Rattle.std.proofs.Common.{◌≡◌, ◌<◌, ℕ, Bool, true, false, not, cond, ◌&&◌, ◌||◌, List, Option, Some, None, refl, sym, ◌∙◌, ap, subst}
use Rattle.std.specs.Prelude.{nat_lt}
use Rattle.std.specs.List.{list_any}
use Rattle.std.specs.Option.{option_or, option_map}
use Rattle.armcaps_enc.specs.declared.register.SysReg.TheVariants.{CtrEl0}
use Rattle.armcaps_tables.specs.Core.{Core, core_word, word_at}
use Rattle.armcaps_sanit.specs.System.{IsSystemOf}
use Rattle.armcaps_caps.specs.Capabilities.{conflicts, core_has_capability, is_boot_scope, is_local_scope, system_has_capability}
use Rattle.armcaps_caps.specs.Set.{holds}
use Rattle.armcaps_hwcap.specs.declared.hw_set.HwSet.{HwSet}
use Rattle.armcaps_hwcap.specs.Hwcaps.{core_has_hwcap}
use Rattle.armcaps_hwcap.specs.Words.{set_has_row}
use Rattle.armcaps_boot.specs.declared.cause.Cause.TheVariants.{Asid, Cap, Hwcap, Vector}
use Rattle.armcaps_board.specs.Board.{boot_core, core_at}
use Rattle.armcaps_boot.specs.Answers.{first_in_flight}
use Rattle.armcaps_boot.specs.Causes.{asid_bits, capability_enabled, cause_at_check, first_conflict, has_capability, has_length, hwcap_advertised, is_system_length, misfit}
use Rattle.armcaps_boot.specs.Facts.{Facts, noted_cores}
use Rattle.armcaps_boot.specs.Numbers.{first_of, is_in, numbers}
use Rattle.armcaps_boot.specs.Scopes.{conflict_with, enabled_by, held_at_check, lack_of}
use Rattle.armcaps_boot.specs.States.{is_early, is_updated}
use Rattle.armcaps_boot.specs.World.{World, early_cores, state_at}
use Rattle.armcaps_caps.proofs.Shared.{system_has_capability-over}
use Rattle.armcaps_boot.proofs.CacheType.{early_cache_type, late_cache_type, is_not_boot_42}
use Rattle.armcaps_boot.proofs.ChosenCores.{chosen-same}
use Rattle.armcaps_boot.proofs.EarlyCores.{boot_enabled, local_enabled, system_enabled}
use Rattle.armcaps_boot.proofs.Finalising.{all_early, none_updated}
use Rattle.armcaps_boot.proofs.FirstNumbers.{is_in-numbers, first_of-same, numbers-same}
use Rattle.armcaps_caps.proofs.Shared.{core_has_capability-ctr}
use Rattle.armcaps_hwcap.proofs.Sets.{set_has_row-made}

-- a member of a set is one of the numbers listed of it
listed : (set : List Bool) (bits n : ℕ) → set ≡ numbers 53 (holds bits) → n < 53 → holds bits n ≡ is_in set n
listed set bits n is within = sym (is_in-numbers (holds bits) 53 n within) ∙ ap (λ (s : List Bool). is_in s n) (sym is)

-- a capability of boot scope is enabled by the boot core alone, before and after finalisation
pub boot_scope_enabled : (w : World) → Facts w → (n : ℕ) → n < 53 → is_boot_scope n ≡ true → is_in w.enabled n ≡ has_capability w.board (boot_core w.board) n
boot_scope_enabled w f n within scope = by w.final refl where
  by : (final : Bool) → w.final ≡ final → is_in w.enabled n ≡ has_capability w.board (boot_core w.board) n
  by true final =
      ap (λ (s : List Bool). is_in s n) (f.decided final).enabled
      ∙ is_in-numbers (capability_enabled w.board (early_cores w.board w.states)) 53 n within
      ∙ boot_enabled w.board (early_cores w.board w.states) n scope
  by false final =
      ap (λ (s : List Bool). is_in s n) (f.gathering final).enabled
      ∙ is_in-numbers (λ m. is_boot_scope m && has_capability w.board (boot_core w.board) m) 53 n within
      ∙ ap (λ b. b && has_capability w.board (boot_core w.board) n) scope

not_42 : (n : ℕ) → is_boot_scope n ≡ true → n ≡ 42 → ⊥
not_42 n scope here = let bad : true ≡ false = sym scope ∙ ap is_boot_scope here ∙ is_not_boot_42 in let no : ⊥ = cc in no

-- what holds a core back at its check is its cause at the check
pub held-at_check : (w : World) → Facts w → (enabled : ℕ) (number : ℕ) → w.enabled ≡ numbers 53 (holds enabled)
    → held_at_check enabled w.board (core_at w.board.cores number) (word_at w.system CtrEl0) ≡ cause_at_check w.board number
unfolding held_at_check conflict_with cause_at_check
held-at_check w f enabled number is =
    ap (λ (found : Option ℕ). cond (nat_lt (asid_bits core) (asid_bits (boot_core w.board))) (Some Asid) (option_map Cap found))
    (first_of-same _ _ 0 53 (λ n low within. at n within (is_boot_scope n) refl)) where
      core : Core
      core = core_at w.board.cores number

      at : (n : ℕ) → n < 53 → (scope : Bool) → is_boot_scope n ≡ scope
          → (is_boot_scope n && conflicts n (holds enabled n) (core_has_capability w.board.overrides (boot_core w.board) (word_at w.system CtrEl0) core n))
          ≡ (is_boot_scope n && conflicts n (has_capability w.board (boot_core w.board) n) (has_capability w.board core n))
      at n within false scope = rw scope
      at n within true scope =
          let on = listed w.enabled enabled n is within ∙ boot_scope_enabled w f n within scope in
          let has = core_has_capability-ctr w.board.overrides (boot_core w.board) core (word_at w.system CtrEl0) (core_word (boot_core w.board) CtrEl0) n (not_42 n scope) in
          rw (on, has)

-- what a core lacks of what the system has is its cause at verification
pub lack-at_verification : (w : World) → Facts w → w.final ≡ true → (enabled : ℕ) (core : Core) → w.enabled ≡ numbers 53 (holds enabled)
    → lack_of enabled w.hwcaps w.lengths w.board core (word_at w.system CtrEl0)
    ≡ misfit (capability_enabled w.board (early_cores w.board w.states)) (hwcap_advertised w.board (early_cores w.board w.states))
    (is_system_length w.board (early_cores w.board w.states)) w.board core
unfolding lack_of conflict_with misfit
lack-at_verification w f final enabled core is =
    let caps = first_of-same (λ n. not (is_boot_scope n) && conflicts n (holds enabled n) (core_has_capability w.board.overrides (boot_core w.board) (word_at w.system CtrEl0) core n))
    (λ n. not (is_boot_scope n) && conflicts n (capability_enabled w.board (early_cores w.board w.states) n) (has_capability w.board core n)) 0 53 (λ n low within.
    ap (λ b. not (is_boot_scope n) && conflicts n b (core_has_capability w.board.overrides (boot_core w.board) (word_at w.system CtrEl0) core n)) (on n within)
    ∙ ap (λ b. not (is_boot_scope n) && b) (late_cache_type w f final core n within)) in
    let hwcaps = first_of-same (λ i. set_has_row w.hwcaps i && not (core_has_hwcap w.board.overrides core i))
    (λ i. hwcap_advertised w.board (early_cores w.board w.states) i && not (core_has_hwcap w.board.overrides core i)) 0 57 (λ i low within.
    ap (λ b. b && not (core_has_hwcap w.board.overrides core i))
    (set_has_row-made w.hwcaps (hwcap_advertised w.board (early_cores w.board w.states)) i within (ap (λ (s : HwSet). s.hwcap) (f.decided final).hwcaps) (ap (λ (s : HwSet). s.hwcap2) (f.decided final).hwcaps))) in
    let lengths = first_of-same (λ q. has_length w.lengths q && not (has_length core.lengths q))
    (λ q. is_system_length w.board (early_cores w.board w.states) q && not (has_length core.lengths q)) 1 16 (λ q low within.
    ap (λ b. b && not (has_length core.lengths q)) ((f.decided final).lengths q)) in
    ap (λ (found : Option ℕ). option_or (option_map Cap found) (option_or (option_map Hwcap (first_of 0 57 (λ i. set_has_row w.hwcaps i && not (core_has_hwcap w.board.overrides core i))))
    (option_map Vector (first_of 1 16 (λ q. has_length w.lengths q && not (has_length core.lengths q)))))) caps
    ∙ ap (λ (found : Option ℕ). option_or (option_map Cap (first_conflict (λ n. not (is_boot_scope n)) (capability_enabled w.board (early_cores w.board w.states)) (has_capability w.board core)))
    (option_or (option_map Hwcap found) (option_map Vector (first_of 1 16 (λ q. has_length w.lengths q && not (has_length core.lengths q)))))) hwcaps
    ∙ ap (λ (found : Option ℕ). option_or (option_map Cap (first_conflict (λ n. not (is_boot_scope n)) (capability_enabled w.board (early_cores w.board w.states)) (has_capability w.board core)))
    (option_or (option_map Hwcap (first_of 0 57 (λ i. hwcap_advertised w.board (early_cores w.board w.states) i && not (core_has_hwcap w.board.overrides core i)))) (option_map Vector found))) lengths
  where
    on : (n : ℕ) → n < 53 → holds enabled n ≡ capability_enabled w.board (early_cores w.board w.states) n
    on n within =
        listed w.enabled enabled n is within ∙ ap (λ (s : List Bool). is_in s n) (f.decided final).enabled
        ∙ is_in-numbers (capability_enabled w.board (early_cores w.board w.states)) 53 n within

-- what is noted of one more core
pub noted-local : (w : World) → Facts w → w.final ≡ false → (noted more : ℕ) (core : Core) → w.noted ≡ numbers 53 (holds noted)
    → ((n : ℕ) → n < 53 → holds more n ≡ (holds noted n || (is_local_scope n && core_has_capability w.board.overrides (boot_core w.board) (word_at w.system CtrEl0) core n)))
    → numbers 53 (holds more) ≡ numbers 53 (λ n. is_in w.noted n || (is_local_scope n && has_capability w.board core n))
noted-local w f final noted more core is holds_more =
    numbers-same _ _ 53 (λ n within.
    holds_more n within
    ∙ ap (λ b. b || (is_local_scope n && core_has_capability w.board.overrides (boot_core w.board) (word_at w.system CtrEl0) core n)) (listed w.noted noted n is within)
    ∙ early_cache_type w f final core n within)

-- where no core is coming up, the noted capabilities are those of the early cores
none_coming : (w : World) → Facts w → first_in_flight w.states ≡ None → noted_cores w ≡ early_cores w.board w.states
none_coming w f none =
    chosen-same (λ n. is_early (state_at w.states n) || is_updated (state_at w.states n)) (λ n. is_early (state_at w.states n)) w.board.cores (λ k.
    ap (λ b. is_early (state_at w.states k) || b) (none_updated w f none k) ∙ or_false (is_early (state_at w.states k))) where
      or_false : (b : Bool) → (b || false) ≡ b
      or_false true = refl
      or_false false = refl

-- what is decided at finalisation
pub decided-enabled : (w : World) → Facts w → w.final ≡ false → first_in_flight w.states ≡ None → (enabled noted : ℕ)
    → w.enabled ≡ numbers 53 (holds enabled) → w.noted ≡ numbers 53 (holds noted)
    → (n : ℕ) → n < 53 → enabled_by enabled noted w.system n ≡ capability_enabled w.board (early_cores w.board w.states) n
unfolding enabled_by
decided-enabled w f final none enabled noted enabled_is noted_is n within = by (is_boot_scope n) refl (is_local_scope n) refl where
  by : (boot : Bool) → is_boot_scope n ≡ boot → (local : Bool) → is_local_scope n ≡ local
      → cond (is_boot_scope n) (holds enabled n) (cond (is_local_scope n) (holds noted n) (system_has_capability w.system n))
      ≡ capability_enabled w.board (early_cores w.board w.states) n
  by true boot local local_is =
      rw boot (listed w.enabled enabled n enabled_is within ∙ boot_scope_enabled w f n within boot ∙ sym (boot_enabled w.board (early_cores w.board w.states) n boot))
  by false boot true local =
      rw (boot, local)
      (listed w.noted noted n noted_is within ∙ ap (λ (s : List Bool). is_in s n) (f.gathering final).noted
      ∙ is_in-numbers (λ m. is_local_scope m && list_any (λ core. has_capability w.board core m) (noted_cores w)) 53 n within
      ∙ ap (λ b. b && list_any (λ core. has_capability w.board core n) (noted_cores w)) local
      ∙ ap (list_any (λ core. has_capability w.board core n)) (none_coming w f none)
      ∙ sym (local_enabled w.board (early_cores w.board w.states) n boot local))
  by false boot false local =
      rw (boot, local)
      (system_has_capability-over w.board.overrides (early_cores w.board w.states) w.system n (subst (λ (l : List Core). IsSystemOf w.board.overrides l w.system) (all_early w f final) f.system)
      ∙ sym (system_enabled w.board (early_cores w.board w.states) n boot local))
