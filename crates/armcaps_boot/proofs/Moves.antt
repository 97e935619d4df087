-- What a step of one core leaves of what held before it.
use Rattle.std.proofs.Common.{◌≡◌, ◌<◌, ◌⊎◌, inl, inr, ℕ, Bool, true, false, List, length, Option, sym, ◌∙◌, ap, subst, set, get_or-set_same, get_or-set_other, length-set, arith}
use Rattle.std.proofs.lemmas.Bool.{cases_eq}
use Rattle.armcaps_tables.specs.Core.{Core}
use Rattle.armcaps_sanit.specs.System.{IsSystemOf, system_words}
use Rattle.armcaps_enc.specs.declared.register.SysReg.TheVariants.{CtrEl0}
use Rattle.armcaps_tables.specs.Core.{word_at}
use Rattle.armcaps_boot.specs.declared.cause.Cause.{Cause}
use Rattle.armcaps_boot.specs.declared.core_state.CoreState.{CoreState}
use Rattle.armcaps_boot.specs.declared.core_state.CoreState.TheVariants.{Absent}
use Rattle.armcaps_boot.specs.declared.park_or_panic.Halt.{Halt}
use Rattle.armcaps_boot.specs.Causes.{capability_enabled, cause_at_check, cause_at_verification, has_length, is_system_length}
use Rattle.armcaps_boot.specs.Changes.{hwcaps_over}
use Rattle.armcaps_boot.specs.Facts.{Facts, IsDecided, IsGathering, IsHalt, IsStateOf, StateFits}
use Rattle.armcaps_boot.specs.Numbers.{numbers}
use Rattle.armcaps_boot.specs.States.{is_early}
use Rattle.armcaps_boot.specs.World.{World, admitted_cores, early_cores, state_at}
use Rattle.armcaps_boot.proofs.ChosenCores.{chosen-same}

-- a core has another state, and with it some other parts have other values
abbrev pub moved : World → ℕ → CoreState → Option Halt → List ℕ → List Bool → ℕ → World
moved world k state halted system noted common =
    record world { states = set world.states k state; halted = halted; system = system; noted = noted; common_lengths = common }

-- a test of a core's state is as before where it is as before for the core that moved
pub test-same : (test : CoreState → Bool) (states : List CoreState) (k : ℕ) (state : CoreState) → k < length states
    → test (state_at states k) ≡ test state → (j : ℕ) → test (state_at states j) ≡ test (state_at (set states k state) j)
test-same test states k state within same j = by (cases_eq j k) where
  by : (j ≡ k) ⊎ (j ≡ k → ⊥) → test (state_at states j) ≡ test (state_at (set states k state) j)
  by (inl here) =
      let there : state_at (set states k state) k ≡ state = get_or-set_same states k state Absent within in
      rw (here, there) same
  by (inr elsewhere) = let there : state_at (set states k state) j ≡ state_at states j = get_or-set_other states k j state Absent elsewhere in rw there

pub state-other : (states : List CoreState) (k j : ℕ) (state : CoreState) → (j ≡ k → ⊥) → state_at (set states k state) j ≡ state_at states j
state-other states k j state elsewhere = get_or-set_other states k j state Absent elsewhere

pub state-here : (states : List CoreState) (k : ℕ) (state : CoreState) → k < length states → state_at (set states k state) k ≡ state
state-here states k state within = get_or-set_same states k state Absent within

-- the cause at verification counts after finalisation alone
pub state_fits-same : (final : Bool) (early late other : Option Cause) (state : CoreState) → (final ≡ true → late ≡ other)
    → IsStateOf final early late state → IsStateOf final early other state
state_fits-same final early late other state same fits = record {
  passed = fits.passed;
  verified = λ f a. sym (same f) ∙ fits.verified f a;
  updated = λ f u. sym (same f) ∙ fits.updated f u;
  after_finalise = fits.after_finalise;
  parked = λ cause is. elim (fits.parked cause is) [ inl e ↦ inl e | inr l ↦ inr (l.0, l.1, sym (same l.1) ∙ l.2) ];
  panicked = fits.panicked;
}

pub facts_moved : (w : World) (f : Facts w) (k : ℕ) (state : CoreState) (halted : Option Halt) (system : List ℕ) (noted : List Bool) (common : ℕ)
    → k < length w.board.cores → (k ≡ w.board.boot → ⊥)
    → (w.final ≡ true → is_early (state_at w.states k) ≡ is_early state)
    → IsSystemOf w.board.overrides (admitted_cores w.board (set w.states k state)) system
    → IsStateOf w.final (cause_at_check w.board k)
    (cause_at_verification w.board (early_cores w.board w.states) k) state
    → IsHalt halted (set w.states k state)
    → (w.final ≡ false → IsGathering (moved w k state halted system noted common))
    → Facts (moved w k state halted system noted common)
facts_moved w f k state halted system noted common within not_boot early stands fits halts gathers = record {
  sizes = length-set w.states k state ∙ f.sizes;
  few = f.few;
  within = f.within;
  plain_ctr = f.plain_ctr;
  system = stands;
  boot = state-other w.states k w.board.boot state (λ e. not_boot (sym e)) ∙ f.boot;
  states = fits_all;
  halted = halts;
  gathering = gathers;
  decided = decides;
} where
  after : World
  after = moved w k state halted system noted common

  inside : k < length w.states
  inside = omega (arith, f.sizes)

  early_stay : w.final ≡ true → early_cores w.board w.states ≡ early_cores w.board (set w.states k state)
  early_stay final =
      chosen-same (λ n. is_early (state_at w.states n)) (λ n. is_early (state_at (set w.states k state) n)) w.board.cores
      (test-same is_early w.states k state inside (early final))

  late_stays : (j : ℕ) → w.final ≡ true
      → cause_at_verification w.board (early_cores w.board w.states) j
      ≡ cause_at_verification w.board (early_cores w.board (set w.states k state)) j
  late_stays j final = ap (λ (l : List Core). cause_at_verification w.board l j) (early_stay final)

  fits_at : (j : ℕ) (s : CoreState) → state_at (set w.states k state) j ≡ s
      → IsStateOf w.final (cause_at_check w.board j) (cause_at_verification w.board (early_cores w.board w.states) j) s
      → StateFits (moved w k state halted system noted common) j
  fits_at j s is h =
      state_fits-same w.final _ _ _ _ (late_stays j)
      (subst (λ (t : CoreState). IsStateOf w.final (cause_at_check w.board j) (cause_at_verification w.board (early_cores w.board w.states) j) t) (sym is) h)

  fits_all : (j : ℕ) → StateFits (moved w k state halted system noted common) j
  fits_all j = by (cases_eq k j) where
    by : (k ≡ j) ⊎ (k ≡ j → ⊥) → StateFits (moved w k state halted system noted common) j
    by (inl here) = subst (λ (n : ℕ). StateFits (moved w k state halted system noted common) n) here (fits_at k state (state-here w.states k state inside) fits)
    by (inr elsewhere) = fits_at j (state_at w.states j) (state-other w.states k j state (λ e. elsewhere (sym e))) (f.states j)

  decides : w.final ≡ true → IsDecided (moved w k state halted system noted common)
  decides final = let d = f.decided final in record {
    enabled = subst (λ (l : List Core). w.enabled ≡ numbers 53 (capability_enabled w.board l)) (early_stay final) d.enabled;
    hwcaps = subst (λ (l : List Core). w.hwcaps ≡ hwcaps_over w.board l) (early_stay final) d.hwcaps;
    final_ctr = subst (λ (l : List Core). w.final_ctr ≡ word_at (system_words w.board.overrides l) CtrEl0) (early_stay final) d.final_ctr;
    lengths = λ q. subst (λ (l : List Core). has_length w.lengths q ≡ is_system_length w.board l q) (early_stay final) (d.lengths q);
  }
