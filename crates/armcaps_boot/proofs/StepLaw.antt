-- Each step keeps what holds of a machine.
use Rattle.std.proofs.Common.{◌≡◌, ◌<◌, inl, inr, ℕ, Bool, true, false, not, cond, ◌&&◌, length, Option, Some, None, refl, sym, ◌∙◌, ap}
use Rattle.std.specs.Prelude.{◌==◌, nat_lt}
use Rattle.std.specs.Option.{option_or, option_map}
use Rattle.std.proofs.lemmas.Bool.Decides.{Decides-ltb, Decides-eqb, not_from_Decides}
use Rattle.armcaps_tables.specs.Core.{Core}
use Rattle.armcaps_board.specs.Board.{Board}
use Rattle.armcaps_boot.specs.Answers.{Answer, answer_of, cause_at_local, check_answer, finalise_answer, first_in_flight, judged, live_answer, local_answer, numbered, offline_answer, store_answer, unless_halted}
use Rattle.armcaps_boot.specs.Causes.{cause_at_check, cause_at_verification, first_conflict, has_capability, has_length, misfit}
use Rattle.armcaps_boot.specs.ParkOrPanic.{stops_machine}
use Rattle.armcaps_boot.specs.Changes.{world_after}
use Rattle.armcaps_boot.specs.Facts.{Facts}
use Rattle.armcaps_boot.specs.Numbers.{first_of}
use Rattle.armcaps_boot.specs.States.{has_passed, is_admitted, is_updated, past_of}
use Rattle.armcaps_boot.specs.World.{World, early_cores, state_at}
use Rattle.armcaps_caps.specs.Capabilities.{conflicts, is_boot_scope, is_panic}
use Rattle.armcaps_hwcap.specs.Hwcaps.{core_has_hwcap}
use Rattle.armcaps_boot.specs.declared.cause.Cause.{Cause}
use Rattle.armcaps_boot.specs.declared.cause.Cause.TheVariants.{Cap, Hwcap, Vector}
use Rattle.armcaps_boot.specs.declared.core_state.CoreState.{CoreState}
use Rattle.armcaps_boot.specs.declared.core_state.CoreState.TheVariants.{Absent, Checked, Updated, Admitted, Offline as Gone, Parked as IsParked, Panicked as HasPanicked}
use Rattle.armcaps_board.specs.declared.event.Event.{Event}
use Rattle.armcaps_board.specs.declared.event.Event.TheVariants.{Check, Local, Store, Offline, Finalise}
use Rattle.armcaps_boot.specs.declared.park_or_panic.Halt.{Halt}
use Rattle.armcaps_boot.specs.declared.past.Past.{Past}
use Rattle.armcaps_boot.specs.declared.past.Past.TheVariants.{Never, Early, Late}
use Rattle.armcaps_boot.proofs.CoreSteps.{facts_checked, facts_left, facts_out, facts_updated, facts_stored, still_running, now_stopped}
use Rattle.armcaps_boot.proofs.Finalising.{facts_final}
use Rattle.armcaps_boot.proofs.FirstNumbers.{first_of-passes}
use Rattle.armcaps_boot.proofs.Below.{panic_is_boot}

-- no cause at verification stops the machine: the capabilities that do are of boot scope
pub misfit_does_not_stop : (enabled advertised told : ℕ → Bool) (board : Board) (core : Core) (cause : Cause)
    → misfit enabled advertised told board core ≡ Some cause → stops_machine cause ≡ false
unfolding misfit
misfit_does_not_stop enabled advertised told board core cause is =
    by (first_conflict (λ number. not (is_boot_scope number)) enabled (has_capability board core)) refl
    (first_of 0 57 (λ index. advertised index && not (core_has_hwcap board.overrides core index)))
    (first_of 1 16 (λ q. told q && not (has_length core.lengths q))) is where
      not_panic : (n : ℕ) → n < 53 → (not (is_boot_scope n) && conflicts n (enabled n) (has_capability board core n)) ≡ true → is_panic n ≡ false
      not_panic n within passes = on (is_panic n) refl where
        on : (b : Bool) → is_panic n ≡ b → b ≡ false
        on false e = refl
        on true e = let scope = panic_is_boot n within e in let bad : false ≡ true = rw scope at passes in absurd (let no : ⊥ = cc in no)

      by : (cap : Option ℕ) → first_conflict (λ number. not (is_boot_scope number)) enabled (has_capability board core) ≡ cap → (hwcap vector : Option ℕ)
          → option_or (option_map Cap cap) (option_or (option_map Hwcap hwcap) (option_map Vector vector)) ≡ Some cause → stops_machine cause ≡ false
      by (Some n) found hwcap vector e =
          let same : Cap n ≡ cause = cc in
          let passes = first_of-passes (λ number. not (is_boot_scope number) && conflicts number (enabled number) (has_capability board core number)) 0 53 n found in
          ap stops_machine (sym same) ∙ not_panic n passes.2 passes.0
      by None found (Some i) vector e = let same : Hwcap i ≡ cause = cc in ap stops_machine (sym same)
      by None found None (Some q) e = let same : Vector q ≡ cause = cc in ap stops_machine (sym same)
      by None found None None e = absurd (let no : ⊥ = cc in no)

-- a step of a core is judged by its number first
numbered_keeps : (w : World) (e : Event) (k : ℕ) (answer : Answer) → Facts w → (k < length w.board.cores → (k ≡ w.board.boot → ⊥) → Facts (world_after w e answer))
    → Facts (world_after w e (numbered w k answer))
numbered_keeps w e k answer f keeps = by (nat_lt k (length w.board.cores)) (k == w.board.boot) refl refl where
  by : (within boot : Bool) → nat_lt k (length w.board.cores) ≡ within → (k == w.board.boot) ≡ boot → Facts (world_after w e (numbered w k answer))
  by false boot a b = rw a f
  by true true a b = rw (a, b) f
  by true false a b = rw (a, b) (keeps ((Decides-ltb k (length w.board.cores)).0 a) (not_from_Decides (k == w.board.boot) (Decides-eqb k w.board.boot) b))

-- a check of a core that was never there, or that comes back
check_keeps : (w : World) (k : ℕ) → Facts w → w.halted ≡ None → k < length w.board.cores → (k ≡ w.board.boot → ⊥)
    → (state : CoreState) → state_at w.states k ≡ state → (cause : Option Cause) → cause_at_check w.board k ≡ cause
    → Facts (world_after w (Check k) (check_answer cause state))
check_keeps w k f running within not_boot Absent is None none =
    facts_checked w f k within not_boot running (ap is_updated is) none
check_keeps w k f running within not_boot Absent is (Some cause) some = by (stops_machine cause) refl where
  by : (b : Bool) → stops_machine cause ≡ b → Facts (world_after w (Check k) (judged (Some cause)))
  by true stops = rw stops
      (facts_out w f k (HasPanicked cause) _ within not_boot (ap past_of is) (ap is_updated is) refl refl refl
      (λ c e. absurd (let no : ⊥ = cc in no)) (λ c e. let same : cause ≡ c = cc in (some ∙ ap Some same, ap stops_machine (sym same) ∙ stops))
      (now_stopped w f k cause within))
  by false stops = rw stops
      (facts_out w f k (IsParked cause) w.halted within not_boot (ap past_of is) (ap is_updated is) refl refl refl
      (λ c e. let same : cause ≡ c = cc in inl (some ∙ ap Some same, ap stops_machine (sym same) ∙ stops)) (λ c e. absurd (let no : ⊥ = cc in no))
      (still_running w f k (IsParked cause) within running (λ c e. cc)))
check_keeps w k f running within not_boot (Gone late) is None none =
    facts_checked w f k within not_boot running (ap is_updated is) none
check_keeps w k f running within not_boot (Gone late) is (Some cause) some =
    absurd (let bad : None ≡ Some cause = sym ((f.states k).passed (ap has_passed is)) ∙ some in let no : ⊥ = cc in no)
check_keeps w k f running within not_boot (IsParked reason) is cause e = f
check_keeps w k f running within not_boot (Checked past) is cause e = f
check_keeps w k f running within not_boot (Updated past) is cause e = f
check_keeps w k f running within not_boot (Admitted late) is cause e = f
check_keeps w k f running within not_boot (HasPanicked reason) is cause e = f

-- a core that was admitted has no cause at verification, so one that has some never was
was_never : (past : Past) → (is_admitted (Checked past) ≡ true → ⊥) → past ≡ Never
was_never Never h = refl
was_never Early h = absurd (h refl)
was_never Late h = absurd (h refl)

local_keeps : (w : World) (k : ℕ) → Facts w → w.halted ≡ None → k < length w.board.cores → (k ≡ w.board.boot → ⊥)
    → (state : CoreState) → state_at w.states k ≡ state → (final : Bool) → w.final ≡ final → (late cause : Option Cause) → cause_at_verification w.board (early_cores w.board w.states) k ≡ late → cause ≡ cond final late None
    → Facts (world_after w (Local k) (local_answer cause state))
local_keeps w k f running within not_boot (Checked past) is final final_is late None late_is same =
    facts_updated w f k past within not_boot running is (λ e. late_is ∙ by final final_is e same) where
      by : (b : Bool) → w.final ≡ b → w.final ≡ true → None ≡ cond b late None → late ≡ None
      by true e t s = sym s
      by false e t s = absurd (let no : ⊥ = cc in no)
local_keeps w k f running within not_boot (Checked past) is false final_is late (Some cause) late_is same = absurd (let no : ⊥ = cc in no)
local_keeps w k f running within not_boot (Checked past) is true final_is late (Some cause) late_is same =
    let found : cause_at_verification w.board (early_cores w.board w.states) k ≡ Some cause = late_is ∙ sym same in
    let stops : stops_machine cause ≡ false = misfit_does_not_stop _ _ _ _ _ cause found in
    let never : past ≡ Never = was_never past (λ admitted. let bad : None ≡ Some cause = sym ((f.states k).verified final_is (ap is_admitted is ∙ admitted)) ∙ found in let no : ⊥ = cc in no) in
    rw stops
    (facts_out w f k (IsParked cause) w.halted within not_boot (ap past_of is ∙ never) (ap is_updated is) refl refl refl
    (λ c e. let same : cause ≡ c = cc in inr ((f.states k).passed (ap has_passed is), final_is, found ∙ ap Some same)) (λ c e. absurd (let no : ⊥ = cc in no))
    (still_running w f k (IsParked cause) within running (λ c e. cc)))
local_keeps w k f running within not_boot (IsParked reason) is final final_is late cause late_is same = f
local_keeps w k f running within not_boot Absent is final final_is late cause late_is same = f
local_keeps w k f running within not_boot (Gone gone) is final final_is late cause late_is same = f
local_keeps w k f running within not_boot (Updated past) is final final_is late cause late_is same = f
local_keeps w k f running within not_boot (Admitted admitted) is final final_is late cause late_is same = f
local_keeps w k f running within not_boot (HasPanicked reason) is final final_is late cause late_is same = f

store_keeps : (w : World) (k : ℕ) → Facts w → w.halted ≡ None → k < length w.board.cores → (k ≡ w.board.boot → ⊥)
    → (state : CoreState) → state_at w.states k ≡ state → Facts (world_after w (Store k) (store_answer state))
store_keeps w k f running within not_boot state is = elim state as (λ s. state_at w.states k ≡ s → Facts (world_after w (Store k) (store_answer s))) [
  | Updated was ↦ facts_stored w f k was within not_boot running
  | _ ↦ λ e. f
] is

offline_keeps : (w : World) (k : ℕ) → Facts w → w.halted ≡ None → k < length w.board.cores → (k ≡ w.board.boot → ⊥)
    → (state : CoreState) → state_at w.states k ≡ state → Facts (world_after w (Offline k) (offline_answer state))
offline_keeps w k f running within not_boot state is = elim state as (λ s. state_at w.states k ≡ s → Facts (world_after w (Offline k) (offline_answer s))) [
  | Admitted late ↦ facts_left w f k late within not_boot running
  | _ ↦ λ e. f
] is

finalise_keeps : (w : World) → Facts w → (final : Bool) → w.final ≡ final → (flying : Option ℕ) → first_in_flight w.states ≡ flying
    → Facts (world_after w Finalise (finalise_answer final flying))
finalise_keeps w f true final None none = f
finalise_keeps w f true final (Some core) some = f
finalise_keeps w f false final None none = facts_final w f final none
finalise_keeps w f false final (Some core) some = f

live_keeps : (w : World) (e : Event) → Facts w → w.halted ≡ None → Facts (world_after w e (live_answer w e))
live_keeps w (Check k) f running =
    numbered_keeps w (Check k) k (check_answer (cause_at_check w.board k) (state_at w.states k)) f
    (λ within not_boot. check_keeps w k f running within not_boot (state_at w.states k) refl (cause_at_check w.board k) refl)
live_keeps w (Local k) f running =
    numbered_keeps w (Local k) k (local_answer (cause_at_local w k) (state_at w.states k)) f
    (λ within not_boot. local_keeps w k f running within not_boot (state_at w.states k) refl w.final refl (cause_at_verification w.board (early_cores w.board w.states) k) (cause_at_local w k) refl refl)
live_keeps w (Store k) f running =
    numbered_keeps w (Store k) k (store_answer (state_at w.states k)) f
    (λ within not_boot. store_keeps w k f running within not_boot (state_at w.states k) refl)
live_keeps w (Offline k) f running =
    numbered_keeps w (Offline k) k (offline_answer (state_at w.states k)) f
    (λ within not_boot. offline_keeps w k f running within not_boot (state_at w.states k) refl)
live_keeps w Finalise f running = finalise_keeps w f w.final refl (first_in_flight w.states) refl

-- whatever step is made, what holds of a machine holds after it
pub step_keeps_facts : (w : World) (e : Event) → Facts w → Facts (world_after w e (answer_of w e))
step_keeps_facts w e f = by w.halted refl where
  by : (h : Option Halt) → w.halted ≡ h → Facts (world_after w e (unless_halted h (live_answer w e)))
  by None running = live_keeps w e f running
  by (Some halt) stopped = f
