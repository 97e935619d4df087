-- What finalisation keeps of what holds of a machine.
use Rattle.std.proofs.Common.{◌≡◌, ◌<◌, ◌≤◌, ◌⊎◌, inl, inr, ℕ, Bool, true, false, cond, ◌&&◌, List, length, Option, None, refl, sym, ◌∙◌, ap, arith}
use Rattle.std.proofs.lemmas.Bool.{cases_lt}
use Rattle.std.proofs.lemmas.List.{get_or_past}
use Rattle.armcaps_enc.specs.declared.register.SysReg.TheVariants.{CtrEl0}
use Rattle.armcaps_tables.specs.Core.{Core, word_at}
use Rattle.armcaps_sanit.specs.System.{system_words}
use Rattle.armcaps_boot.specs.declared.cause.Cause.{Cause}
use Rattle.armcaps_boot.specs.declared.core_state.CoreState.{CoreState}
use Rattle.armcaps_boot.specs.declared.core_state.CoreState.TheVariants.{Absent, Checked, Updated}
use Rattle.armcaps_boot.specs.declared.past.Past.{Past}
use Rattle.armcaps_boot.specs.declared.past.Past.TheVariants.{Never, Early, Late}
use Rattle.armcaps_board.specs.Board.{core_at}
use Rattle.armcaps_boot.specs.Answers.{first_in_flight}
use Rattle.armcaps_boot.specs.Causes.{capability_enabled, cause_at_verification, has_length}
use Rattle.armcaps_boot.specs.Changes.{final_world}
use Rattle.armcaps_boot.specs.Facts.{Facts, IsDecided, IsParkedFor}
use Rattle.armcaps_boot.specs.States.{is_admitted, is_admitted_past, is_early, is_early_past, is_in_flight, is_late, is_late_past, is_updated, past_of}
use Rattle.armcaps_boot.specs.World.{World, admitted_cores, early_cores, state_at}
use Rattle.armcaps_boot.proofs.ChosenCores.{chosen-same, chosen-among}
use Rattle.armcaps_boot.proofs.EarlyCores.{early_core_fits}
use Rattle.armcaps_boot.proofs.FirstNumbers.{first_of-fails}
use Rattle.armcaps_boot.proofs.Gathered.{has_length-none}

early_or_late : (past : Past) → is_late_past past ≡ false → is_admitted_past past ≡ is_early_past past
early_or_late Never e = refl
early_or_late Early e = refl
early_or_late Late e = absurd (let no : ⊥ = cc in no)

not_true : (b : Bool) → (b ≡ true → ⊥) → b ≡ false
not_true true h = absurd (h refl)
not_true false h = refl

-- before finalisation no core is late
pub none_late : (w : World) → Facts w → w.final ≡ false → (j : ℕ) → is_admitted (state_at w.states j) ≡ is_early (state_at w.states j)
none_late w f final j =
    early_or_late (past_of (state_at w.states j))
    (not_true (is_late (state_at w.states j)) (λ late. let bad : true ≡ false = sym ((f.states j).after_finalise late) ∙ final in let no : ⊥ = cc in no))

-- so all admitted cores are early ones
pub all_early : (w : World) → Facts w → w.final ≡ false → admitted_cores w.board w.states ≡ early_cores w.board w.states
all_early w f final =
    chosen-same (λ n. is_admitted (state_at w.states n)) (λ n. is_early (state_at w.states n)) w.board.cores (none_late w f final)

pub past_the_cores : (states : List CoreState) (j : ℕ) → length states ≤ j → state_at states j ≡ Absent
past_the_cores states j past = get_or_past states j Absent past

-- an admitted core is one of the machine's
pub admitted_within : (w : World) → Facts w → (test : CoreState → Bool) → test Absent ≡ false → (j : ℕ) → test (state_at w.states j) ≡ true → j < length w.board.cores
admitted_within w f test absent j is = by (cases_lt j (length w.board.cores)) where
  by : (j < length w.board.cores) ⊎ (length w.board.cores ≤ j) → j < length w.board.cores
  by (inl within) = within
  by (inr past) = absurd (let bad : true ≡ false = sym is ∙ ap test (past_the_cores w.states j (omega (arith, f.sizes))) ∙ absent in let no : ⊥ = cc in no)

updated_flies : (state : CoreState) → is_in_flight state ≡ false → is_updated state ≡ false
updated_flies state e = elim state as (λ s. is_in_flight s ≡ false → is_updated s ≡ false) [
  | Checked past ↦ λ h. refl
  | Updated past ↦ λ h. h
  | _ ↦ λ h. refl
] e

pub none_updated : (w : World) → Facts w → first_in_flight w.states ≡ None → (j : ℕ) → is_updated (state_at w.states j) ≡ false
none_updated w f none j = by (cases_lt j (length w.states)) where
  by : (j < length w.states) ⊎ (length w.states ≤ j) → is_updated (state_at w.states j) ≡ false
  by (inl within) = updated_flies (state_at w.states j) (first_of-fails (λ n. is_in_flight (state_at w.states n)) 0 (length w.states) none j (omega arith) (omega arith))
  by (inr past) = ap is_updated (past_the_cores w.states j past)

lengths_told : (enabled all : Bool) (kept q : ℕ) → has_length kept q ≡ all → has_length (cond enabled kept 0) q ≡ (enabled && all)
lengths_told true all kept q e = e
lengths_told false all kept q e = has_length-none q

pub facts_final : (w : World) (f : Facts w) → w.final ≡ false → first_in_flight w.states ≡ None → Facts (final_world w)
facts_final w f final none = record {
  sizes = f.sizes;
  few = f.few;
  within = f.within;
  plain_ctr = f.plain_ctr;
  system = f.system;
  boot = f.boot;
  states = λ j. record {
    passed = (f.states j).passed;
    verified = λ _ admitted. fits j admitted;
    updated = λ _ u. absurd (let bad : true ≡ false = sym u ∙ none_updated w f none j in let no : ⊥ = cc in no);
    after_finalise = λ _. refl;
    parked = λ cause is. parked _ _ cause ((f.states j).parked cause is);
    panicked = (f.states j).panicked;
  };
  halted = f.halted;
  gathering = λ e. absurd (let no : ⊥ = cc in no);
  decided = λ _. decides;
} where
  fits : (j : ℕ) → is_admitted (state_at w.states j) ≡ true → cause_at_verification w.board (early_cores w.board w.states) j ≡ None
  fits j admitted =
      let early : is_early (state_at w.states j) ≡ true = sym (none_late w f final j) ∙ admitted in
      early_core_fits w.board (early_cores w.board w.states) (core_at w.board.cores j) f.system.fit
      (chosen-among (λ n. is_early (state_at w.states n)) w.board.cores j (admitted_within w f is_early refl j early) early)

  parked : (early late : Option Cause) (cause : Cause) → IsParkedFor w.final early late cause → IsParkedFor true early late cause
  parked early late cause (inl e) = inl e
  parked early late cause (inr l) = absurd (let bad : true ≡ false = sym l.1 ∙ final in let no : ⊥ = cc in no)

  decides : IsDecided (final_world w)
  decides = let g = f.gathering final in record {
    enabled = refl;
    hwcaps = refl;
    final_ctr = ap (λ (words : List ℕ). word_at words CtrEl0) f.system.words ∙ ap (λ (l : List Core). word_at (system_words w.board.overrides l) CtrEl0) (all_early w f final);
    lengths = λ q. lengths_told (capability_enabled w.board (early_cores w.board w.states) 36) _ w.common_lengths q (g.common_lengths q);
  }
