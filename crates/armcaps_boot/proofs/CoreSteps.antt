-- What a step of one core keeps of what holds of a machine.
use Rattle.std.proofs.Common.{◌≡◌, ◌<◌, ◌⊎◌, inl, inr, ℕ, Bool, true, false, cond, ◌&&◌, ◌||◌, List, length, Option, Some, None, refl, sym, ◌∙◌, ap, subst, set, arith}
use Rattle.std.specs.Prelude.{bit_and}
use Rattle.std.specs.List.{list_any, list_all}
use Rattle.armcaps_tables.specs.Core.{Core}
use Rattle.std.proofs.lemmas.Bool.{cases_eq}
use Rattle.armcaps_sanit.specs.System.{IsSystemOf, merged_words}
use Rattle.armcaps_caps.specs.Capabilities.{is_local_scope}
use Rattle.armcaps_boot.specs.declared.cause.Cause.{Cause}
use Rattle.armcaps_boot.specs.declared.core_state.CoreState.{CoreState}
use Rattle.armcaps_boot.specs.declared.core_state.CoreState.TheVariants.{Checked, Updated, Admitted, Parked, Panicked}
use Rattle.armcaps_boot.specs.declared.past.Past.{Past}
use Rattle.armcaps_boot.specs.declared.past.Past.TheVariants.{Never, Early, Late}
use Rattle.armcaps_boot.specs.declared.park_or_panic.Halt.{Halt}
use Rattle.armcaps_board.specs.Board.{core_at}
use Rattle.armcaps_boot.specs.Causes.{cause_at_check, cause_at_verification, has_capability, has_length}
use Rattle.armcaps_boot.specs.ParkOrPanic.{stops_machine}
use Rattle.armcaps_boot.specs.Changes.{admitted_after, checked_world, gone_after, left_world, noted_with, stored_world, updated_world}
use Rattle.armcaps_boot.specs.Choosing.{chosen}
use Rattle.armcaps_boot.specs.Facts.{Facts, IsGathering, IsHalt, IsParkedFor, IsStateOf, noted_cores}
use Rattle.armcaps_boot.specs.Numbers.{numbers}
use Rattle.armcaps_boot.specs.States.{has_passed, is_admitted, is_admitted_past, is_early, is_early_past, is_late, is_late_past, is_updated, past_admitted, past_of}
use Rattle.armcaps_boot.specs.World.{World, admitted_cores, early_cores, state_at}
use Rattle.armcaps_boot.proofs.ChosenCores.{chosen-same, chosen-added, Added}
use Rattle.armcaps_boot.proofs.Gathered.{noted-added, kept-added, system-added}
use Rattle.armcaps_boot.proofs.Moves.{moved, facts_moved, test-same, state-other, state-here}

-- the cores in whose capabilities the noted ones show
abbrev pub shows : CoreState → Bool
shows state = is_early state || is_updated state

-- a step that leaves the core where it was among the early, the admitted and the updated ones
pub facts_kept : (w : World) (f : Facts w) (k : ℕ) (state : CoreState) (halted : Option Halt) → k < length w.board.cores → (k ≡ w.board.boot → ⊥)
    → is_early (state_at w.states k) ≡ is_early state → is_admitted (state_at w.states k) ≡ is_admitted state → shows (state_at w.states k) ≡ shows state
    → IsStateOf w.final (cause_at_check w.board k) (cause_at_verification w.board (early_cores w.board w.states) k) state → IsHalt halted (set w.states k state)
    → Facts (moved w k state halted w.system w.noted w.common_lengths)
facts_kept w f k state halted within not_boot early admitted shown fits halts =
    facts_moved w f k state halted w.system w.noted w.common_lengths within not_boot (λ _. early) stands fits halts gathers
  where
    inside : k < length w.states
    inside = omega (arith, f.sizes)

    same : (test : CoreState → Bool) → test (state_at w.states k) ≡ test state
        → (j : ℕ) → test (state_at w.states j) ≡ test (state_at (set w.states k state) j)
    same test e = test-same test w.states k state inside e

    stands : IsSystemOf w.board.overrides (admitted_cores w.board (set w.states k state)) w.system
    stands =
        subst (λ (l : List Core). IsSystemOf w.board.overrides l w.system)
        (chosen-same (λ n. is_admitted (state_at w.states n)) (λ n. is_admitted (state_at (set w.states k state) n)) w.board.cores (same is_admitted admitted)) f.system

    gathers : w.final ≡ false → IsGathering (moved w k state halted w.system w.noted w.common_lengths)
    gathers final = let g = f.gathering final in record {
      noted = subst (λ (l : List Core). w.noted ≡ numbers 53 (λ n. is_local_scope n && list_any (λ core. has_capability w.board core n) l))
          (chosen-same (λ n. shows (state_at w.states n)) (λ n. shows (state_at (set w.states k state) n)) w.board.cores (same shows shown)) g.noted;
      enabled = g.enabled;
      hwcaps = g.hwcaps;
      common_lengths = λ q. subst (λ (l : List Core). has_length w.common_lengths q ≡ list_all (λ core. has_length core.lengths q) l)
          (chosen-same (λ n. is_early (state_at w.states n)) (λ n. is_early (state_at (set w.states k state) n)) w.board.cores (same is_early early)) (g.common_lengths q);
      lengths = g.lengths;
    }

-- nobody has stopped the machine, as before
pub still_running : (w : World) → Facts w → (k : ℕ) (state : CoreState) → k < length w.board.cores → w.halted ≡ None
    → ((cause : Cause) → state ≡ Panicked cause → ⊥) → IsHalt w.halted (set w.states k state)
still_running w f k state within none other = record {
  by = λ halt is. absurd (let bad : None ≡ Some halt = sym none ∙ is in let no : ⊥ = cc in no);
  only = λ e n cause is. by e n cause is (cases_eq n k);
} where
  by : w.halted ≡ None → (n : ℕ) (cause : Cause) → state_at (set w.states k state) n ≡ Panicked cause → (n ≡ k) ⊎ (n ≡ k → ⊥) → ⊥
  by e n cause is (inl here) =
      other cause (sym (state-here w.states k state (omega (arith, f.sizes))) ∙ ap (state_at (set w.states k state)) (sym here) ∙ is)
  by e n cause is (inr elsewhere) = f.halted.only e n cause (sym (state-other w.states k n state elsewhere) ∙ is)

pub now_stopped : (w : World) → Facts w → (k : ℕ) (cause : Cause) → k < length w.board.cores
    → IsHalt (Some (record { core = k; cause = cause })) (set w.states k (Panicked cause))
now_stopped w f k cause within = record { by = by; only = λ e. absurd (let no : ⊥ = cc in no) } where
  by : (halt : Halt) → Some (record { core = k; cause = cause }) ≡ Some halt → state_at (set w.states k (Panicked cause)) halt.core ≡ Panicked halt.cause
  by halt e =
      let same : (record { core = k; cause = cause }) ≡ halt = cc in
      subst (λ (h : Halt). state_at (set w.states k (Panicked cause)) h.core ≡ Panicked h.cause) same
      (state-here w.states k (Panicked cause) (omega (arith, f.sizes)))

-- a check that is done
pub facts_checked : (w : World) (f : Facts w) (k : ℕ) → k < length w.board.cores → (k ≡ w.board.boot → ⊥) → w.halted ≡ None
    → is_updated (state_at w.states k) ≡ false → cause_at_check w.board k ≡ None → Facts (checked_world w k)
facts_checked w f k within not_boot running fresh none =
    facts_kept w f k (Checked (past_of (state_at w.states k))) w.halted within not_boot refl refl
    (ap (λ b. is_early (state_at w.states k) || b) fresh)
    (record {
      passed = λ _. none;
      verified = (f.states k).verified;
      updated = λ final no. absurd (let bad : ⊥ = cc in bad);
      after_finalise = (f.states k).after_finalise;
      parked = λ cause is. absurd (let bad : ⊥ = cc in bad);
      panicked = λ cause is. absurd (let bad : ⊥ = cc in bad);
    })
    (still_running w f k (Checked (past_of (state_at w.states k))) within running (λ cause is. cc))

-- a core that is gone
gone_same : (test : Past → Bool) (late : Bool) → test (past_admitted late) ≡ test (past_of (gone_after (past_admitted late)))
gone_same test true = refl
gone_same test false = refl

-- a core that was admitted and goes
pub facts_left : (w : World) (f : Facts w) (k : ℕ) (late : Bool) → k < length w.board.cores → (k ≡ w.board.boot → ⊥) → w.halted ≡ None
    → state_at w.states k ≡ Admitted late → Facts (left_world w k)
facts_left w f k late within not_boot running is =
    facts_kept w f k gone w.halted within not_boot
    (past_same is_early_past) (past_same is_admitted_past)
    (ap (λ b. b || is_updated (state_at w.states k)) (past_same is_early_past) ∙ ap (λ b. is_early gone || b) (ap is_updated is ∙ sym not_updated))
    (record {
      passed = λ _. (f.states k).passed (ap has_passed is);
      verified = λ final a. (f.states k).verified final (past_same is_admitted_past ∙ a);
      updated = λ final u. absurd (let bad : true ≡ false = sym u ∙ not_updated in let no : ⊥ = cc in no);
      after_finalise = λ l. (f.states k).after_finalise (past_same is_late_past ∙ l);
      parked = λ cause e. absurd (let no : ⊥ = cc in no);
      panicked = λ cause e. absurd (let no : ⊥ = cc in no);
    })
    (still_running w f k gone within running (λ cause e. cc))
  where
    gone : CoreState
    gone = gone_after (past_of (state_at w.states k))

    not_updated : is_updated (gone_after (past_of (state_at w.states k))) ≡ false
    not_updated = refl

    past_same : (test : Past → Bool) → test (past_of (state_at w.states k)) ≡ test (past_of (gone_after (past_of (state_at w.states k))))
    past_same test = let e = ap past_of is in rw e (gone_same test late)

-- a core that is parked, or stops the machine, was never admitted
pub facts_out : (w : World) (f : Facts w) (k : ℕ) (state : CoreState) (halted : Option Halt) → k < length w.board.cores → (k ≡ w.board.boot → ⊥)
    → past_of (state_at w.states k) ≡ Never → is_updated (state_at w.states k) ≡ false
    → past_of state ≡ Never → is_updated state ≡ false → has_passed state ≡ false
    → ((cause : Cause) → state ≡ Parked cause → IsParkedFor w.final (cause_at_check w.board k) (cause_at_verification w.board (early_cores w.board w.states) k) cause)
    → ((cause : Cause) → state ≡ Panicked cause → (cause_at_check w.board k ≡ Some cause) × (stops_machine cause ≡ true))
    → IsHalt halted (set w.states k state) → Facts (moved w k state halted w.system w.noted w.common_lengths)
facts_out w f k state halted within not_boot never fresh past updated passed parked panicked halts =
    facts_kept w f k state halted within not_boot
    (ap is_early_past never ∙ sym (ap is_early_past past)) (ap is_admitted_past never ∙ sym (ap is_admitted_past past))
    (let a = ap is_early_past never in let b = ap is_early_past past in rw (a, fresh, b, updated))
    (record {
      passed = λ p. absurd (let bad : true ≡ false = sym p ∙ passed in let no : ⊥ = cc in no);
      verified = λ final a. absurd (let bad : true ≡ false = sym a ∙ ap is_admitted_past past in let no : ⊥ = cc in no);
      updated = λ final u. absurd (let bad : true ≡ false = sym u ∙ updated in let no : ⊥ = cc in no);
      after_finalise = λ l. absurd (let bad : true ≡ false = sym l ∙ ap is_late_past past in let no : ⊥ = cc in no);
      parked = parked;
      panicked = panicked;
    })
    halts

-- a core whose capabilities are noted or verified
pub facts_updated : (w : World) (f : Facts w) (k : ℕ) (past : Past) → k < length w.board.cores → (k ≡ w.board.boot → ⊥) → w.halted ≡ None
    → state_at w.states k ≡ Checked past → (w.final ≡ true → cause_at_verification w.board (early_cores w.board w.states) k ≡ None) → Facts (updated_world w k)
facts_updated w f k past within not_boot running is verified =
    facts_moved w f k (Updated (past_of (state_at w.states k))) w.halted w.system (cond w.final w.noted (noted_with w k)) w.common_lengths within not_boot
    (λ _. refl) stands
    (record {
      passed = λ _. (f.states k).passed (ap has_passed is);
      verified = (f.states k).verified;
      updated = λ final _. verified final;
      after_finalise = (f.states k).after_finalise;
      parked = λ cause e. absurd (let bad : ⊥ = cc in bad);
      panicked = λ cause e. absurd (let bad : ⊥ = cc in bad);
    })
    (still_running w f k (Updated (past_of (state_at w.states k))) within running (λ cause e. cc)) gathers
  where
    inside : k < length w.states
    inside = omega (arith, f.sizes)

    stands : IsSystemOf w.board.overrides (chosen (λ n. is_admitted (state_at (set w.states k (Updated (past_of (state_at w.states k)))) n)) w.board.cores) w.system
    stands =
        subst (λ (l : List Core). IsSystemOf w.board.overrides l w.system)
        (chosen-same (λ n. is_admitted (state_at w.states n)) (λ n. is_admitted (state_at (set w.states k (Updated (past_of (state_at w.states k)))) n)) w.board.cores
        (test-same is_admitted w.states k (Updated (past_of (state_at w.states k))) inside refl)) f.system

    or_true : (b : Bool) → (b || true) ≡ true
    or_true true = refl
    or_true false = refl

    added : Added (noted_cores w) (chosen (λ n. shows (state_at (set w.states k (Updated (past_of (state_at w.states k)))) n)) w.board.cores) (core_at w.board.cores k)
    added =
        chosen-added (λ n. shows (state_at w.states n)) (λ n. shows (state_at (set w.states k (Updated (past_of (state_at w.states k)))) n)) w.board.cores k within
        (ap shows (state-here w.states k (Updated (past_of (state_at w.states k))) inside) ∙ or_true (is_early (state_at w.states k)))
        (λ j ne. ap shows (sym (state-other w.states k j (Updated (past_of (state_at w.states k))) ne)))

    gathers : w.final ≡ false → IsGathering (moved w k (Updated (past_of (state_at w.states k))) w.halted w.system (cond w.final w.noted (noted_with w k)) w.common_lengths)
    gathers final = let g = f.gathering final in record {
      noted = ap (λ b. cond b w.noted (noted_with w k)) final
          ∙ noted-added w.board (core_at w.board.cores k) (noted_cores w) _ w.noted added g.noted;
      enabled = g.enabled;
      hwcaps = g.hwcaps;
      common_lengths = λ q. subst (λ (l : List Core). has_length w.common_lengths q ≡ list_all (λ core. has_length core.lengths q) l)
          (chosen-same (λ n. is_early (state_at w.states n)) (λ n. is_early (state_at (set w.states k (Updated (past_of (state_at w.states k)))) n)) w.board.cores
          (test-same is_early w.states k (Updated (past_of (state_at w.states k))) inside refl)) (g.common_lengths q);
      lengths = g.lengths;
    }

admitted_is_admitted : (final : Bool) (past : Past) → is_admitted (admitted_after final past) ≡ true
admitted_is_admitted true Never = refl
admitted_is_admitted false Never = refl
admitted_is_admitted final Early = refl
admitted_is_admitted final Late = refl

admitted_final : (final : Bool) (past : Past) → final ≡ true → is_early_past past ≡ is_early (admitted_after final past)
admitted_final true Never e = refl
admitted_final true Early e = refl
admitted_final true Late e = refl
admitted_final false past e = absurd (let no : ⊥ = cc in no)

admitted_early : (final : Bool) (past : Past) → final ≡ false → (is_late_past past ≡ true → final ≡ true) → is_early (admitted_after final past) ≡ true
admitted_early true past e l = absurd (let no : ⊥ = cc in no)
admitted_early false Never e l = refl
admitted_early false Early e l = refl
admitted_early false Late e l = absurd (let bad = l refl in let no : ⊥ = cc in no)

admitted_late : (final : Bool) (past : Past) → (is_late_past past ≡ true → final ≡ true) → is_late (admitted_after final past) ≡ true → final ≡ true
admitted_late true past l e = refl
admitted_late false Never l e = absurd (let no : ⊥ = cc in no)
admitted_late false Early l e = absurd (let no : ⊥ = cc in no)
admitted_late false Late l e = l refl

admitted_else : (final : Bool) (past : Past) → (is_updated (admitted_after final past) ≡ false) × ((cause : Cause) → admitted_after final past ≡ Parked cause → ⊥) × ((cause : Cause) → admitted_after final past ≡ Panicked cause → ⊥)
admitted_else final Never = (refl, λ cause e. cc, λ cause e. cc)
admitted_else final Early = (refl, λ cause e. cc, λ cause e. cc)
admitted_else final Late = (refl, λ cause e. cc, λ cause e. cc)

-- a core that is admitted
pub facts_stored : (w : World) (f : Facts w) (k : ℕ) (past : Past) → k < length w.board.cores → (k ≡ w.board.boot → ⊥) → w.halted ≡ None
    → state_at w.states k ≡ Updated past → Facts (stored_world w k)
facts_stored w f k past within not_boot running is =
    facts_moved w f k state w.halted (merged_words w.system (core_at w.board.cores k)) w.noted (cond w.final w.common_lengths (bit_and w.common_lengths (core_at w.board.cores k).lengths)) within not_boot
    (λ final. admitted_final w.final (past_of (state_at w.states k)) final) stands
    (record {
      passed = λ _. (f.states k).passed (ap has_passed is);
      verified = λ final a. (f.states k).updated final (ap is_updated is);
      updated = λ final u. (f.states k).updated final (ap is_updated is);
      after_finalise = λ l. admitted_late w.final (past_of (state_at w.states k)) (f.states k).after_finalise l;
      parked = λ cause e. absurd ((admitted_else w.final (past_of (state_at w.states k))).1 cause e);
      panicked = λ cause e. absurd ((admitted_else w.final (past_of (state_at w.states k))).2 cause e);
    })
    (still_running w f k state within running (admitted_else w.final (past_of (state_at w.states k))).2) gathers
  where
    inside : k < length w.states
    inside = omega (arith, f.sizes)

    state : CoreState
    state = admitted_after w.final (past_of (state_at w.states k))

    added : (test : CoreState → Bool) → test (admitted_after w.final (past_of (state_at w.states k))) ≡ true
        → Added (chosen (λ n. test (state_at w.states n)) w.board.cores) (chosen (λ n. test (state_at (set w.states k (admitted_after w.final (past_of (state_at w.states k)))) n)) w.board.cores) (core_at w.board.cores k)
    added test e =
        chosen-added (λ n. test (state_at w.states n)) (λ n. test (state_at (set w.states k (admitted_after w.final (past_of (state_at w.states k)))) n)) w.board.cores k within
        (ap test (state-here w.states k (admitted_after w.final (past_of (state_at w.states k))) inside) ∙ e)
        (λ j ne. ap test (sym (state-other w.states k j (admitted_after w.final (past_of (state_at w.states k))) ne)))

    stands : IsSystemOf w.board.overrides (chosen (λ n. is_admitted (state_at (set w.states k (admitted_after w.final (past_of (state_at w.states k)))) n)) w.board.cores) (merged_words w.system (core_at w.board.cores k))
    stands =
        system-added w.board.overrides (admitted_cores w.board w.states) _ (core_at w.board.cores k) w.system
        (added is_admitted (admitted_is_admitted w.final (past_of (state_at w.states k)))) f.system

    early : w.final ≡ false → is_early (admitted_after w.final (past_of (state_at w.states k))) ≡ true
    early final = admitted_early w.final (past_of (state_at w.states k)) final (f.states k).after_finalise

    or_true : (b : Bool) → (b || true) ≡ true
    or_true true = refl
    or_true false = refl

    gathers : w.final ≡ false → IsGathering (moved w k (admitted_after w.final (past_of (state_at w.states k))) w.halted (merged_words w.system (core_at w.board.cores k)) w.noted (cond w.final w.common_lengths (bit_and w.common_lengths (core_at w.board.cores k).lengths)))
    gathers final = let g = f.gathering final in record {
      noted = subst (λ (l : List Core). w.noted ≡ numbers 53 (λ n. is_local_scope n && list_any (λ core. has_capability w.board core n) l))
          (chosen-same (λ n. shows (state_at w.states n)) (λ n. shows (state_at (set w.states k (admitted_after w.final (past_of (state_at w.states k)))) n)) w.board.cores
          (test-same shows w.states k (admitted_after w.final (past_of (state_at w.states k))) inside
          (ap (λ b. is_early (state_at w.states k) || b) (ap is_updated is) ∙ or_true (is_early (state_at w.states k))
          ∙ sym (ap (λ b. b || is_updated (admitted_after w.final (past_of (state_at w.states k)))) (early final))))) g.noted;
      enabled = g.enabled;
      hwcaps = g.hwcaps;
      common_lengths = λ q. ap (λ b. has_length (cond b w.common_lengths (bit_and w.common_lengths (core_at w.board.cores k).lengths)) q) final
          ∙ kept-added (core_at w.board.cores k) (early_cores w.board w.states) _ w.common_lengths q (added is_early (early final)) (g.common_lengths q);
      lengths = g.lengths;
    }
