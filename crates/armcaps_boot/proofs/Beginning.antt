-- What holds of a machine before its first step.
use Rattle.std.proofs.Common.{◌≡◌, ◌<◌, ◌⊎◌, inl, inr, ℕ, zero, suc, Bool, true, false, ◌&&◌, ◌||◌, List, [], ◌∷◌, ◌++◌, length, Option, None, refl, sym, ◌∙◌, ap, subst, set, replicate, arith, length-set}
use Rattle.std.specs.Prelude.{nat_lt}
use Rattle.std.specs.List.{list_any, list_all}
use Rattle.std.proofs.lemmas.Bool.{cases_eq, le-ltb}
use Rattle.armcaps_tables.specs.Core.{Core}
use Rattle.armcaps_board.specs.Board.{Board, IsBoard, boot_core, core_at}
use Rattle.armcaps_boot.specs.Causes.{asid_bits, cause_at_check, cause_at_verification, first_conflict, has_capability, has_length}
use Rattle.armcaps_boot.specs.Choosing.{chosen}
use Rattle.armcaps_boot.specs.Facts.{Facts, IsGathering, IsStateOf, StateFits}
use Rattle.armcaps_boot.specs.First.{first_states, first_world}
use Rattle.armcaps_boot.specs.Numbers.{numbers}
use Rattle.armcaps_boot.specs.States.{is_admitted, is_early}
use Rattle.armcaps_boot.specs.World.{World, early_cores, state_at}
use Rattle.armcaps_sanit.specs.System.{IsSystemOf, system_words}
use Rattle.armcaps_caps.specs.Capabilities.{conflicts, is_boot_scope, is_local_scope}
use Rattle.armcaps_caps.specs.Set.{holds}
use Rattle.armcaps_boot.specs.declared.cause.Cause.{Cause}
use Rattle.armcaps_boot.specs.declared.core_state.CoreState.{CoreState}
use Rattle.armcaps_boot.specs.declared.core_state.CoreState.TheVariants.{Absent, Admitted, Panicked}
use Rattle.armcaps_boot.proofs.ChosenCores.{chosen-added, Added}
use Rattle.armcaps_boot.proofs.CoreSteps.{shows}
use Rattle.armcaps_boot.proofs.FirstNumbers.{first_of-none, numbers-same}
use Rattle.armcaps_boot.proofs.Moves.{state-other, state-here}
use Rattle.armcaps_sanit.proofs.SystemWords.{is_system_alone}
use Rattle.armcaps_caps.proofs.Classes.{conflicts-both, conflicts-neither}

chosen-none : (cores : List Core) → chosen (λ n. false) cores ≡ []
chosen-none [] = refl
chosen-none (x ∷ xs) = chosen-none xs

all_absent : (count k : ℕ) → state_at (replicate count Absent) k ≡ Absent
all_absent zero k = refl
all_absent (suc count) zero = refl
all_absent (suc count) (suc k) = all_absent count k

length-all : (count : ℕ) → length (replicate count Absent) ≡ count
length-all zero = refl
length-all (suc count) = ap suc (length-all count)

one_of_none : (more : List Core) (x : Core) → Added [] more x → more ≡ x ∷ []
one_of_none more x a = by a.before a.after a.long a.short where
  by : (before after : List Core) → more ≡ before ++ x ∷ after → ([] ≡ before ++ after) ⊎ ([] ≡ before ++ x ∷ after) → more ≡ x ∷ []
  by [] [] long short = long
  by [] (y ∷ ys) long (inl e) = absurd (let no : ⊥ = cc in no)
  by [] (y ∷ ys) long (inr e) = absurd (let no : ⊥ = cc in no)
  by (y ∷ ys) after long (inl e) = absurd (let no : ⊥ = cc in no)
  by (y ∷ ys) after long (inr e) = absurd (let no : ⊥ = cc in no)

-- a test that the boot core's state passes and an absent core's does not chooses the boot core alone
pub boot_alone : (test : CoreState → Bool) (cores : List Core) (boot : ℕ) → boot < length cores → test (Admitted false) ≡ true → test Absent ≡ false
    → chosen (λ n. test (state_at (first_states (length cores) boot) n)) cores ≡ core_at cores boot ∷ []
boot_alone test cores boot within yes_ no_ =
    one_of_none _ _ (subst (λ (l : List Core). Added l (chosen (λ n. test (state_at (first_states (length cores) boot) n)) cores) (core_at cores boot)) (chosen-none cores)
    (chosen-added (λ n. false) (λ n. test (state_at (first_states (length cores) boot) n)) cores boot within
    (ap test (state-here (replicate (length cores) Absent) boot (Admitted false) (omega (arith, length-all (length cores)))) ∙ yes_)
    (λ j other. sym (ap test (state-other (replicate (length cores) Absent) boot j (Admitted false) other ∙ all_absent (length cores) j) ∙ no_))))

-- the boot core has no cause at its check
pub boot_has_no_cause : (board : Board) → cause_at_check board board.boot ≡ None
unfolding cause_at_check
boot_has_no_cause board =
    let level : nat_lt (asid_bits (boot_core board)) (asid_bits (boot_core board)) ≡ false = le-ltb (asid_bits (boot_core board)) (asid_bits (boot_core board)) (omega arith) in
    let none : first_conflict is_boot_scope (has_capability board (boot_core board)) (has_capability board (boot_core board)) ≡ None =
    first_of-none _ 0 53 (λ n low within. by (is_boot_scope n) n (has_capability board (boot_core board) n)) in
    rw (level, none) where
      by : (scope : Bool) (n : ℕ) (has : Bool) → (scope && conflicts n has has) ≡ false
      by false n has = refl
      by true n true = conflicts-both n
      by true n false = conflicts-neither n

absent_fits : (final : Bool) (early late : Option Cause) → IsStateOf final early late Absent
absent_fits final early late = record {
  passed = λ e. absurd (let no : ⊥ = cc in no);
  verified = λ f e. absurd (let no : ⊥ = cc in no);
  updated = λ f e. absurd (let no : ⊥ = cc in no);
  after_finalise = λ e. absurd (let no : ⊥ = cc in no);
  parked = λ cause e. absurd (let no : ⊥ = cc in no);
  panicked = λ cause e. absurd (let no : ⊥ = cc in no);
}

boot_fits : (early late : Option Cause) → early ≡ None → IsStateOf false early late (Admitted false)
boot_fits early late none = record {
  passed = λ e. none;
  verified = λ f e. absurd (let no : ⊥ = cc in no);
  updated = λ f e. absurd (let no : ⊥ = cc in no);
  after_finalise = λ e. absurd (let no : ⊥ = cc in no);
  parked = λ cause e. absurd (let no : ⊥ = cc in no);
  panicked = λ cause e. absurd (let no : ⊥ = cc in no);
}

or_none : (b : Bool) → b ≡ (b || false)
or_none true = refl
or_none false = refl

and_all : (b : Bool) → b ≡ (b && true)
and_all true = refl
and_all false = refl

pub first_facts : (board : Board) → IsBoard board → Facts (first_world board)
first_facts board is = record {
  sizes = length-set (replicate (length board.cores) Absent) board.boot (Admitted false) ∙ length-all (length board.cores);
  few = is.few;
  within = is.within;
  plain_ctr = is.plain_ctr;
  system = subst (λ (l : List Core). IsSystemOf board.overrides l (system_words board.overrides (boot_core board ∷ [])))
      (sym (boot_alone is_admitted board.cores board.boot is.within refl refl)) (is_system_alone board.overrides (boot_core board) is.fit);
  boot = here;
  states = fits;
  halted = record {
    by = λ halt e. absurd (let no : ⊥ = cc in no);
    only = λ e n cause is. by n cause is (cases_eq n board.boot);
  };
  gathering = λ _. gathers;
  decided = λ e. absurd (let no : ⊥ = cc in no);
} where
  first : List CoreState
  first = first_states (length board.cores) board.boot

  here : state_at (first_states (length board.cores) board.boot) board.boot ≡ Admitted false
  here = state-here (replicate (length board.cores) Absent) board.boot (Admitted false) (omega (arith, is.within, length-all (length board.cores)))

  there : (n : ℕ) → (n ≡ board.boot → ⊥) → state_at (first_states (length board.cores) board.boot) n ≡ Absent
  there n other = state-other (replicate (length board.cores) Absent) board.boot n (Admitted false) other ∙ all_absent (length board.cores) n

  by : (n : ℕ) (cause : Cause) → state_at (first_states (length board.cores) board.boot) n ≡ Panicked cause → (n ≡ board.boot) ⊎ (n ≡ board.boot → ⊥) → ⊥
  by n cause is (inl at) =
      let bad : Admitted false ≡ Panicked cause = sym here ∙ ap (state_at (first_states (length board.cores) board.boot)) (sym at) ∙ is in cc
  by n cause is (inr other) = let bad : Absent ≡ Panicked cause = sym (there n other) ∙ is in cc

  fits_in : (n : ℕ) (s : CoreState) → state_at (first_states (length board.cores) board.boot) n ≡ s
      → IsStateOf false (cause_at_check board n) (cause_at_verification board (early_cores board (first_states (length board.cores) board.boot)) n) s
      → StateFits (first_world board) n
  fits_in n s is h =
      subst (λ (t : CoreState). IsStateOf false (cause_at_check board n)
      (cause_at_verification board (early_cores board (first_states (length board.cores) board.boot)) n) t) (sym is) h

  fits : (n : ℕ) → StateFits (first_world board) n
  fits n = on (cases_eq board.boot n) where
    on : (board.boot ≡ n) ⊎ (board.boot ≡ n → ⊥) → StateFits (first_world board) n
    on (inl at) = subst (λ (k : ℕ). StateFits (first_world board) k) at
        (fits_in board.boot (Admitted false) here (boot_fits _ _ (boot_has_no_cause board)))
    on (inr other) = fits_in n Absent (there n (λ e. other (sym e))) (absent_fits false _ _)

  gathers : IsGathering (first_world board)
  gathers = record {
    noted = subst (λ (l : List Core). numbers 53 (λ n. is_local_scope n && has_capability board (boot_core board) n)
        ≡ numbers 53 (λ n. is_local_scope n && list_any (λ core. has_capability board core n) l))
        (sym (boot_alone shows board.cores board.boot is.within refl refl))
        (numbers-same _ _ 53 (λ n _. ap (λ b. is_local_scope n && b) (or_none (has_capability board (boot_core board) n))));
    enabled = refl;
    hwcaps = refl;
    common_lengths = λ q. subst (λ (l : List Core). has_length (boot_core board).lengths q ≡ list_all (λ core. has_length core.lengths q) l)
        (sym (boot_alone is_early board.cores board.boot is.within refl refl)) (and_all (has_length (boot_core board).lengths q));
    lengths = refl;
  }

abbrev starting : Board → List ℕ → List CoreState → List Bool → List Bool → ℕ → World
starting board system states noted enabled common = record {
  board = board;
  system = system;
  states = states;
  halted = None;
  final = false;
  noted = noted;
  enabled = enabled;
  hwcaps = record { hwcap = 0; hwcap2 = 0 };
  final_ctr = 0;
  common_lengths = common;
  lengths = 0;
}

-- a machine of these parts is the first one
pub first_world-same : (board : Board) (system : List ℕ) (states : List CoreState) (noted enabled common : ℕ)
    → system ≡ system_words board.overrides (boot_core board ∷ []) → states ≡ first_states (length board.cores) board.boot
    → numbers 53 (holds noted) ≡ numbers 53 (λ n. is_local_scope n && has_capability board (boot_core board) n)
    → numbers 53 (holds enabled) ≡ numbers 53 (λ n. is_boot_scope n && has_capability board (boot_core board) n)
    → common ≡ (boot_core board).lengths
    → starting board system states (numbers 53 (holds noted)) (numbers 53 (holds enabled)) common ≡ first_world board
first_world-same board system states noted enabled common s t n e k = rw (s, t, n, e, k)

-- what was put into the empty set
pub own_alone : (own : ℕ → Bool) (empty set : ℕ) → ((n : ℕ) → holds empty n ≡ false) → ((n : ℕ) → n < 53 → holds set n ≡ (holds empty n || own n))
    → numbers 53 (holds set) ≡ numbers 53 own
own_alone own empty set none holds_set = numbers-same _ _ 53 (λ n within. holds_set n within ∙ ap (λ b. b || own n) (none n))
