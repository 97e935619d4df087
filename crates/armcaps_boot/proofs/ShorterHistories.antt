-- Which cores are admitted by steps, by which were admitted by them and later ones.
use Rattle.std.proofs.Common.{◌≡◌, ◌<◌, ℕ, suc, Bool, true, false, not, ◌&&◌, ◌||◌, List, [], ◌∷◌, ◌++◌, length, Option, refl, sym, ◌∙◌, ap, arith}
use Rattle.std.specs.Prelude.{◌==◌, is_none}
use Rattle.std.proofs.lemmas.List.FromFn.{get_or-map-range_with_len}
use Rattle.armcaps_tables.specs.Core.{Core}
use Rattle.armcaps_boot.specs.declared.cause.Cause.{Cause}
use Rattle.armcaps_boot.specs.declared.core_state.CoreState.TheVariants.{Absent}
use Rattle.armcaps_board.specs.declared.event.Event.{Event}
use Rattle.armcaps_board.specs.Board.{Board}
use Rattle.armcaps_board.specs.Order.{in_order, is_next}
use Rattle.armcaps_board.specs.Steps.{is_final, is_store_of}
use Rattle.armcaps_boot.specs.Admission.{admitted_cores_after, came_early, early_cores_after, has_come, is_among_admitted, is_among_early}
use Rattle.armcaps_boot.specs.After.{state_of, states_after}
use Rattle.armcaps_boot.specs.Causes.{cause_at_check, cause_at_verification}
use Rattle.armcaps_boot.specs.Choosing.{chosen}
use Rattle.armcaps_boot.specs.States.{is_admitted, is_early}
use Rattle.armcaps_boot.specs.World.{admitted_cores, early_cores, state_at}
use Rattle.std.proofs.lemmas.Bool.{and_parts, or_left, or_right}
use Rattle.armcaps_boot.proofs.Histories.{course, early-final, early_came, verified_final}
use Rattle.armcaps_boot.proofs.HeldBack.{admitted_by_state, early_by_state, late-final}

pub order_before : (board : Board) (later p : List Event) → in_order board (later ++ p) ≡ true → in_order board p ≡ true
unfolding in_order
order_before board [] p order = order
order_before board (e ∷ later) p order = order_before board later p ((and_parts (is_next board (later ++ p) e) (in_order board (later ++ p)) order).1)

-- a core that has come is as early after one more step as it was
came_early-stays : (board : Board) (e : Event) (p : List Event) → in_order board p ≡ true → (k : ℕ) → has_come k p ≡ true
    → came_early k (e ∷ p) ≡ came_early k p
unfolding came_early
came_early-stays board e p order k come = by (came_early k p) refl where
  by : (b : Bool) → came_early k p ≡ b → (came_early k p || (is_store_of k e && not (is_final p))) ≡ came_early k p
  by true early = or_left (came_early k p) (is_store_of k e && not (is_final p)) early ∙ sym early
  by false late = early-final k e p (verified_final k p ((course board p order k).late come late))

abbrev among_by : Bool → Bool → Bool → Bool → Bool → Bool
among_by boot has came without_early without_late =
    (boot || (came && without_early)) || (not boot && has && not came && without_early && without_late)

among_same : (boot came without_early l m : Bool) → (came ≡ false → l ≡ m)
    → among_by boot true came without_early l ≡ among_by boot true came without_early m
among_same true true e l m same = refl
among_same true false e l m same = refl
among_same false true true l m same = refl
among_same false true false l m same = refl
among_same false false e l m same = ap (λ (b : Bool). among_by false true false e b) (same refl)

-- a core that has come is admitted after one more step exactly where it was
among_stays : (board : Board) (e : Event) (p : List Event) → in_order board p ≡ true → (k : ℕ) → k < length board.cores
    → has_come k p ≡ true → is_among_admitted board (e ∷ p) k ≡ is_among_admitted board p k
among_stays board e p order k within come =
    ap (λ (b : Bool). among_by (k == board.boot) b (came_early k (e ∷ p)) (is_none (cause_at_check board k)) (is_none (cause_at_verification board (early_cores_after board (e ∷ p)) k))) (or_right (is_store_of k e) (has_come k p) come)
    ∙ ap (λ (b : Bool). among_by (k == board.boot) true b (is_none (cause_at_check board k)) (is_none (cause_at_verification board (early_cores_after board (e ∷ p)) k)))
    (came_early-stays board e p order k come)
    ∙ among_same (k == board.boot) (came_early k p) (is_none (cause_at_check board k)) (is_none (cause_at_verification board (early_cores_after board (e ∷ p)) k)) (is_none (cause_at_verification board (early_cores_after board p) k))
    (λ late. ap (λ (o : Option Cause). is_none o) (late-final board e p k (verified_final k p ((course board p order k).late come late))))
    ∙ ap (λ (b : Bool). among_by (k == board.boot) b (came_early k p) (is_none (cause_at_check board k)) (is_none (cause_at_verification board (early_cores_after board p) k))) (sym come)

come_stays : (later p : List Event) (k : ℕ) → has_come k p ≡ true → has_come k (later ++ p) ≡ true
come_stays [] p k come = come
come_stays (e ∷ later) p k come = or_right (is_store_of k e) (has_come k (later ++ p)) (come_stays later p k come)

among_after : (board : Board) (later p : List Event) → in_order board (later ++ p) ≡ true → (k : ℕ) → k < length board.cores
    → has_come k p ≡ true → is_among_admitted board (later ++ p) k ≡ is_among_admitted board p k
unfolding in_order
among_after board [] p order k within come = refl
among_after board (e ∷ later) p order k within come =
    let before = (and_parts (is_next board (later ++ p) e) (in_order board (later ++ p)) order).1 in
    among_stays board e (later ++ p) before k within (come_stays later p k come) ∙ among_after board later p before k within come

among_not_come : (boot came e l : Bool) → (came ≡ true → false ≡ true) → among_by boot false came e l ≡ boot
among_not_come true came e l none = refl
among_not_come false true e l none = absurd (let bad : false ≡ true = none refl in let no : ⊥ = cc in no)
among_not_come false false e l none = refl

or_false : (b : Bool) → b ≡ (b || false)
or_false true = refl
or_false false = refl

among_boot : (boot has came e l : Bool) → boot ≡ true → among_by boot has came e l ≡ true
among_boot boot has came e l here = ap (λ (b : Bool). among_by b has came e l) here

-- a core is admitted by steps exactly where it is the boot core, or has come by them and is admitted by them and later ones
pub admitted_shorter : (board : Board) (later p : List Event) (k : ℕ) → in_order board (later ++ p) ≡ true
    → k < length board.cores
    → is_admitted (state_of board p k) ≡ ((k == board.boot) || (has_come k p && is_among_admitted board (later ++ p) k))
admitted_shorter board later p k order within =
    admitted_by_state board p k (order_before board later p order) ∙ by (has_come k p) refl where
      by : (b : Bool) → has_come k p ≡ b → is_among_admitted board p k ≡ ((k == board.boot) || (has_come k p && is_among_admitted board (later ++ p) k))
      by true come = on (k == board.boot) refl where
        on : (b : Bool) → (k == board.boot) ≡ b → is_among_admitted board p k ≡ ((k == board.boot) || (has_come k p && is_among_admitted board (later ++ p) k))
        on true here = among_boot (k == board.boot) (has_come k p) (came_early k p) (is_none (cause_at_check board k)) (is_none (cause_at_verification board (early_cores_after board p) k)) here
            ∙ sym (or_left (k == board.boot) (has_come k p && is_among_admitted board (later ++ p) k) here)
        on false other = sym (among_after board later p order k within come)
            ∙ sym (ap (λ (b : Bool). b || (has_come k p && is_among_admitted board (later ++ p) k)) other ∙ ap (λ (b : Bool). b && is_among_admitted board (later ++ p) k) come)
      by false come =
          ap (λ (b : Bool). among_by (k == board.boot) b (came_early k p) (is_none (cause_at_check board k)) (is_none (cause_at_verification board (early_cores_after board p) k))) come
          ∙ among_not_come (k == board.boot) (came_early k p) (is_none (cause_at_check board k)) (is_none (cause_at_verification board (early_cores_after board p) k)) (λ early. sym come ∙ early_came k p early)
          ∙ or_false (k == board.boot) ∙ ap (λ (b : Bool). (k == board.boot) || (b && is_among_admitted board (later ++ p) k)) (sym come)

-- tests that agree on the numbers of a list choose the same of it
pub chosen-within : (p q : ℕ → Bool) (cores : List Core) → ((k : ℕ) → k < length cores → p k ≡ q k) → chosen p cores ≡ chosen q cores
chosen-within p q [] same = refl
chosen-within p q (x ∷ xs) same =
    let here = same 0 (omega arith) in
    let more = chosen-within (λ n. p (suc n)) (λ n. q (suc n)) xs (λ k within. same (suc k) (omega arith)) in
    rw (here, more)

pub state_at-after : (board : Board) (p : List Event) (k : ℕ) → k < length board.cores → state_at (states_after board p) k ≡ state_of board p k
unfolding states_after
state_at-after board p k within = get_or-map-range_with_len (state_of board p) 0 (length board.cores) k k Absent within (omega arith)

pub early_listed : (board : Board) (p : List Event) → in_order board p ≡ true → early_cores board (states_after board p) ≡ early_cores_after board p
early_listed board p order =
    chosen-within (λ n. is_early (state_at (states_after board p) n)) (is_among_early board p) board.cores
    (λ k within. ap is_early (state_at-after board p k within) ∙ early_by_state board p k order)

pub admitted_listed : (board : Board) (p : List Event) → in_order board p ≡ true → admitted_cores board (states_after board p) ≡ admitted_cores_after board p
admitted_listed board p order =
    chosen-within (λ n. is_admitted (state_at (states_after board p) n)) (is_among_admitted board p) board.cores
    (λ k within. ap is_admitted (state_at-after board p k within) ∙ admitted_by_state board p k order)
