-- Steps by which cores come up one after the other, some before finalisation and the rest after it, are in order and complete.
use Rattle.std.proofs.Common.{◌≡◌, ℕ, zero, suc, ◌+◌, ◌-◌, ◌/◌, ◌<◌, ◌≤◌, ◌==◌, Bool, true, false, cond, List, [], ◌∷◌, ◌++◌, length, map, Some, None, refl, sym, ap, subst, ◌∙◌, arith, append_assoc, append-nil}
use Rattle.std.specs.List.{range_with_len}
use Rattle.std.proofs.lemmas.Bool.Decides.{nat_tests}
use Rattle.armcaps_board.specs.Board.{Board}
use Rattle.armcaps_board.specs.Order.{in_order, is_begun_last, is_complete, is_fresh_last, is_of_secondary}
use Rattle.armcaps_board.specs.Steps.{history, is_final, last_step}
use Rattle.armcaps_board.specs.declared.event.Event.TheVariants as event
use Rattle.armcaps_board.specs.declared.step_line.StepLine.{StepLine}
use Rattle.armcaps_board.specs.declared.step_line.StepLine.TheVariants.{Online, Finalise}
use Rattle.armcaps_board.proofs.Lines.{history-none, is_final-push, last_step-push, order-none, order-push}
use Rattle.armcaps_board.proofs.Turns.{flight_none}
use Rattle.armcaps_generate.specs.Cores.{generated_steps}
use Rattle.std.proofs.lemmas.Bool.{and_from, not_from_false, or_from}

-- lines after which the core of this number and all later ones are fresh, and none is on its way up
record AreUpTo (board : Board) (lines : List StepLine) (final : Bool) (start : ℕ) : Type 0 where
  order : in_order board (history lines) ≡ true
  ended : is_final (history lines) ≡ final
  fresh : (core : ℕ) → start ≤ core → last_step core (history lines) ≡ None
  up : (core : ℕ) → is_begun_last (last_step core (history lines)) ≡ false

none_yet : (board : Board) → AreUpTo board [] false 1
none_yet board = record {
  order = order-none board;
  ended = ap is_final history-none;
  fresh = λ core low. ap (last_step core) history-none;
  up = λ core. ap (λ past. is_begun_last (last_step core past)) history-none;
}

-- the next core comes up
one_more : (board : Board) (lines : List StepLine) (final : Bool) (start : ℕ) → board.boot ≡ 0 → 1 ≤ start → start < length board.cores → AreUpTo board lines final start → AreUpTo board (lines ++ Online start ∷ []) final (start + 1)
one_more board lines final start boot low high so_far = record {
  order = order-push board lines (Online start) secondary (ap is_fresh_last (so_far.fresh start (omega arith))) refl so_far.order;
  ended = is_final-push lines (Online start) ∙ so_far.ended;
  fresh = λ core above. fresh_after core above;
  up = λ core. ap is_begun_last (last_step-push core lines (Online start)) ∙ up_after core (start == core);
}
  where
    secondary : is_of_secondary board (event.Check start) ≡ true
    secondary = grind (arith, nat_tests)

    fresh_after : (core : ℕ) → start + 1 ≤ core → last_step core (history (lines ++ Online start ∷ [])) ≡ None
    fresh_after core above =
        let other : (start == core) ≡ false = grind (arith, nat_tests) in
        last_step-push core lines (Online start) ∙ ap (λ (same : Bool). cond same (Some (event.Store start)) (last_step core (history lines))) other ∙ so_far.fresh core (omega (arith, above))

    up_after : (core : ℕ) (same : Bool) → is_begun_last (cond same (Some (event.Store start)) (last_step core (history lines))) ≡ false
    up_after core true = refl
    up_after core false = so_far.up core

-- finalisation, where it was not done
finalised : (board : Board) (lines : List StepLine) (start : ℕ) → AreUpTo board lines false start → AreUpTo board (lines ++ Finalise ∷ []) true start
finalised board lines start so_far = record {
  order = order-push board lines Finalise refl refl (or_from _ _ so_far.ended (flight_none (history lines) so_far.up)) so_far.order;
  ended = is_final-push lines Finalise;
  fresh = λ core above. last_step-push core lines Finalise ∙ so_far.fresh core above;
  up = λ core. ap is_begun_last (last_step-push core lines Finalise) ∙ so_far.up core;
}

-- so many cores come up
several : (board : Board) (lines : List StepLine) (final : Bool) (start more : ℕ) → board.boot ≡ 0 → 1 ≤ start → start + more ≤ length board.cores → AreUpTo board lines final start
    → AreUpTo board (lines ++ map Online (range_with_len start more)) final (start + more)
several board lines final start zero boot low high so_far =
    let same : start ≡ start + 0 = omega arith in
    subst (λ (n : ℕ). AreUpTo board (lines ++ []) final n) same (subst (λ (lines : List StepLine). AreUpTo board lines final start) (sym (append-nil lines)) so_far)
several board lines final start (suc more) boot low high so_far =
    let same : start + 1 + more ≡ start + suc more = omega arith in
    let next = several board (lines ++ Online start ∷ []) final (start + 1) more boot (omega (arith, low)) (omega (arith, high)) (one_more board lines final start boot low (omega (arith, high)) so_far) in
    subst (λ (n : ℕ). AreUpTo board (lines ++ map Online (range_with_len start (suc more))) final n) same
    (subst (λ (lines : List StepLine). AreUpTo board lines final (start + 1 + more)) (append_assoc lines (Online start ∷ []) (map Online (range_with_len (start + 1) more))) next)

-- cores up to one come up, then finalisation, then the cores after it
all_up : (board : Board) (early late : ℕ) → board.boot ≡ 0 → early + late + 1 ≤ length board.cores → AreUpTo board (map Online (range_with_len 1 early) ++ Finalise ∷ map Online (range_with_len (early + 1) late)) true (early + 1 + late)
all_up board early late boot few =
    let turned : 1 + early ≡ early + 1 = omega arith in
    let first = several board [] false 1 early boot (omega arith) (omega (arith, few)) (none_yet board) in
    let then = finalised board (map Online (range_with_len 1 early)) (early + 1) (subst (λ (n : ℕ). AreUpTo board (map Online (range_with_len 1 early)) false n) turned first) in
    let last = several board (map Online (range_with_len 1 early) ++ Finalise ∷ []) true (early + 1) late boot (omega arith) (omega (arith, few)) then in
    subst (λ (lines : List StepLine). AreUpTo board lines true (early + 1 + late)) (append_assoc (map Online (range_with_len 1 early)) (Finalise ∷ []) (map Online (range_with_len (early + 1) late))) last

-- the generated steps are in order
pub generated_in_order : (board : Board) (cores : ℕ) → board.boot ≡ 0 → length board.cores ≡ cores → 1 ≤ cores → in_order board (history (generated_steps cores)) ≡ true
unfolding generated_steps
generated_in_order board cores boot count some = (all_up board (cores / 2) (cores - 1 - cores / 2) boot (omega (arith, count))).order

-- and complete
pub generated_complete : (board : Board) (cores : ℕ) → board.boot ≡ 0 → length board.cores ≡ cores → 1 ≤ cores → is_complete (history (generated_steps cores)) ≡ true
unfolding generated_steps
generated_complete board cores boot count some =
    let up = all_up board (cores / 2) (cores - 1 - cores / 2) boot (omega (arith, count)) in
    and_from _ _ up.ended (not_from_false _ (flight_none _ up.up))
