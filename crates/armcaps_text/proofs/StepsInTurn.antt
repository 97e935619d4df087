-- The last step of each core, as one more line of steps is added.
use Rattle.std.proofs.Common.{◌≡◌, ◌≢◌, ℕ, zero, suc, ◌+◌, ◌<◌, ◌≤◌, ◌||◌, ◌==◌, Bool, true, false, nat_lt, is_none, cond, List, [], ◌∷◌, ◌++◌, length, Option, Some, None, refl, sym, ap, subst, ◌∙◌, arith, get_or, set, sum_by}
use Rattle.std.proofs.lemmas.Bool.{eqb-true}
use Rattle.std.proofs.lemmas.Bool.Decides.{nat_tests}
use Rattle.std.proofs.lemmas.List.{get_or-set_same, get_or-set_other}
use Rattle.std.proofs.lemmas.List.Sums.{sum_by-append, sum_by-cons, sum_by-set}
use Rattle.armcaps_board.specs.declared.event.Event.{Event}
use Rattle.armcaps_board.specs.declared.event.Event.TheVariants.{Check, Local, Store, Offline, Finalise}
use Rattle.armcaps_board.specs.declared.step_line.StepLine.{StepLine}
use Rattle.armcaps_board.specs.Order.{is_begun_last, is_some_in_flight}
use Rattle.armcaps_board.specs.Steps.{core_of, history, is_final, is_finalise, last_event, last_step}
use Rattle.armcaps_board.proofs.Lines.{history-none, is_final-push, last_step-push}
use Rattle.armcaps_board.proofs.Turns.{flight_none, none_in_flight}
use Rattle.armcaps_text.specs.Kept.{one_begun, AreKept}

-- no step at the start
pub kept_at_start : AreKept (history []) [] 0 false
kept_at_start = record { each = λ core. sym (ap (last_step core) history-none); count = refl; ended = sym (ap is_final history-none) }

-- how many cores are on their way up, where room is made for one more
pub begun_room : (last : List (Option Event)) → sum_by one_begun (last ++ None ∷ []) ≡ sum_by one_begun last
begun_room last = omega (arith, sum_by-append one_begun last (None ∷ []))

pub each_room : (last : List (Option Event)) (core : ℕ) → get_or (last ++ None ∷ []) core None ≡ get_or last core None
each_room [] zero = refl
each_room [] (suc core) = refl
each_room (step ∷ last) zero = refl
each_room (step ∷ last) (suc core) = each_room last core

-- there are no more of them than cores
pub begun_few : (last : List (Option Event)) → sum_by one_begun last ≤ length last
begun_few [] = omega arith
begun_few (step ∷ last) = rw (sum_by-cons one_begun step last) (by_first (is_begun_last step) (begun_few last))
  where
    by_first : (begun : Bool) → sum_by one_begun last ≤ length last → cond begun 1 0 + sum_by one_begun last ≤ length (step ∷ last)
    by_first true more = omega arith
    by_first false more = omega arith

-- where one core's last step changes
pub count_set : (last : List (Option Event)) (core : ℕ) (old new : Option Event) → core < length last → old ≡ get_or last core old → sum_by one_begun (set last core new) + one_begun old ≡ sum_by one_begun last + one_begun new
count_set last core old new within at = subst (λ (o : Option Event). sum_by one_begun (set last core new) + one_begun o ≡ sum_by one_begun last + one_begun new) (sym at) (sum_by-set one_begun last core new old within)

-- where their number is 0, no core is on its way up
none_begun : (last : List (Option Event)) (core : ℕ) → sum_by one_begun last ≡ 0 → is_begun_last (get_or last core None) ≡ false
none_begun [] core h = refl
none_begun (step ∷ last) core h = by_first (is_begun_last step) refl (sym (sum_by-cons one_begun step last) ∙ h) (λ core h. none_begun last core h) core
  where
    by_first : (begun : Bool) → is_begun_last step ≡ begun → cond begun 1 0 + sum_by one_begun last ≡ 0 → ((core : ℕ) → sum_by one_begun last ≡ 0 → is_begun_last (get_or last core None) ≡ false) → (core : ℕ) → is_begun_last (get_or (step ∷ last) core None) ≡ false
    by_first true e h more core = absurd (omega arith)
    by_first false e h more zero = e
    by_first false e h more (suc core) = more core (omega (arith, h))

-- and where no core is, their number is 0
all_ended : (last : List (Option Event)) → ((core : ℕ) → is_begun_last (get_or last core None) ≡ false) → sum_by one_begun last ≡ 0
all_ended [] none = refl
all_ended (step ∷ last) none =
    let first : is_begun_last step ≡ false = none 0 in
    sum_by-cons one_begun step last ∙ ap (λ (begun : Bool). cond begun 1 0 + sum_by one_begun last) first ∙ omega (arith, all_ended last (λ core. none (suc core)))

-- whether some core is on its way up, by their number
pub flight_known : (past : List Event) (last : List (Option Event)) (begun : ℕ) (final : Bool) → AreKept past last begun final → nat_lt 0 begun ≡ is_some_in_flight past
flight_known past last begun final kept = by_count (nat_lt 0 begun) refl (is_some_in_flight past) refl
  where
    by_count : (some : Bool) → nat_lt 0 begun ≡ some → (flight : Bool) → is_some_in_flight past ≡ flight → some ≡ flight
    by_count true e true f = refl
    by_count false e false f = refl
    by_count true e false f =
        let zero : sum_by one_begun last ≡ 0 = all_ended last (λ core. ap is_begun_last (kept.each core) ∙ none_in_flight past f core) in
        sym e ∙ ap (nat_lt 0) (kept.count ∙ zero)
    by_count false e true f =
        let zero : sum_by one_begun last ≡ 0 = (let none : begun ≡ 0 = grind (arith, nat_tests) in sym kept.count ∙ none) in
        sym (flight_none past (λ core. ap is_begun_last (sym (kept.each core)) ∙ none_begun last core zero)) ∙ f

-- finalisation is no core's step, and each other step is one's
finalise_of : (event : Event) → is_finalise event ≡ is_none (core_of event)
finalise_of (Check core) = refl
finalise_of (Local core) = refl
finalise_of (Store core) = refl
finalise_of (Offline core) = refl
finalise_of Finalise = refl

-- one more line of a core's steps, for which there is room
pub kept_step : (lines : List StepLine) (last grown : List (Option Event)) (begun now : ℕ) (final : Bool) (core : ℕ) (line : StepLine) → core_of (last_event line) ≡ Some core → AreKept (history lines) last begun final
    → ((other : ℕ) → get_or grown other None ≡ get_or last other None) → core < length grown → now ≡ sum_by one_begun (set grown core (Some (last_event line)))
    → AreKept (history (lines ++ line ∷ [])) (set grown core (Some (last_event line))) now final
kept_step lines last grown begun now final core line of kept room within count = record {
  each = λ other. by_core other (core == other) refl;
  count = count;
  ended = kept.ended ∙ sym (is_final-push lines line ∙ ap (λ (b : Bool). b || is_final (history lines)) (finalise_of (last_event line) ∙ ap is_none of));
}
  where
    by_core : (other : ℕ) (same : Bool) → (core == other) ≡ same → get_or (set grown core (Some (last_event line))) other None ≡ last_step other (history (lines ++ line ∷ []))
    by_core other true e =
        let equal : core ≡ other = eqb-true core other e in
        subst (λ (place : ℕ). get_or (set grown core (Some (last_event line))) place None ≡ Some (last_event line)) equal (get_or-set_same grown core (Some (last_event line)) None within)
        ∙ sym (last_step-push other lines line ∙ rw of (rw e refl))
    by_core other false e =
        let apart : other ≢ core = grind (arith, nat_tests) in
        get_or-set_other grown core other (Some (last_event line)) None apart ∙ room other ∙ kept.each other ∙ sym (last_step-push other lines line ∙ rw of (rw e refl))

-- `finalise`
pub kept_final : (lines : List StepLine) (last : List (Option Event)) (begun : ℕ) (final : Bool) (line : StepLine) → core_of (last_event line) ≡ None → AreKept (history lines) last begun final → AreKept (history (lines ++ line ∷ [])) last begun true
kept_final lines last begun final line of kept = record {
  each = λ core. kept.each core ∙ sym (last_step-push core lines line ∙ rw of refl);
  count = kept.count;
  ended = sym (is_final-push lines line ∙ ap (λ (b : Bool). b || is_final (history lines)) (finalise_of (last_event line) ∙ ap is_none of));
}
