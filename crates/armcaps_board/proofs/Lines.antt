-- What one more line of steps adds.
use Rattle.std.proofs.Common.{◌≡◌, ℕ, Bool, true, false, cond, ◌&&◌, ◌||◌, List, [], ◌∷◌, ◌++◌, reverse, Option, Some, refl, sym, ◌∙◌, ap, append_assoc, append-nil}
use Rattle.std.specs.Prelude.{◌==◌}
use Rattle.std.specs.List.{flat_map}
use Rattle.std.proofs.lemmas.Bool.Decides.{Decides-eqb}
use Rattle.std.proofs.lemmas.List.{reverse-append}
use Rattle.std.proofs.lemmas.List.Concat.{flat_map-cons}
use Rattle.armcaps_board.specs.declared.event.Event.{Event}
use Rattle.armcaps_board.specs.declared.event.Event.TheVariants as event
use Rattle.armcaps_board.specs.declared.step_line.StepLine.{StepLine}
use Rattle.armcaps_board.specs.declared.step_line.StepLine.TheVariants.{Check, Local, Store, Online, Offline, Finalise}
use Rattle.armcaps_board.specs.Board.{Board}
use Rattle.armcaps_board.specs.Order.{can_follow, in_order, is_in_turn, is_next, is_of_secondary, is_wrong_finalise}
use Rattle.armcaps_board.specs.Steps.{events_of, first_event, history, is_final, is_finalise, is_step_of, last_event, last_step}
use Rattle.std.proofs.lemmas.Bool.{and_from}
use Rattle.armcaps_board.proofs.Turns.{last-own, next_by, secondary_of}

-- the steps of lines, and_from with the newest first
abbrev back : List StepLine → List Event
back [] = []
back (line ∷ lines) = reverse (events_of line) ++ back lines

back-push : (lines : List StepLine) (line : StepLine) → back (lines ++ line ∷ []) ≡ back lines ++ reverse (events_of line)
back-push [] line = append-nil (reverse (events_of line))
back-push (first ∷ lines) line =
    ap (λ (events : List Event). reverse (events_of first) ++ events) (back-push lines line)
    ∙ sym (append_assoc (reverse (events_of first)) (back lines) (reverse (events_of line)))

history_back : (lines : List StepLine) → history lines ≡ back (reverse lines)
unfolding history
history_back [] = refl
history_back (line ∷ lines) =
    ap reverse (flat_map-cons events_of line lines) ∙ reverse-append (events_of line) (flat_map events_of lines)
    ∙ ap (λ (events : List Event). events ++ reverse (events_of line)) (history_back lines)
    ∙ sym (ap back (reverse-append (line ∷ []) lines) ∙ back-push (reverse lines) line)

-- no lines stand for no steps, and one more line for its steps
pub history-none : history [] ≡ []
unfolding history
history-none = refl

pub history-push : (lines : List StepLine) (line : StepLine) → history (lines ++ line ∷ []) ≡ reverse (events_of line) ++ history lines
history-push lines line =
    history_back (lines ++ line ∷ []) ∙ ap back (reverse-append lines (line ∷ []))
    ∙ ap (λ (events : List Event). reverse (events_of line) ++ events) (sym (history_back lines))

-- the last step of a core, with the steps of one more line
last_after : (k : ℕ) (line : StepLine) (p : List Event)
    → last_step k (reverse (events_of line) ++ p) ≡ cond (is_step_of k (last_event line)) (Some (last_event line)) (last_step k p)
last_after k (Check core) p = refl
last_after k (Local core) p = refl
last_after k (Store core) p = refl
last_after k (Online core) p = by (core == k) where
  by : (same : Bool) → cond same (Some (event.Store core)) (cond same (Some (event.Local core)) (cond same (Some (event.Check core)) (last_step k p)))
      ≡ cond same (Some (event.Store core)) (last_step k p)
  by true = refl
  by false = refl
last_after k (Offline core) p = refl
last_after k Finalise p = refl

pub last_step-push : (k : ℕ) (lines : List StepLine) (line : StepLine)
    → last_step k (history (lines ++ line ∷ [])) ≡ cond (is_step_of k (last_event line)) (Some (last_event line)) (last_step k (history lines))
last_step-push k lines line = ap (last_step k) (history-push lines line) ∙ last_after k line (history lines)

-- whether finalisation was done, with the steps of one more line
final_after : (line : StepLine) (p : List Event) → is_final (reverse (events_of line) ++ p) ≡ (is_finalise (last_event line) || is_final p)
final_after (Check core) p = refl
final_after (Local core) p = refl
final_after (Store core) p = refl
final_after (Online core) p = refl
final_after (Offline core) p = refl
final_after Finalise p = refl

pub is_final-push : (lines : List StepLine) (line : StepLine) → is_final (history (lines ++ line ∷ [])) ≡ (is_finalise (last_event line) || is_final (history lines))
is_final-push lines line = ap is_final (history-push lines line) ∙ final_after line (history lines)

-- no steps are in order
pub order-none : (board : Board) → in_order board (history []) ≡ true
unfolding in_order history
order-none board = refl

own_number : (k : ℕ) → (k == k) ≡ true
own_number k = (Decides-eqb k k).1 refl

none_of_three : (a b c d : Bool) → c ≡ false → (a && (b && (c && d))) ≡ (c && d)
none_of_three true true c d e = refl
none_of_three true false c d e = rw e
none_of_three false b c d e = rw e

all_of_three : (a b c d : Bool) → a ≡ true → b ≡ true → (a && (b && (c && d))) ≡ (c && d)
all_of_three true true c d e f = refl
all_of_three true false c d e f = absurd (let no : ⊥ = cc in no)
all_of_three false b c d e f = absurd (let no : ⊥ = cc in no)

-- after its check a core can make its local step, and then its store
online_after : (board : Board) (p : List Event) (core : ℕ)
    → in_order board (event.Store core ∷ event.Local core ∷ event.Check core ∷ p) ≡ (is_next board p (event.Check core) && in_order board p)
unfolding in_order
online_after board p core = by (is_next board p (event.Check core)) refl where
  after_check : is_in_turn (event.Check core ∷ p) (event.Local core) ≡ true
  after_check = ap (λ (o : Option Event). can_follow o (event.Local core)) (last-own core (event.Check core) p (own_number core))

  after_local : is_in_turn (event.Local core ∷ event.Check core ∷ p) (event.Store core) ≡ true
  after_local = ap (λ (o : Option Event). can_follow o (event.Store core)) (last-own core (event.Local core) (event.Check core ∷ p) (own_number core))

  stores : Bool
  stores = is_next board (event.Local core ∷ event.Check core ∷ p) (event.Store core)

  decides : Bool
  decides = is_next board (event.Check core ∷ p) (event.Local core)

  by : (b : Bool) → is_next board p (event.Check core) ≡ b
      → (stores && (decides && (is_next board p (event.Check core) && in_order board p))) ≡ (is_next board p (event.Check core) && in_order board p)
  by false none = none_of_three stores decides (is_next board p (event.Check core)) (in_order board p) none
  by true next =
      let secondary : is_of_secondary board (event.Check core) ≡ true = secondary_of board p (event.Check core) next in
      all_of_three stores decides (is_next board p (event.Check core)) (in_order board p) (next_by board (event.Local core ∷ event.Check core ∷ p) (event.Store core) secondary after_local refl)
      (next_by board (event.Check core ∷ p) (event.Local core) secondary after_check refl)

order_after : (board : Board) (p : List Event) (line : StepLine)
    → in_order board (reverse (events_of line) ++ p) ≡ (is_next board p (first_event line) && in_order board p)
unfolding in_order
order_after board p (Check core) = refl
order_after board p (Local core) = refl
order_after board p (Store core) = refl
order_after board p (Online core) = online_after board p core
order_after board p (Offline core) = refl
order_after board p Finalise = refl

-- lines are in order with one more line exactly where they are without it, and the first of its steps may come next
pub order-line : (board : Board) (lines : List StepLine) (line : StepLine)
    → in_order board (history (lines ++ line ∷ [])) ≡ (is_next board (history lines) (first_event line) && in_order board (history lines))
order-line board lines line = ap (in_order board) (history-push lines line) ∙ order_after board (history lines) line

-- lines in order, and one more whose first step may come next
pub order-push : (board : Board) (lines : List StepLine) (line : StepLine) → is_of_secondary board (first_event line) ≡ true
    → is_in_turn (history lines) (first_event line) ≡ true → is_wrong_finalise (history lines) (first_event line) ≡ false
    → in_order board (history lines) ≡ true → in_order board (history (lines ++ line ∷ [])) ≡ true
order-push board lines line secondary turn final order =
    order-line board lines line ∙ and_from _ _ (next_by board (history lines) (first_event line) secondary turn final) order
