-- Steps in their order, as a machine makes them.
use Rattle.std.proofs.Common.{◌≡◌, ℕ, ◌+◌, ◌<◌, true, false, List, [], ◌∷◌, ◌++◌, length, take, drop, get_or, refl, sym, ap, subst, ◌∙◌, arith, take_all, take-append-drop}
use Rattle.std.specs.Prelude.{reverse, Result, Ok, Option, Some, None, is_some}
use Rattle.std.specs.Option.{option_or}
use Rattle.std.proofs.lemmas.List.{reverse-append, take_more}
use Rattle.armcaps_board.specs.declared.event.Event.{Event}
use Rattle.armcaps_boot.specs.declared.park_or_panic.Halt.{Halt}
use Rattle.armcaps_boot.specs.declared.refused.StepRefused.{StepRefused}
use Rattle.armcaps_boot.specs.declared.reply.Reply.{Reply}
use Rattle.armcaps_board.specs.Board.{Board}
use Rattle.std.proofs.lemmas.Bool.{and_parts}
use Rattle.armcaps_board.specs.Order.{in_order, is_next}
use Rattle.armcaps_boot.specs.ParkOrPanic.{halt_at, halt_of, steps_made}
use Rattle.armcaps_boot.specs.StepByStep.{steps_before}

-- what is answered alike is alike
pub ok_same : (answer : Result Reply StepRefused) (one other : Reply) → answer ≡ Ok one → answer ≡ Ok other → one ≡ other
ok_same answer one other first second = cc

-- one step more
pub steps_more : (index : ℕ) (events : List Event) (default : Event) → index < length events
    → steps_before (index + 1) events ≡ get_or events index default ∷ steps_before index events
steps_more index events default inside =
    ap reverse (take_more events index default inside) ∙ reverse-append (take index events) (get_or events index default ∷ [])

-- all steps
pub steps_whole : (events : List Event) → steps_before (length events) events ≡ reverse events
steps_whole events = ap reverse (take_all (length events) events (omega arith))

-- all steps, with the first of them apart
pub steps_apart : (index : ℕ) (events : List Event) → reverse events ≡ reverse (drop index events) ++ steps_before index events
steps_apart index events = ap reverse (sym (take-append-drop index events)) ∙ reverse-append (take index events) (drop index events)

-- the first of steps in order are in order
pub order_before : (board : Board) (later past : List Event) → in_order board (later ++ past) ≡ true → in_order board past ≡ true
unfolding in_order
order_before board [] past order = order
order_before board (event ∷ later) past order =
    order_before board later past (and_parts (is_next board (later ++ past) event) (in_order board (later ++ past)) order).1

-- the step at an index comes next
pub record ComesNext (board : Board) (index : ℕ) (events : List Event) (default : Event) : Type 0 where
  pub order : in_order board (steps_before index events) ≡ true
  pub next : is_next board (steps_before index events) (get_or events index default) ≡ true

pub comes_next : (board : Board) (index : ℕ) (events : List Event) (default : Event) → index < length events
    → in_order board (reverse events) ≡ true → ComesNext board index events default
unfolding in_order
comes_next board index events default inside order =
    let apart : in_order board (reverse (drop (index + 1) events) ++ steps_before (index + 1) events) ≡ true =
    subst (λ (steps : List Event). in_order board steps ≡ true) (steps_apart (index + 1) events) order in
    let more : in_order board (get_or events index default ∷ steps_before index events) ≡ true =
    subst (λ (steps : List Event). in_order board steps ≡ true) (steps_more index events default inside)
    (order_before board (reverse (drop (index + 1) events)) (steps_before (index + 1) events) apart) in record {
      order = (and_parts (is_next board (steps_before index events) (get_or events index default)) (in_order board (steps_before index events)) more).1;
      next = (and_parts (is_next board (steps_before index events) (get_or events index default)) (in_order board (steps_before index events)) more).0;
    }

-- what stopped a machine stops it for good
pub halt_stays : (board : Board) (later past : List Event) (halt : Halt) → halt_of board past ≡ Some halt → halt_of board (later ++ past) ≡ Some halt
unfolding halt_of
halt_stays board [] past halt stopped = stopped
halt_stays board (event ∷ later) past halt stopped = rw (halt_stays board later past halt stopped) refl

-- steps of which none stopped the machine are all made
pub made_whole : (board : Board) (steps : List Event) → halt_of board steps ≡ None → steps_made board steps ≡ steps
unfolding halt_of steps_made
made_whole board [] going = refl
made_whole board (event ∷ past) going = rw (none_before (halt_of board past) (halt_at board event) going) refl
  where
    none_before : (first second : Option Halt) → option_or first second ≡ None → first ≡ None
    none_before None second none = refl
    none_before (Some halt) second none = cc

-- and else those up to the one that stopped it
pub made_part : (board : Board) (later past : List Event) (event : Event) (halt : Halt) → halt_of board past ≡ None → halt_of board (event ∷ past) ≡ Some halt
    → steps_made board (later ++ event ∷ past) ≡ event ∷ past
unfolding halt_of steps_made
made_part board [] past event halt going stopped = rw going refl
made_part board (next ∷ later) past event halt going stopped =
    let is : halt_of board (later ++ event ∷ past) ≡ Some halt = halt_stays board later (event ∷ past) halt stopped in
    rw is (made_part board later past event halt going stopped)

-- a machine that is stopped at the step of an index
pub record StopsAt (board : Board) (index : ℕ) (events : List Event) (halt : Halt) : Type 0 where
  pub halt_is : halt_of board (reverse events) ≡ Some halt
  pub made : steps_made board (reverse events) ≡ steps_before (index + 1) events

pub stops_at : (board : Board) (index : ℕ) (events : List Event) (default : Event) (halt : Halt) → index < length events
    → halt_of board (steps_before index events) ≡ None → halt_of board (steps_before (index + 1) events) ≡ Some halt → StopsAt board index events halt
stops_at board index events default halt inside going stopped =
    let apart = steps_apart (index + 1) events in
    let more = steps_more index events default inside in
    let at : halt_of board (get_or events index default ∷ steps_before index events) ≡ Some halt =
    subst (λ (steps : List Event). halt_of board steps ≡ Some halt) more stopped in record {
      halt_is = ap (halt_of board) apart ∙ halt_stays board (reverse (drop (index + 1) events)) (steps_before (index + 1) events) halt stopped;
      made = ap (steps_made board) (apart ∙ ap (λ (steps : List Event). reverse (drop (index + 1) events) ++ steps) more)
          ∙ made_part board (reverse (drop (index + 1) events)) (steps_before index events) (get_or events index default) halt going at ∙ sym more;
    }

pub none_of : (halt : Option Halt) → is_some halt ≡ false → halt ≡ None
none_of None is = refl
none_of (Some halt) is = cc

pub some_of : (found : Option Halt) → is_some found ≡ true → (halt : Halt) × (found ≡ Some halt)
some_of (Some halt) is = (halt, refl)
some_of None is = absurd (let no : ⊥ = cc in no)
