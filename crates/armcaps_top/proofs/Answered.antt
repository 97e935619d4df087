-- A document, from its reading to what is written of it.
use Rattle.std.proofs.Common.{◌≡◌, ◌≢◌, ℕ, ◌<◌, true, List, [], ◌∷◌, ◌++◌, length, Option, Some, None, refl, sym, ap, subst, ◌∙◌}
use Rattle.std.specs.Prelude.{Result, Err, reverse}
use Rattle.std.specs.List.{flat_map}
use Rattle.armcaps_board.specs.declared.event.Event.{Event}
use Rattle.armcaps_boot.specs.declared.park_or_panic.Halt.{Halt}
use Rattle.armcaps_board.specs.Board.{Board, IsBoard}
use Rattle.armcaps_board.specs.Order.{in_order, is_complete}
use Rattle.armcaps_board.specs.Steps.{events_of, history}
use Rattle.armcaps_boot.specs.ParkOrPanic.{halt_of, steps_made}
use Rattle.armcaps_boot.specs.After.{IsAfter}
use Rattle.armcaps_boot.specs.Facts.{Facts}
use Rattle.armcaps_boot.specs.First.{first_world}
use Rattle.armcaps_boot.specs.World.{World}
use Rattle.armcaps_text.specs.Document.{Reading}
use Rattle.armcaps_text.specs.Sound.{IsSound}
use Rattle.armcaps_top.specs.Answer.{unless_stopped}
use Rattle.armcaps_boot.specs.StepByStep.{IsAt}
use Rattle.armcaps_top.specs.Bringing.{IsBegun}
use Rattle.armcaps_top.specs.Inside.{IsHaltOf, IsNotUp, IsThrough, IsUp}
use Rattle.armcaps_top.specs.declared.ending.Ending.{Ending}
use Rattle.armcaps_top.specs.declared.ending.Ending.TheVariants.{Done, ReadFault, WriteFault, Memory, NoOutput}
use Rattle.armcaps_top.specs.declared.reason.Reason.{Reason}
use Rattle.armcaps_top.specs.declared.reason.Reason.TheVariants.{Panicked}
use Rattle.armcaps_top.proofs.Outputs.{are_settled, findings_are, is_finalised, whole_after}

pub history_is : (reading : Reading) (events : List Event) → events ≡ flat_map events_of reading.steps → reverse events ≡ history reading.steps
unfolding history
history_is reading events is = ap reverse is

pub board_is : (reading : Reading) (world : World) → world ≡ first_world reading.board → world.board ≡ reading.board
board_is reading world is = ap (λ (w : World). w.board) is

-- a machine that was just made is at the first of the steps
pub begins : ((board : Board) → board.boot < length board.cores → IsAfter board [] (first_world board))
    → (reading : Reading) (events : List Event) (world : World) → IsSound reading → events ≡ flat_map events_of reading.steps
    → world ≡ first_world reading.board → IsAt 0 events world.board world
unfolding halt_of
begins law reading events world sound events_are is =
    let first : World = first_world reading.board in
    let order : in_order reading.board (reverse events) ≡ true =
    subst (λ (steps : List Event). in_order reading.board steps ≡ true) (sym (history_is reading events events_are)) sound.order in
    let at : IsAt 0 events first.board first = record { order = order; after = law reading.board sound.board.within; going = refl } in
    subst (λ (w : World). IsAt 0 events w.board w) (sym is) at

pub completes : (reading : Reading) (events : List Event) (world : World) → IsSound reading → events ≡ flat_map events_of reading.steps
    → world ≡ first_world reading.board → is_complete (reverse events) ≡ true
completes reading events world sound events_are is =
    subst (λ (steps : List Event). is_complete steps ≡ true) (sym (history_is reading events events_are))
    sound.complete

pub is_board : (reading : Reading) → IsSound reading → IsBoard reading.board
is_board reading sound = sound.board

-- the same steps as a slice
pub begun_on : {reading : Reading} {events slice : List Event} {world : World} → IsBegun reading events world → slice ≡ events → IsBegun reading slice world
begun_on {reading} {events} {slice} {world} begun is = subst (λ (steps : List Event). IsBegun reading steps world) (sym is) begun

-- what is said of a machine is said of its reading
pub carried : {A : Type 0} (P : Board → List Event → A) {reading : Reading} {events : List Event} {world : World} → IsBegun reading events world
    → P world.board (reverse events) ≡ P reading.board (history reading.steps)
carried P {reading} {events} {world} begun = ap (λ (board : Board). P board (reverse events)) begun.board ∙ ap (P reading.board) begun.steps

pub made_of : {reading : Reading} {events : List Event} {world : World} (new : World) → IsBegun reading events world
    → IsAfter world.board (steps_made world.board (reverse events)) new → IsAfter reading.board (steps_made reading.board (history reading.steps)) new
made_of {reading} {events} {world} new begun after =
    subst (λ (steps : List Event). IsAfter reading.board steps new) (carried steps_made begun)
    (subst (λ (board : Board). IsAfter board (steps_made world.board (reverse events)) new) begun.board after)

-- a machine that was brought up whole
pub through : {reading : Reading} {events : List Event} {world : World} (new : World) (halt : Option Halt) → IsBegun reading events world
    → IsAfter world.board (steps_made world.board (reverse events)) new → halt ≡ halt_of world.board (reverse events) → halt ≡ None → Facts new
    → IsThrough reading new
through {reading} {events} {world} new halt begun after is none facts =
    let board : Board = reading.board in
    let steps : List Event = history reading.steps in
    let going : halt_of board steps ≡ None = sym (carried halt_of begun) ∙ sym is ∙ none in
    let made : IsAfter board (steps_made board steps) new = made_of new begun after in
    let whole : IsAfter board steps new = whole_after board steps new going made in
    let complete : is_complete steps ≡ true =
    subst (λ (s : List Event). is_complete s ≡ true) begun.steps
    begun.complete in record {
      machine = made;
      going = going;
      safe = begun.safe going;
      found = findings_are board steps new whole;
      final = is_finalised board steps new whole complete;
      settled = are_settled board steps new facts whole complete going;
    }

-- a machine that is left after those that were there
pub up : {reading : Reading} {events : List Event} {world : World} (new : World) (halt : Option Halt) (before after : List World) → IsBegun reading events world
    → IsAfter world.board (steps_made world.board (reverse events)) new → halt ≡ halt_of world.board (reverse events) → halt ≡ None → Facts new
    → after ≡ before ++ new ∷ [] → IsUp reading before after
up new halt before after begun made is none facts left = record { world = new; left = left; through = through new halt begun made is none facts }

-- or to the step that stopped it
stopped_so : (halt : Option Halt) (stop : Halt) → halt ≡ Some stop → (output : Result (List ℕ) Reason) → unless_stopped halt output ≡ Err (Panicked stop)
stopped_so halt stop is output = rw is refl

pub not_up : {reading : Reading} {events : List Event} {world : World} (new : World) (halt : Option Halt) (before after : List World) (ending : Ending) → IsBegun reading events world
    → IsAfter world.board (steps_made world.board (reverse events)) new → halt ≡ halt_of world.board (reverse events) → IsHaltOf halt (Err ending)
    → (ending ≢ Memory → after ≡ before ++ new ∷ []) → IsNotUp reading before after ending
not_up new halt before after Done begun made is stops left = absurd stops
not_up new halt before after ReadFault begun made is stops left = absurd stops
not_up new halt before after WriteFault begun made is stops left = absurd stops
not_up new halt before after Memory begun made is stops left = tt
not_up {reading} new halt before after (NoOutput (Panicked stop)) begun made is stops left = record {
  world = new;
  left = left (λ e. let no : ⊥ = cc in no);
  machine = made_of new begun made;
  stopped = stopped_so (halt_of reading.board (history reading.steps)) stop (sym (carried halt_of begun) ∙ sym is ∙ stops);
}
not_up new halt before after (NoOutput _) begun made is stops left = absurd stops
