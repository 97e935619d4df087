-- The trace of a machine's steps, line by line.
use Rattle.std.proofs.Common.{◌≡◌, ℕ, ◌+◌, ◌<◌, ◌≤◌, true, ◌&&◌, ◌||◌, List, ◌++◌, length, take, drop, get_or, sym, ap, subst, ◌∙◌, append_assoc, length-take-le}
use Rattle.std.specs.Prelude.{◌==◌, reverse}
use Rattle.std.proofs.lemmas.List.{length-reverse}
use Rattle.armcaps_tables.specs.Core.{Core}
use Rattle.armcaps_sanit.specs.System.{IsSystemOf}
use Rattle.armcaps_boot.specs.declared.core_state.CoreState.{CoreState}
use Rattle.armcaps_board.specs.declared.event.Event.{Event}
use Rattle.armcaps_board.specs.Board.{Board}
use Rattle.armcaps_board.specs.Order.{in_order}
use Rattle.armcaps_boot.specs.Admission.{has_come, is_among_admitted}
use Rattle.armcaps_boot.specs.After.{IsAfter, state_of, states_after}
use Rattle.armcaps_boot.specs.Choosing.{chosen}
use Rattle.armcaps_boot.specs.States.{is_admitted}
use Rattle.armcaps_boot.specs.World.{World, admitted_cores, state_at}
use Rattle.armcaps_boot.proofs.ShorterHistories.{chosen-within, state_at-after}
use Rattle.armcaps_boot.specs.StepByStep.{steps_before}
use Rattle.armcaps_report.specs.Trace.{admitted_by, lines_of_steps, step_lines}
use Rattle.armcaps_boot.proofs.StepByStep.{steps_apart, steps_more}

-- which cores are admitted after the first of all steps
abbrev pub Shorter : Type 0
Shorter = (board : Board) (later past : List Event) (core : ℕ) → in_order board (later ++ past) ≡ true → core < length board.cores
    → is_admitted (state_of board past core) ≡ ((core == board.boot) || (has_come core past && is_among_admitted board (later ++ past) core))

admitted_are : Shorter → (board : Board) (later past : List Event) (world : World) → in_order board (later ++ past) ≡ true
    → IsAfter board past world → admitted_cores world.board world.states ≡ admitted_by board (later ++ past) past
admitted_are law board later past world order after =
    ap (λ (states : List CoreState). chosen (λ n. is_admitted (state_at states n)) world.board.cores) after.states
    ∙ ap (λ (b : Board). chosen (λ n. is_admitted (state_at (states_after board past) n)) b.cores) after.of_board
    ∙ chosen-within (λ n. is_admitted (state_at (states_after board past) n))
    (λ n. (n == board.boot) || (has_come n past && is_among_admitted board (later ++ past) n)) board.cores
    (λ k within. ap is_admitted (state_at-after board past k within) ∙ law board later past k order within)

-- the system after the steps before an index is that of the cores admitted by then
pub system_at : Shorter → (board : Board) (index : ℕ) (events : List Event) (world : World) (system : List ℕ)
    → in_order board (reverse events) ≡ true → IsAfter board (steps_before index events) world
    → IsSystemOf world.board.overrides (admitted_cores world.board world.states) system
    → IsSystemOf board.overrides (admitted_by board (reverse events) (steps_before index events)) system
system_at law board index events world system order after is =
    let apart = steps_apart index events in
    let ordered : in_order board (reverse (drop index events) ++ steps_before index events) ≡ true =
    subst (λ (steps : List Event). in_order board steps ≡ true) apart order in
    let cores = admitted_are law board (reverse (drop index events)) (steps_before index events) world ordered after
    ∙ ap (λ (steps : List Event). admitted_by board steps (steps_before index events)) (sym apart) in
    subst (λ (b : Board). IsSystemOf b.overrides (admitted_by board (reverse events) (steps_before index events)) system) after.of_board
    (subst (λ (c : List Core). IsSystemOf world.board.overrides c system) cores is)

pub number_of_steps : (index : ℕ) (events : List Event) → index ≤ length events → length (steps_before index events) ≡ index
number_of_steps index events within = length-reverse (take index events) ∙ length-take-le index events within

-- the lines of one step more
pub lines_more : (board : Board) (index : ℕ) (events : List Event) (default : Event) (front text new : List ℕ) → index < length events
    → text ≡ front ++ lines_of_steps board (reverse events) (steps_before index events)
    → new ≡ text ++ step_lines board (reverse events) (steps_before index events) (get_or events index default)
    → new ≡ front ++ lines_of_steps board (reverse events) (steps_before (index + 1) events)
lines_more board index events default front text new inside so_far added =
    let line = step_lines board (reverse events) (steps_before index events) (get_or events index default) in
    added ∙ ap (λ (t : List ℕ). t ++ line) so_far ∙ append_assoc front (lines_of_steps board (reverse events) (steps_before index events)) line
    ∙ ap (λ (past : List Event). front ++ lines_of_steps board (reverse events) past) (sym (steps_more index events default inside))
