-- The orders in which cores can come up, go and come back. Which orders a text may have is this project's own. A core
-- that is held back makes its steps like any other: what comes of them is no part of the order.
use Rattle.std.specs.Prelude.{◌==◌, Bool, true, false, not, ◌&&◌, ◌||◌, nat_lt, List, [], ◌∷◌, length, filter_map, Option, Some, None}
use Rattle.std.specs.List.{list_any}
use Rattle.std.specs.Option.{option_map_or}
use Rattle.armcaps_board.specs.declared.event.Event.{Event}
use Rattle.armcaps_board.specs.declared.event.Event.TheVariants.{Check, Local, Store, Offline, Finalise}
use Rattle.armcaps_board.specs.Board.{Board}
use Rattle.armcaps_board.specs.Steps.{core_of, is_final, is_finalise, last_step}

-- a core with this last step has made its check and no more
abbrev pub is_checked_last : Option Event → Bool
is_checked_last (Some (Check core)) = true
is_checked_last _ = false

-- a core with this last step has made its local step and not its store
abbrev pub is_updated_last : Option Event → Bool
is_updated_last (Some (Local core)) = true
is_updated_last _ = false

-- a core with this last step has made its store and not gone
abbrev pub is_up_last : Option Event → Bool
is_up_last (Some (Store core)) = true
is_up_last _ = false

-- a core with this last step, or without one, has made no step or went offline
abbrev pub is_fresh_last : Option Event → Bool
is_fresh_last None = true
is_fresh_last (Some (Offline core)) = true
is_fresh_last _ = false

-- a core with this last step is on its way up: it has made its check and not its store
abbrev pub is_begun_last : Option Event → Bool
is_begun_last (Some (Check core)) = true
is_begun_last (Some (Local core)) = true
is_begun_last _ = false

-- a core with this last step can make the step: a check where it is fresh, a local step after its check, a store
-- after its local step, and it can go where it is up
abbrev pub can_follow : Option Event → Event → Bool
can_follow last (Check core) = is_fresh_last last
can_follow last (Local core) = is_checked_last last
can_follow last (Store core) = is_updated_last last
can_follow last (Offline core) = is_up_last last
can_follow last Finalise = true

-- the step is one that its core can make after its last one
abbrev pub is_in_turn : List Event → Event → Bool
is_in_turn steps event = option_map_or (λ core. can_follow (last_step core steps) event) (core_of event) true

-- some core is on its way up
unfoldable pub is_some_in_flight : List Event → Bool
is_some_in_flight steps = list_any (λ core. is_begun_last (last_step core steps)) (filter_map core_of steps)

-- the step is a `finalise` that cannot stand after these: a second one, or one while a core is on its way up
abbrev pub is_wrong_finalise : List Event → Event → Bool
is_wrong_finalise steps event = is_finalise event && (is_final steps || is_some_in_flight steps)

-- the step is of no core, or of a core of the board that is not the boot core
abbrev pub is_of_secondary : Board → Event → Bool
is_of_secondary board event =
    option_map_or (λ core. nat_lt core (length board.cores) && not (core == board.boot)) (core_of event) true

-- the step may come after these: it is one of a secondary core whose turn it is, or the one finalisation, where no
-- core is on its way up
unfoldable pub is_next : Board → List Event → Event → Bool
is_next board steps event = is_of_secondary board event && is_in_turn steps event && not (is_wrong_finalise steps event)

-- each of the steps may come after those before it
unfoldable pub in_order : Board → List Event → Bool
in_order board [] = true
in_order board (event ∷ steps) = is_next board steps event && in_order board steps

-- finalisation was done, and no core is on its way up
abbrev pub is_complete : List Event → Bool
is_complete steps = is_final steps && not (is_some_in_flight steps)
