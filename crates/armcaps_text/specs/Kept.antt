-- What is kept of steps so that the last one of a core, and whether one is on its way up, are known at once.
use Rattle.std.specs.Prelude.{◌≡◌, ℕ, Bool, if◌then◌else◌, List, sum_by, Option, None, slice_index_or}
use Rattle.armcaps_board.specs.Order.{is_begun_last}
use Rattle.armcaps_board.specs.Steps.{is_final, last_step}
use Rattle.armcaps_board.specs.declared.event.Event.{Event}

-- 1 for a core whose last step leaves it on its way up
abbrev pub one_begun : Option Event → ℕ
one_begun last = if is_begun_last last then 1 else 0

-- the last step of each core, how many cores are on their way up, and whether the system is finalised
pub record AreKept (past : List Event) (last : List (Option Event)) (begun : ℕ) (final : Bool) : Type 0 where
  pub each : (core : ℕ) → slice_index_or last core None ≡ last_step core past
  pub count : begun ≡ sum_by one_begun last
  pub ended : final ≡ is_final past
