-- A machine before its first step.
use Rattle.std.specs.Prelude.{ℕ, false, ◌&&◌, List, [], ◌∷◌, length, replicate, slice_set, None}
use Rattle.armcaps_sanit.specs.System.{system_words}
use Rattle.armcaps_caps.specs.Capabilities.{is_boot_scope, is_local_scope}
use Rattle.armcaps_caps.specs.Rows.{capability_count}
use Rattle.armcaps_board.specs.Board.{Board, boot_core}
use Rattle.armcaps_boot.specs.declared.core_state.CoreState.{CoreState}
use Rattle.armcaps_boot.specs.declared.core_state.CoreState.TheVariants.{Absent, Admitted}
use Rattle.armcaps_boot.specs.Causes.{has_capability}
use Rattle.armcaps_boot.specs.Numbers.{numbers}
use Rattle.armcaps_boot.specs.World.{World}

-- only the boot core is admitted, of so many cores
abbrev pub first_states : ℕ → ℕ → List CoreState
first_states count boot = slice_set (replicate count Absent) boot (Admitted false)

-- the system is the boot core's alone: its words, the local capabilities that it has, those of boot scope, and its
-- vector lengths
abbrev pub first_world : Board → World
first_world board = record {
  board = board;
  system = system_words board.overrides (boot_core board ∷ []);
  states = first_states (length board.cores) board.boot;
  halted = None;
  final = false;
  noted = numbers capability_count (λ n. is_local_scope n && has_capability board (boot_core board) n);
  enabled = numbers capability_count (λ n. is_boot_scope n && has_capability board (boot_core board) n);
  hwcaps = record { hwcap = 0; hwcap2 = 0 };
  final_ctr = 0;
  common_lengths = (boot_core board).lengths;
  lengths = 0;
}
