-- What a step changes in a machine.
use Rattle.std.specs.Prelude.{ℕ, Bool, true, ◌&&◌, ◌||◌, if◌then◌else◌, List, Option, Some, Ok, Err, slice_set, bit_and}
use Rattle.armcaps_enc.specs.declared.register.SysReg.TheVariants.{CtrEl0}
use Rattle.armcaps_tables.specs.Core.{word_at}
use Rattle.armcaps_sanit.specs.System.{merged_words}
use Rattle.armcaps_caps.specs.Capabilities.{is_local_scope}
use Rattle.armcaps_hwcap.specs.declared.hw_set.HwSet.{HwSet}
use Rattle.armcaps_hwcap.specs.Words.{hwcap_word, hwcap2_word}
use Rattle.armcaps_caps.specs.Rows.{capability_count}
use Rattle.armcaps_board.specs.declared.event.Event.{Event}
use Rattle.armcaps_board.specs.declared.event.Event.TheVariants.{Check, Local, Store, Offline, Finalise}
use Rattle.armcaps_board.specs.Board.{Board, core_at}
use Rattle.armcaps_board.specs.Steps.{core_of}
use Rattle.armcaps_boot.specs.declared.core_state.CoreState.{CoreState}
use Rattle.armcaps_boot.specs.declared.core_state.CoreState.TheVariants.{Checked, Updated, Admitted, Offline as Gone, Parked as IsParked, Panicked as HasPanicked}
use Rattle.armcaps_boot.specs.declared.past.Past.{Past}
use Rattle.armcaps_boot.specs.declared.reply.Reply.{Reply}
use Rattle.armcaps_boot.specs.declared.reply.Reply.TheVariants.{Done, Parked, Panicked}
use Rattle.armcaps_tables.specs.Core.{Core}
use Rattle.armcaps_boot.specs.Answers.{Answer}
use Rattle.armcaps_boot.specs.Causes.{has_capability, capability_enabled, hwcap_advertised, sve_capability}
use Rattle.armcaps_boot.specs.Numbers.{numbers, is_in}
use Rattle.armcaps_boot.specs.States.{is_admitted_past, is_late_past, past_of}
use Rattle.armcaps_boot.specs.World.{World, state_at, early_cores}

-- a core has another state
abbrev pub with_state : World → ℕ → CoreState → World
with_state world number state = record world { states = slice_set world.states number state }

-- a core that is admitted, by whether finalisation was done and by as what it was admitted before: a returning core
-- stays early or late; a new one is late exactly after finalisation
abbrev pub admitted_after : Bool → Past → CoreState
admitted_after final was = Admitted (if is_admitted_past was then is_late_past was else final)

-- an admitted core that goes stays early or late
abbrev pub gone_after : Past → CoreState
gone_after was = Gone (is_late_past was)

-- the capabilities noted, with the local ones that one more core has
abbrev pub noted_with : World → ℕ → List Bool
noted_with world number = numbers capability_count
    (λ n. is_in world.noted n || (is_local_scope n && has_capability world.board (core_at world.board.cores number) n))

-- after the check of a core
abbrev pub checked_world : World → ℕ → World
checked_world world number = with_state world number (Checked (past_of (state_at world.states number)))

-- after the local step of a core: before finalisation its local capabilities are noted
abbrev pub updated_world : World → ℕ → World
updated_world world number =
    record (with_state world number (Updated (past_of (state_at world.states number)))) {
      noted = if world.final then world.noted else noted_with world number;
    }

-- after the store of a core: its words are merged into the system's, and before finalisation its vector lengths are
-- counted in
abbrev pub stored_world : World → ℕ → World
stored_world world number =
    record (with_state world number (admitted_after world.final (past_of (state_at world.states number)))) {
      system = merged_words world.system (core_at world.board.cores number);
      common_lengths =
          if world.final then world.common_lengths
          else bit_and world.common_lengths (core_at world.board.cores number).lengths;
    }

-- after a core went
abbrev pub left_world : World → ℕ → World
left_world world number = with_state world number (gone_after (past_of (state_at world.states number)))

-- the hwcaps that are advertised over these early cores, as the two words that programs see
abbrev pub hwcaps_over : Board → List Core → HwSet
hwcaps_over board early = record {
  hwcap = hwcap_word (hwcap_advertised board early);
  hwcap2 = hwcap2_word (hwcap_advertised board early);
}

-- what the early cores have in common is decided for good
abbrev pub final_world : World → World
final_world world = record world {
  final = true;
  enabled = numbers capability_count (capability_enabled world.board (early_cores world.board world.states));
  hwcaps = hwcaps_over world.board (early_cores world.board world.states);
  final_ctr = word_at world.system CtrEl0;
  lengths =
      if capability_enabled world.board (early_cores world.board world.states) sve_capability
      then world.common_lengths else 0;
}

-- after a step that is done
abbrev pub done_world : World → Event → World
done_world world (Check number) = checked_world world number
done_world world (Local number) = updated_world world number
done_world world (Store number) = stored_world world number
done_world world (Offline number) = left_world world number
done_world world Finalise = final_world world

-- after a step that holds its core back, or is skipped
abbrev pub held_world : World → Option ℕ → Reply → World
held_world world (Some number) (Parked cause) = with_state world number (IsParked cause)
held_world world (Some number) (Panicked cause) =
    record (with_state world number (HasPanicked cause)) { halted = Some (record { core = number; cause = cause }) }
held_world world number _ = world

-- a machine after a step that was answered so: after a refusal or a skipped step it is as it was
abbrev pub world_after : World → Event → Answer → World
world_after world event (Ok Done) = done_world world event
world_after world event (Ok reply) = held_world world (core_of event) reply
world_after world event (Err refused) = world
