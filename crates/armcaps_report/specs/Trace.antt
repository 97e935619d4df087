-- The trace of a machine's steps: what each was answered, and the system registers that it changed. Its format is
-- this project's own. Steps stand newest first.
use Rattle.std.specs.Prelude.{ℕ, ◌+◌, ◌==◌, ◌||◌, ◌&&◌, if◌then◌else◌, List, [], ◌∷◌, ◌++◌, length, codes}
use Rattle.std.specs.List.{flat_map}
use Rattle.std.specs.Fmt.{decimal}
use Rattle.armcaps_enc.specs.declared.register.SysReg.{SysReg}
use Rattle.armcaps_enc.specs.Registers.{tracked}
use Rattle.armcaps_tables.specs.Core.{Core}
use Rattle.armcaps_tables.specs.Overriding.{FieldOverrides}
use Rattle.armcaps_sanit.specs.System.{system_word}
use Rattle.armcaps_board.specs.declared.event.Event.{Event}
use Rattle.armcaps_board.specs.declared.event.Event.TheVariants.{Check, Local, Store, Offline, Finalise}
use Rattle.armcaps_boot.specs.declared.reply.Reply.{Reply}
use Rattle.armcaps_boot.specs.declared.reply.Reply.TheVariants.{Done, Parked, Panicked, Skipped}
use Rattle.armcaps_board.specs.Board.{Board}
use Rattle.armcaps_boot.specs.Admission.{has_come, is_among_admitted}
use Rattle.armcaps_boot.specs.After.{reply_of}
use Rattle.armcaps_boot.specs.Choosing.{chosen}
use Rattle.armcaps_report.specs.Lines.{register_line}
use Rattle.armcaps_report.specs.Texts.{cause_text}

-- a step of a core, as `check 1`
abbrev pub core_step_text : List ℕ → ℕ → List ℕ
core_step_text name number = name ++ codes " " ++ decimal number

-- a step
abbrev pub step_text : Event → List ℕ
step_text (Check number) = core_step_text (codes "check") number
step_text (Local number) = core_step_text (codes "local") number
step_text (Store number) = core_step_text (codes "store") number
step_text (Offline number) = core_step_text (codes "offline") number
step_text Finalise = codes "finalise"

-- a reply; a step at which the machine stops is in no trace
abbrev pub reply_text : Reply → List ℕ
reply_text Done = codes "done"
reply_text Skipped = codes "skipped"
reply_text (Parked cause) = codes "parked " ++ cause_text cause
reply_text (Panicked cause) = codes "panicked " ++ cause_text cause

-- the line of a step, as `step 5 local 1 parked cap 7 HAS_LSE_ATOMICS`
abbrev pub step_line : ℕ → Event → Reply → List ℕ
step_line number event reply =
    codes "step " ++ decimal number ++ codes " " ++ step_text event ++ codes " " ++ reply_text reply ++ 10 ∷ []

-- the cores admitted once the first of all steps are made: the boot core, and each core that all steps admit and that
-- has come by then
abbrev pub admitted_by : Board → List Event → List Event → List Core
admitted_by board steps past =
    chosen (λ number. (number == board.boot) || (has_come number past && is_among_admitted board steps number))
    board.cores

-- the line of a register, where its word changes
abbrev pub changed_line : SysReg → ℕ → ℕ → List ℕ
changed_line register before after = if before == after then [] else register_line register after

-- the lines of the registers whose words change where these cores were admitted and those are
abbrev pub changed_lines : FieldOverrides → List Core → List Core → List ℕ
changed_lines overrides before after =
    flat_map (λ register. changed_line register (system_word overrides before register)
    (system_word overrides after register)) tracked

-- the lines of a step of a history, after these others
unfoldable pub step_lines : Board → List Event → List Event → Event → List ℕ
step_lines board steps past event =
    step_line (length past + 1) event (reply_of board past event)
    ++ changed_lines board.overrides (admitted_by board steps past) (admitted_by board steps (event ∷ past))

-- the lines of the first steps of a history
abbrev pub lines_of_steps : Board → List Event → List Event → List ℕ
lines_of_steps board steps [] = []
lines_of_steps board steps (event ∷ past) = lines_of_steps board steps past ++ step_lines board steps past event

-- the trace of a history
unfoldable pub trace_of : Board → List Event → List ℕ
trace_of board steps = codes "armcaps trace 1\n" ++ lines_of_steps board steps steps ++ codes "end\n"
