use Rattle.std.proofs.Common.{◌≡◌, ◌++◌, take, string_bytes}
use Rattle.std.specs.List.{flat_map}
use Rattle.armcaps_enc.specs.Registers.{tracked}
use Rattle.armcaps_board.specs.Board.{boot_core}
use Rattle.armcaps_report.specs.Report.{note_lines}
use Rattle.armcaps_report.proofs.fields.push_notes.Given as goal

abbrev pub invariant-loop-register : goal.invariant-loop-register
invariant-loop-register l =
    string_bytes l.text ≡ string_bytes l.initial.text ++ flat_map (note_lines l.boot.board.overrides (boot_core l.boot.board)) (take l.register-index tracked)
