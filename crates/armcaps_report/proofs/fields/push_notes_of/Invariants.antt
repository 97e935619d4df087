use Rattle.std.proofs.Common.{◌≡◌, ◌++◌, string_bytes}
use Rattle.std.specs.List.{flat_map, range_with_len}
use Rattle.armcaps_board.specs.Board.{boot_core}
use Rattle.armcaps_report.specs.Report.{note_line_at}
use Rattle.armcaps_report.proofs.fields.push_notes_of.Given as goal

abbrev pub invariant-loop-index : goal.invariant-loop-index
invariant-loop-index l =
    string_bytes l.text ≡ string_bytes l.initial.text ++ flat_map (note_line_at l.boot.board.overrides (boot_core l.boot.board) l.register) (range_with_len 0 l.index)
