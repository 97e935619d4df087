use Rattle.std.proofs.Common.{◌≡◌, ◌++◌, string_bytes}
use Rattle.std.specs.List.{flat_map, range_with_len}
use Rattle.armcaps_boot.specs.Causes.{is_system_length}
use Rattle.armcaps_boot.specs.World.{early_cores}
use Rattle.armcaps_report.specs.Lines.{length_line}
use Rattle.armcaps_report.proofs.lengths.push_lengths.Given as goal

abbrev pub invariant-loop-bit : goal.invariant-loop-bit
invariant-loop-bit l =
    string_bytes l.text ≡ string_bytes l.initial.text
    ++ flat_map (λ length. length_line (is_system_length l.boot.board (early_cores l.boot.board l.boot.states) length) length) (range_with_len 1 l.bit)
