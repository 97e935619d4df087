use Rattle.std.proofs.Common.{◌≡◌, ◌++◌, take, string_bytes}
use Rattle.std.specs.List.{flat_map}
use Rattle.armcaps_enc.specs.Registers.{tracked}
use Rattle.armcaps_sanit.specs.System.{system_word}
use Rattle.armcaps_boot.specs.World.{admitted_cores}
use Rattle.armcaps_report.specs.Lines.{register_line}
use Rattle.armcaps_report.proofs.registers.push_registers.Given as goal

abbrev pub invariant-loop-register : goal.invariant-loop-register
invariant-loop-register l =
    string_bytes l.text ≡ string_bytes l.initial.text ++ flat_map (λ register. register_line register (system_word l.boot.board.overrides (admitted_cores l.boot.board l.boot.states) register)) (take l.register-index tracked)
