-- The cores of a machine that is made from a number, and the steps by which they come up.
use Rattle.std.specs.Prelude.{ℕ, ◌+◌, ◌-◌, ◌/◌, ◌%◌, ◌==◌, if◌then◌else◌, List, [], ◌∷◌, ◌++◌, map}
use Rattle.std.specs.List.{range_with_len}
use Rattle.armcaps_board.specs.Board.{Board}
use Rattle.armcaps_board.specs.declared.step_line.StepLine.{StepLine}
use Rattle.armcaps_board.specs.declared.step_line.StepLine.TheVariants.{Online, Finalise}
use Rattle.armcaps_cmdline.specs.Overrides.{command_line_overrides}
use Rattle.armcaps_enc.specs.Registers.{registers}
use Rattle.armcaps_enc.specs.declared.register.SysReg.{SysReg}
use Rattle.armcaps_enc.specs.declared.register.SysReg.TheVariants.{MidrEl1, IdAa64Pfr0El1, IdAa64Dfr0El1, IdAa64Isar0El1, IdAa64Mmfr0El1, CtrEl0, DczidEl0}
use Rattle.armcaps_generate.specs.Draws.{Drawn, made, number_drawn, several}
use Rattle.armcaps_tables.specs.Core.{Core}

-- the word of a register of a core whose MIDR_EL1 is this
abbrev pub register_word : ℕ → SysReg → ℕ
register_word midr reg = elim reg [
  | MidrEl1 ↦ midr
  | IdAa64Pfr0El1 ↦ 0x2222
  | IdAa64Dfr0El1 ↦ 0x10305106
  | IdAa64Isar0El1 ↦ 0x11120
  | IdAa64Mmfr0El1 ↦ 0x1122
  | CtrEl0 ↦ 0x84448004
  | DczidEl0 ↦ 4
  | _ ↦ 0
]

-- a core whose MIDR_EL1 is this; it has no vector length
abbrev pub core_with : ℕ → Core
core_with midr = record { words = map (register_word midr) registers; lengths = 0 }

-- a Cortex-A53 r0p4 for an even number, and a Cortex-A73 r0p2 for an odd one
abbrev pub core_for : ℕ → Core
core_for number = core_with (if number % 2 == 0 then 0x410fd034 else 0x410fd092)

-- a core for a number that is drawn
abbrev pub core_drawn : ℕ → Drawn Core
core_drawn state = made core_for (number_drawn state)

-- the cores after the first
unfoldable pub others_drawn : ℕ → ℕ → Drawn (List Core)
others_drawn seed cores = several core_drawn (cores - 1) (seed + 1)

-- so many cores: the first is a Cortex-A53 and the boot core, and the command line is empty
unfoldable pub generated_board : ℕ → ℕ → Board
generated_board seed cores = record {
  cores = core_for 0 ∷ (others_drawn seed cores).value;
  boot = 0;
  overrides = command_line_overrides [];
}

-- the first half of the other cores come up before finalisation, rounded up, and the rest after it
unfoldable pub generated_steps : ℕ → List StepLine
generated_steps cores =
    map Online (range_with_len 1 (cores / 2))
    ++ Finalise ∷ map Online (range_with_len (cores / 2 + 1) (cores - 1 - cores / 2))
