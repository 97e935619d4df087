-- Alternatives that are drawn from a number.
use Rattle.std.specs.Prelude.{ℕ, ◌+◌, ◌%◌, ◌==◌, if◌then◌else◌, List}
use Rattle.armcaps_caps.specs.Rows.{capability_count}
use Rattle.armcaps_generate.specs.Cores.{others_drawn}
use Rattle.armcaps_generate.specs.Draws.{Drawn, made, number_drawn, several}
use Rattle.armcaps_generate.specs.declared.instruction.Instruction.{Instruction}
use Rattle.armcaps_generate.specs.declared.instruction.Instruction.TheVariants.{Move, Call, Page, Nop}

-- an alternative: the number of a feature, and the instructions that are for machines with it
pub record Alternative : Type 0 where
  pub number : ℕ
  pub instructions : List Instruction

-- an instruction by a number from 0 to 3; but for NOP, one more number is drawn
abbrev pub instruction_chosen : ℕ → ℕ → Drawn Instruction
instruction_chosen choice state =
    if choice == 0 then made Move (number_drawn state)
    else if choice == 1 then made Call (number_drawn state)
    else if choice == 2 then made Page (number_drawn state)
    else record { value = Nop; state = state }

-- a number is drawn, and by its remainder an instruction
abbrev pub instruction_drawn : ℕ → Drawn Instruction
instruction_drawn state = let choice = number_drawn state in instruction_chosen (choice.value % 4) choice.state

-- one to four instructions, and then the number; the count is drawn before the number, and the number before the
-- instructions
abbrev pub alternative_drawn : ℕ → Drawn Alternative
alternative_drawn state =
    let count = number_drawn state in
    let number = number_drawn count.state in
    made (λ instructions. record { number = number.value % capability_count; instructions = instructions })
    (several instruction_drawn (1 + count.value % 4) number.state)

-- the alternatives, which are drawn after the cores
unfoldable pub generated_alternatives : ℕ → ℕ → List Alternative
generated_alternatives seed cores = (several alternative_drawn 20000 (others_drawn seed cores).state).value
