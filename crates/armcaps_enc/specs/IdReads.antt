-- Instruction words that read a register of the space of ID registers (Arm ARM DDI 0487, "MRS").
use Rattle.std.specs.Prelude.{ℕ, ◌/◌, ◌%◌, ◌^◌, ◌==◌, if◌then◌else◌, Option, Some, None}
use Rattle.armcaps_enc.specs.Registers.{encoded}
use Rattle.armcaps_enc.specs.declared.mrs_word.MrsWord.{MrsWord}

-- what a word reads and where to, where it is MRS with op0 = 3 and op1 = 0: its upper half is 0xd538, and below it
-- stand CRn, CRm, op2 and Rt, of 4, 4, 3 and 5 bits
abbrev pub id_read : ℕ → Option MrsWord
id_read word =
    if word / 2 ^ 16 == 0xd538
    then Some (record {
      id = encoded 3 0 (word / 2 ^ 12 % 2 ^ 4) (word / 2 ^ 8 % 2 ^ 4) (word / 2 ^ 5 % 2 ^ 3);
      rt = word % 2 ^ 5;
    })
    else None
