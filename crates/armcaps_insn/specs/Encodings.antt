-- The A64 instructions that take an address from the place where they stand (Arm ARM DDI 0487).
use Rattle.std.specs.Prelude.{◌==◌, ℕ, List, [], ◌∷◌, Bool, bit_and, find}
use Rattle.std.specs.Option.{option_map_or}
use Rattle.armcaps_insn.specs.declared.instruction_class.Class.{Class}
use Rattle.armcaps_insn.specs.declared.instruction_class.Class.TheVariants.{Jump26, Jump19, Jump14, Page, Literal, Other}

-- words of one class: those that have `value` in the bits of `mask`
pub record Encoding : Type 0 where
  pub mask : ℕ
  pub value : ℕ
  pub class : Class

abbrev encoding : ℕ → ℕ → Class → Encoding
encoding mask value class = record { mask = mask; value = value; class = class }

-- in the order of the manual's index of encodings ("A64 instruction set encoding"): data processing with an immediate,
-- branches, loads and stores; behind each line its instructions
unfoldable pub encodings : List Encoding
encodings =
    encoding 0x9f000000 0x10000000 Literal  -- ADR
    ∷ encoding 0x9f000000 0x90000000 Page  -- ADRP
    ∷ encoding 0xff000000 0x54000000 Jump19  -- B.cond, BC.cond
    ∷ encoding 0xff000000 0x55000000 Literal  -- miscellaneous branch (immediate)
    ∷ encoding 0xfc000000 0x14000000 Jump26  -- B
    ∷ encoding 0xfc000000 0x94000000 Jump26  -- BL
    ∷ encoding 0x7f000000 0x34000000 Jump19  -- CBZ
    ∷ encoding 0x7f000000 0x35000000 Jump19  -- CBNZ
    ∷ encoding 0x7f000000 0x36000000 Jump14  -- TBZ
    ∷ encoding 0x7f000000 0x37000000 Jump14  -- TBNZ
    ∷ encoding 0x3b000000 0x18000000 Literal  -- load register (literal), PRFM (literal)
    ∷ []

-- whether a word is of a kind
abbrev pub is_encoded : ℕ → Encoding → Bool
is_encoded word kind = bit_and word kind.mask == kind.value

-- the class of a word: that of its kind, and Other where it is of none
unfoldable pub class_of : ℕ → Class
class_of word = option_map_or (λ kind. kind.class) (find (is_encoded word) encodings) Other

-- NOP, the instruction that does nothing (Arm ARM DDI 0487, "NOP")
abbrev pub nop : ℕ
nop = 0xd503201f
