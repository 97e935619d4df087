-- What a core tells of itself.
use Rattle.std.specs.Prelude.{ℕ, List, slice_index}
use Rattle.armcaps_enc.specs.declared.register.SysReg.{SysReg}
use Rattle.armcaps_enc.specs.Registers.{place_of}

-- the words of a core's 17 registers, in the registers' order, and the vector lengths that it has: bit q - 1 stands for
-- vectors of q times 128 bits
pub record Core : Type 0 where
  pub words : List ℕ
  pub lengths : ℕ

-- one register's word among those of all registers
abbrev pub word_at : List ℕ → SysReg → ℕ
word_at words reg = slice_index words (place_of reg)

-- the word that a core has in one register
abbrev pub core_word : Core → SysReg → ℕ
core_word core reg = word_at core.words reg
