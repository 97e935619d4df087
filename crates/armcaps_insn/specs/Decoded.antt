-- A word as an instruction, and the address that it takes from the place where it stands.
use Rattle.std.specs.Prelude.{◌+ℤ◌, ◌*◌, ◌/◌, ℕ, ℤ, pos, Option, Some, None}
use Rattle.std.specs.Option.{option_map}
use Rattle.armcaps_insn.specs.declared.instruction_class.Class.{Class}
use Rattle.armcaps_insn.specs.declared.instruction_class.Class.TheVariants.{Jump26, Jump19, Jump14, Page, Literal, Other}
use Rattle.armcaps_insn.specs.declared.immediates.Immediate.{Immediate}
use Rattle.armcaps_insn.specs.declared.instruction.Insn.{Insn}
use Rattle.armcaps_insn.specs.Encodings.{class_of}
use Rattle.armcaps_insn.specs.Immediates.{immediate_of, offset_in, rest_in}

-- a word of a class whose offset lies there: the rest is the word without it
abbrev pub insn_of : Class → Option Immediate → ℕ → Insn
insn_of class None word = record { class = class; rest = word; offset = None }
insn_of class (Some i) word = record { class = class; rest = rest_in i word; offset = Some (offset_in i word) }

-- a word as an instruction
abbrev pub decoded : ℕ → Insn
decoded word = insn_of (class_of word) (immediate_of (class_of word)) word

-- from where an offset counts: the instruction's own place, and for ADRP the begin of its page
abbrev pub base_of : Class → ℕ → ℕ
base_of Page place = place / 4096 * 4096
base_of Jump26 place = place
base_of Jump19 place = place
base_of Jump14 place = place
base_of Literal place = place
base_of Other place = place

-- the address that a word takes, where it stands at a place
abbrev pub target_at : ℕ → ℕ → Option ℤ
target_at place word = option_map (λ offset. pos (base_of (class_of word) place) +ℤ offset) (decoded word).offset
