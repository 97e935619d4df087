-- How the word that belongs at a place is told by what words decode to.
use Rattle.std.specs.Prelude.{ℕ, ℤ, ◌≡◌, ◌/◌, ◌^◌, ◌≤ℤ◌, ◌+ℤ◌, Bool, Option, Some, IfSome, neg_ℤ, negsuc, pos, true}
use Rattle.std.specs.Option.{option_map, option_map_or}
use Rattle.armcaps_insn.specs.declared.instruction.Insn.{Insn}
use Rattle.armcaps_insn.specs.Decoded.{base_of}
use Rattle.armcaps_insn.specs.Immediates.{immediate_of, is_in_range, with_offset}
use Rattle.armcaps_insn.specs.Moved.{offset_to}

-- an offset is within 2 ^ 43 bytes, if there is one
abbrev pub IsNear : Option ℤ → Type 0
IsNear offset = IfSome offset (λ o. (neg_ℤ (pos (2 ^ 43)) ≤ℤ o) × (o ≤ℤ pos (2 ^ 43)))

-- an address is within 2 ^ 44 bytes of the image's first byte
abbrev pub IsFar : ℤ → Type 0
IsFar address = (neg_ℤ (pos (2 ^ 44)) ≤ℤ address) × (address ≤ℤ pos (2 ^ 44))

-- the address that an instruction takes from a place
abbrev pub address_of : Insn → ℕ → Option ℤ
address_of insn place = option_map (λ offset. pos (base_of insn.class place) +ℤ offset) insn.offset

-- an offset in units of 2 ^ scale bytes, rounded down
abbrev pub units_of : ℕ → ℤ → ℤ
units_of scale (pos n) = pos (n / 2 ^ scale)
units_of scale (negsuc n) = negsuc (n / 2 ^ scale)

-- whether an instruction of this class can have the target where it stands
abbrev pub reaches : Insn → ℕ → ℤ → Bool
reaches insn place target =
    option_map_or (λ lies. is_in_range lies (offset_to insn.class place target)) (immediate_of insn.class) true

-- the word that has an instruction's class and other bits, and the target where it stands
abbrev pub word_with : Insn → ℕ → ℤ → ℕ
word_with insn place target =
    let offset = offset_to insn.class place target in
    option_map_or (λ lies. with_offset lies insn.rest offset) (immediate_of insn.class) insn.rest

-- an instruction found has the class and the other bits of another, and the target where it stands
pub record Keeps (insn found : Insn) (place : ℕ) (address : ℤ) : Type 0 where
  pub class : found.class ≡ insn.class
  pub rest : found.rest ≡ insn.rest
  pub target : address_of found place ≡ Some address
