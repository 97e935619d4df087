-- Where an instruction's offset lies in its word, and what it stands for (Arm ARM DDI 0487, the encodings of B, BL,
-- B.cond, CBZ, CBNZ, TBZ, TBNZ and ADRP: `imm26`, `imm19`, `imm14`, and `immhi:immlo`).
use Rattle.std.specs.Prelude.{◌≡◌, ◌+◌, ◌-◌, ◌*◌, ◌/◌, ◌%◌, ◌^◌, ◌≤◌, ◌&&◌, ◌*ℤ◌, ℕ, ℤ, pos, negsuc, Bool, Option, Some, None, bit_and, bit_or, int_le, neg_ℤ}
use Rattle.armcaps_bits.specs.Field.{field_bits, signed_number, unsigned_field}
use Rattle.armcaps_insn.specs.declared.instruction_class.Class.{Class}
use Rattle.armcaps_insn.specs.declared.instruction_class.Class.TheVariants.{Jump26, Jump19, Jump14, Page, Literal, Other}
use Rattle.armcaps_insn.specs.declared.immediates.Immediate.{Immediate}

-- where the offset lies: in the bits of `mask`, which are `width` bits from `shift` on and below them `low_width` bits
-- from bit 29 on (`immlo`); its unit is 2 ^ scale bytes
abbrev pub immediate : ℕ → ℕ → ℕ → ℕ → ℕ → Immediate
immediate mask shift width low_width scale =
    record { mask = mask; shift = shift; width = width; low_width = low_width; scale = scale }

-- where the offset of each class lies, if it has one
abbrev pub immediate_of : Class → Option Immediate
immediate_of Jump26 = Some (immediate 0x03ffffff 0 26 0 2)
immediate_of Jump19 = Some (immediate 0x00ffffe0 5 19 0 2)
immediate_of Jump14 = Some (immediate 0x0007ffe0 5 14 0 2)
immediate_of Page = Some (immediate 0x60ffffe0 5 19 2 12)
immediate_of Literal = None
immediate_of Other = None

-- these bits set, and no others
abbrev pub field_mask : ℕ → ℕ → ℕ
field_mask shift width = 2 ^ (width + shift) - 2 ^ shift

-- what holds of each: the mask has these bits and no others, they lie within a word, and the unit is at most a page
pub record IsImmediate (i : Immediate) : Type 0 where
  pub bits : i.mask ≡ field_mask i.shift i.width + field_mask 29 i.low_width
  pub some : 1 ≤ i.width
  pub below : i.width + i.shift ≤ 29
  pub low : i.low_width ≤ 3
  pub scale : i.scale ≤ 12

-- how many bits the offset has
abbrev pub offset_width : Immediate → ℕ
offset_width i = i.width + i.low_width

-- the offset's bits as one number
abbrev pub offset_bits : Immediate → ℕ → ℕ
offset_bits i word = unsigned_field i.shift i.width word * 2 ^ i.low_width + unsigned_field 29 i.low_width word

-- the offset in bytes
abbrev pub offset_in : Immediate → ℕ → ℤ
offset_in i word = signed_number (offset_width i) (offset_bits i word) *ℤ pos (2 ^ i.scale)

-- the word with the offset's bits cleared
abbrev pub rest_in : Immediate → ℕ → ℕ
rest_in i word = bit_and word (2 ^ 32 - 1 - i.mask)

-- the first offset that the bits can stand for
abbrev pub lowest_in : Immediate → ℤ
lowest_in i = neg_ℤ (pos (2 ^ (offset_width i - 1) * 2 ^ i.scale))

-- the last offset that the bits can stand for
abbrev pub highest_in : Immediate → ℤ
highest_in i = pos ((2 ^ (offset_width i - 1) - 1) * 2 ^ i.scale)

-- whether an offset is from the first to the last
abbrev pub is_in_range : Immediate → ℤ → Bool
is_in_range i offset = int_le (lowest_in i) offset && int_le offset (highest_in i)

-- an offset in units, rounded down
abbrev pub steps_in : Immediate → ℤ → ℤ
steps_in i (pos n) = pos (n / 2 ^ i.scale)
steps_in i (negsuc n) = negsuc (n / 2 ^ i.scale)

-- the bits that stand for an offset, a multiple of the unit
abbrev pub bits_for : Immediate → ℤ → ℕ
bits_for i offset = field_bits (offset_width i) (steps_in i offset)

-- these bits at their places, and no others
abbrev pub placed : Immediate → ℕ → ℕ
placed i bits = bits / 2 ^ i.low_width * 2 ^ i.shift + bits % 2 ^ i.low_width * 2 ^ 29

-- the word that has this offset, and the bits of `rest` beside it
abbrev pub with_offset : Immediate → ℕ → ℤ → ℕ
with_offset i rest offset = bit_or rest (placed i (bits_for i offset))
