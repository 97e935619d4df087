-- The image of generated alternatives: their table at its begin, the sites from 262,144 on, and the replacements from
-- 1,048,576 on; 32 bytes for each site and each replacement, and zeros between (Linux,
-- arch/arm64/include/asm/alternative.h, `struct alt_instr`; Arm ARM DDI 0487, the encodings of MOVZ, BL, ADRP and
-- NOP).
use Rattle.std.specs.Prelude.{ℕ, ◌+◌, ◌-◌, ◌*◌, ◌/◌, ◌%◌, ◌-ℤ◌, pos, List, [], ◌∷◌, ◌++◌, length, map, replicate, flat_map}
use Rattle.std.specs.Int.{to_le_bytes, w16, w32}
use Rattle.std.specs.List.{enumerate_from}
use Rattle.armcaps_insn.specs.Encodings.{nop}
use Rattle.armcaps_insn.specs.Immediates.{immediate, with_offset}
use Rattle.armcaps_generate.specs.Alternatives.{Alternative, generated_alternatives}
use Rattle.armcaps_generate.specs.declared.instruction.Instruction.{Instruction}
use Rattle.armcaps_generate.specs.declared.instruction.Instruction.TheVariants.{Move, Call, Page, Nop}

-- the word of an instruction at a place: MOVZ W0 of the lower 16 bits of a number, BL to one of the first 1,000 words
-- of the sites, ADRP X0 of one of the first 512 pages, or NOP
unfoldable pub instruction_word : ℕ → Instruction → ℕ
instruction_word place (Move number) = 0x52800000 + 32 * (number % 65536)
instruction_word place (Call number) =
    with_offset (immediate 0x03ffffff 0 26 0 2) 0x94000000 (pos (262_144 + 4 * (number % 1000)) -ℤ pos place)
instruction_word place (Page number) =
    with_offset (immediate 0x60ffffe0 5 19 2 12) 0x90000000 (pos (4096 * (number % 512)) -ℤ pos (place / 4096 * 4096))
instruction_word place Nop = nop

-- the words of instructions from a place on
abbrev pub instruction_words : ℕ → List Instruction → List ℕ
instruction_words place instructions =
    map (λ each. instruction_word (place + 4 * each.0) each.1) (enumerate_from 0 instructions)

-- so many zeros
unfoldable pub zeros : ℕ → List ℕ
zeros count = replicate count 0

-- words, and zeros up to 32 bytes
abbrev pub slot : List ℕ → List ℕ
slot words = flat_map (to_le_bytes w32) words ++ zeros (32 - 4 * length words)

-- where the entry of an alternative lies, by its index
abbrev pub entry_place : ℕ → ℕ
entry_place index = 12 * index

-- where its site lies
abbrev pub site_place : ℕ → ℕ
site_place index = 262_144 + 32 * index

-- where its replacement lies
abbrev pub replacement_place : ℕ → ℕ
replacement_place index = 1_048_576 + 32 * index

-- the entry: the offsets of the site and the replacement, each from its own field's place; the number; and both
-- lengths in bytes
abbrev pub entry_bytes : ℕ → Alternative → List ℕ
entry_bytes index alternative =
    to_le_bytes w32 (site_place index - entry_place index)
    ++ to_le_bytes w32 (replacement_place index - (entry_place index + 4))
    ++ to_le_bytes w16 alternative.number
    ++ 4 * length alternative.instructions ∷ 4 * length alternative.instructions ∷ []

-- the site: as many times NOP as the replacement has words
abbrev pub site_bytes : ℕ → Alternative → List ℕ
site_bytes index alternative = slot (replicate (length alternative.instructions) nop)

-- the replacement: the words of its instructions
abbrev pub replacement_bytes : ℕ → Alternative → List ℕ
replacement_bytes index alternative = slot (instruction_words (replacement_place index) alternative.instructions)

-- the bytes of each alternative by its index, one after the other
abbrev pub laid : (ℕ → Alternative → List ℕ) → List Alternative → List ℕ
laid bytes alternatives = flat_map (λ each. bytes each.0 each.1) (enumerate_from 0 alternatives)

-- the image of 20,000 alternatives, which has 2,097,152 bytes
unfoldable pub image_of : List Alternative → List ℕ
image_of alternatives =
    laid entry_bytes alternatives ++ zeros 22_144 ++ laid site_bytes alternatives ++ zeros 146_432
    ++ laid replacement_bytes alternatives ++ zeros 408_576

-- the image that is generated from a seed for so many cores
unfoldable pub generated_image : ℕ → ℕ → List ℕ
generated_image seed cores = image_of (generated_alternatives seed cores)
