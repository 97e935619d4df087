-- Each word of a generated replacement can move, and has 32 bits.
use Rattle.std.proofs.Common.{◌≡◌, ℕ, ◌+◌, ◌*◌, ◌/◌, ◌%◌, ◌^◌, ◌<◌, pos, ◌-ℤ◌, arith, lit<}
use Rattle.std.proofs.lemmas.Nat.{mod_below}
use Rattle.armcaps_insn.specs.Encodings.{nop}
use Rattle.armcaps_insn.specs.Immediates.{immediate, with_offset}
use Rattle.armcaps_insn.specs.Moved.{corrected}
use Rattle.armcaps_generate.specs.LargeImage.{instruction_word}
use Rattle.armcaps_generate.specs.declared.instruction.Instruction.{Instruction}
use Rattle.armcaps_generate.specs.declared.instruction.Instruction.TheVariants.{Move, Call, Page, Nop}
use Rattle.armcaps_generate.proofs.MovedWords.{IsCorrected, call_fits, call_moves, move_stays, nop_stays, page_fits, page_moves}

-- a call, by its places in words
call_at : (target from to low high a b c : ℕ) → target ≡ 4 * a → from ≡ 4 * b → to ≡ 4 * c → a < 2 ^ 22 → b < 2 ^ 22 → c < 2 ^ 22 → IsCorrected (corrected (with_offset (immediate 0x03ffffff 0 26 0 2) 0x94000000 (pos target -ℤ pos from)) from to low high)
call_at target from to low high a b c target_is from_is to_is few_a few_b few_c = rw (target_is, from_is, to_is) (call_moves a b c low high few_a few_b few_c)

call_small : (target from a b : ℕ) → target ≡ 4 * a → from ≡ 4 * b → a < 2 ^ 22 → b < 2 ^ 22 → with_offset (immediate 0x03ffffff 0 26 0 2) 0x94000000 (pos target -ℤ pos from) < 2 ^ 32
call_small target from a b target_is from_is few_a few_b = rw (target_is, from_is) (call_fits a b few_a few_b)

-- each word can move
pub word_moves : (instruction : Instruction) (from to low high : ℕ) → from % 4 ≡ 0 → to % 4 ≡ 0 → from < 2 ^ 22 → to < 2 ^ 22 → IsCorrected (corrected (instruction_word from instruction) from to low high)
unfolding instruction_word
word_moves (Move number) from to low high f t few near = (0x52800000 + 32 * (number % 65536), move_stays (number % 65536) from to low high (mod_below number 65536 (lit< tt)))
word_moves (Call number) from to low high f t few near =
    let small = mod_below number 1000 (lit< tt) in
    call_at (262_144 + 4 * (number % 1000)) from to low high (65_536 + number % 1000) (from / 4) (to / 4) (omega arith) (omega (arith, f)) (omega (arith, t)) (omega (arith, small)) (omega (arith, few)) (omega (arith, near))
word_moves (Page number) from to low high f t few near =
    let small = mod_below number 512 (lit< tt) in
    page_moves (number % 512) from to low high (omega (arith, small)) (omega (arith, few)) (omega (arith, near))
word_moves Nop from to low high f t few near = (nop, nop_stays from to low high)

pub word_small : (instruction : Instruction) (from : ℕ) → from % 4 ≡ 0 → from < 2 ^ 22 → instruction_word from instruction < 2 ^ 32
unfolding instruction_word
word_small (Move number) from f few = let small = mod_below number 65536 (lit< tt) in omega (arith, small)
word_small (Call number) from f few =
    let small = mod_below number 1000 (lit< tt) in
    call_small (262_144 + 4 * (number % 1000)) from (65_536 + number % 1000) (from / 4) (omega arith) (omega (arith, f)) (omega (arith, small)) (omega (arith, few))
word_small (Page number) from f few = let small = mod_below number 512 (lit< tt) in page_fits (number % 512) from (omega (arith, small)) (omega (arith, few))
word_small Nop from f few = lit< tt
