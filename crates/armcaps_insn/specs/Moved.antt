-- What a word becomes that moves from one place to another.
use Rattle.std.specs.Prelude.{◌≡◌, ◌+ℤ◌, ◌-ℤ◌, ◌<◌, ◌≤◌, ◌^◌, ◌%◌, ◌&&◌, ℕ, ℤ, pos, Bool, true, false, Option, Some, None, Result, Ok, Err, if◌then◌else◌, int_le, int_rem}
use Rattle.std.specs.Option.{option_map_or}
use Rattle.std.specs.Ordering.{int_eq}
use Rattle.armcaps_insn.specs.declared.instruction_class.Class.{Class}
use Rattle.armcaps_insn.specs.declared.instruction_class.Class.TheVariants.{Jump26, Jump19, Jump14, Page, Literal, Other}
use Rattle.armcaps_insn.specs.declared.immediates.Immediate.{Immediate}
use Rattle.armcaps_insn.specs.declared.correction.FixRefused.{FixRefused}
use Rattle.armcaps_insn.specs.declared.correction.FixRefused.TheVariants as refused
use Rattle.armcaps_insn.specs.Encodings.{class_of}
use Rattle.armcaps_insn.specs.Immediates.{immediate, immediate_of, is_in_range, offset_in, rest_in, with_offset}
use Rattle.armcaps_insn.specs.Decoded.{base_of, decoded, target_at}

-- at its new place the new word has the old one's class, its other bits and its target
pub record IsMoved (word from new to : ℕ) : Type 0 where
  pub fits : new < 2 ^ 32
  pub class : (decoded new).class ≡ (decoded word).class
  pub rest : (decoded new).rest ≡ (decoded word).rest
  pub target : target_at to new ≡ target_at from word

-- whether a jump's target is in its own sequence, from its first byte to its end, both included
abbrev pub is_inside : Class → ℤ → ℕ → ℕ → Bool
is_inside Page target low high = false
is_inside Jump26 target low high = int_le (pos low) target && int_le target (pos high)
is_inside Jump19 target low high = int_le (pos low) target && int_le target (pos high)
is_inside Jump14 target low high = int_le (pos low) target && int_le target (pos high)
is_inside Literal target low high = false
is_inside Other target low high = false

-- the offset that a class needs at a place for a target
abbrev pub offset_to : Class → ℕ → ℤ → ℤ
offset_to class place target = target -ℤ pos (base_of class place)

-- a word that has an offset, and this target: it stays where the target is inside, and else it gets the offset that it
-- needs at its new place
abbrev pub relocated : Immediate → Class → ℕ → ℤ → ℕ → ℕ → ℕ → Result ℕ FixRefused
relocated i class word target to low high =
    if is_inside class target low high then Ok word
    else if is_in_range i (offset_to class to target)
    then Ok (with_offset i (rest_in i word) (offset_to class to target))
    else Err (refused.Range (offset_to class to target))

-- a word of a class whose offset lies there, moved
abbrev pub corrected_by : Option Immediate → Class → ℕ → ℕ → ℕ → ℕ → ℕ → Result ℕ FixRefused
corrected_by (Some i) class word from to low high =
    relocated i class word (pos (base_of class from) +ℤ offset_in i word) to low high
corrected_by None Literal word from to low high = Err (refused.Literal word)
corrected_by None class word from to low high = Ok word

-- a word moved from one place of a sequence of replacements to another place; the sequence goes from `low` to `high`
abbrev pub corrected : ℕ → ℕ → ℕ → ℕ → ℕ → Result ℕ FixRefused
corrected word from to low high = corrected_by (immediate_of (class_of word)) (class_of word) word from to low high

-- whether a class takes no address from the place where it stands
abbrev pub takes_no_address : Class → Bool
takes_no_address Jump26 = false
takes_no_address Jump19 = false
takes_no_address Jump14 = false
takes_no_address Page = false
takes_no_address Literal = false
takes_no_address Other = true

-- whether a word stays as it is: it takes no address, or it jumps within its sequence; a word of class Literal, whose
-- address isn't followed, does not stay
abbrev pub is_kept : ℕ → ℕ → ℕ → ℕ → Bool
is_kept word from low high =
    let class = class_of word in
    option_map_or (λ target. is_inside class target low high) (target_at from word) (takes_no_address class)

-- what a word becomes that moves: itself where it stays as it is, and else a word with its class, its other bits and
-- its target
pub record StaysOrMoves (word from new to low high : ℕ) : Type 0 where
  pub stays : is_kept word from low high ≡ true → new ≡ word
  pub moves : is_kept word from low high ≡ false → IsMoved word from new to

-- a place of a word, within 2 ^ 40 bytes
pub record IsPlace (place : ℕ) : Type 0 where
  pub aligned : place % 4 ≡ 0
  pub below : place < 2 ^ 40

-- the places of a move: a word of the sequence from `low` to `high` goes from `from` to `to`
pub record IsMove (from to low high : ℕ) : Type 0 where
  pub leaves : IsPlace from
  pub arrives : IsPlace to
  pub first : IsPlace low
  pub last : IsPlace high
  pub begins : low ≤ from
  pub ends : from < high

-- the B that at a place has the target, if there is one
abbrev pub branch_to : ℕ → ℤ → Option ℕ
branch_to place target =
    let lies = immediate 0x03ffffff 0 26 0 2 in
    let offset = target -ℤ pos place in
    if int_eq (int_rem offset (pos 4)) (pos 0) && is_in_range lies offset
    then Some (with_offset lies 0x14000000 offset)
    else None

-- a B that at a place has the target
pub record IsBranch (place : ℕ) (target : ℤ) (word : ℕ) : Type 0 where
  pub fits : word < 2 ^ 32
  pub class : (decoded word).class ≡ Jump26
  pub rest : (decoded word).rest ≡ 0x14000000
  pub reached : target_at place word ≡ Some target
