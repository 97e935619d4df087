-- A word that moves: what keeps its target, and that nothing else does.
use Rattle.std.proofs.Common.{◌≡◌, ℕ, ◌+◌, ◌-◌, ◌*◌, ◌/◌, ◌%◌, ◌^◌, ◌<◌, suc, ℤ, pos, negsuc, ◌+ℤ◌, ◌-ℤ◌, ◌*ℤ◌, true, false, Option, None, Some, Ok, Err, refl, sym, ap, subst, ◌∙◌, inl, inr, int_rem, lit<, lit≤, arith}
use Rattle.std.specs.Option.{option_map, option_map_or}
use Rattle.std.proofs.lemmas.Bool.{cases_Bool, cases_lt, false≢true}
use Rattle.std.proofs.lemmas.Int.{ints}
use Rattle.armcaps_insn.specs.declared.immediates.Immediate.{Immediate}
use Rattle.armcaps_insn.specs.declared.instruction_class.Class.{Class}
use Rattle.armcaps_insn.specs.declared.instruction_class.Class.TheVariants.{Jump26, Jump19, Jump14, Page, Literal, Other}
use Rattle.armcaps_insn.specs.declared.correction.FixRefused.TheVariants as refused
use Rattle.armcaps_insn.specs.Encodings.{class_of, encodings}
use Rattle.armcaps_bits.specs.Field.{signed_number}
use Rattle.armcaps_insn.specs.Immediates.{IsImmediate, bits_for, immediate, immediate_of, is_in_range, offset_bits, offset_in, offset_width, placed, rest_in, with_offset}
use Rattle.armcaps_insn.specs.Decoded.{base_of, decoded, insn_of, target_at}
use Rattle.armcaps_insn.specs.Moved.{IsBranch, IsMove, IsMoved, StaysOrMoves, corrected, corrected_by, is_inside, is_kept, offset_to, takes_no_address}
use Rattle.armcaps_insn.proofs.Fields.{joined_fits, joined_outside, joined_inside, mask_fits, offset_bits_fit, offset_bits_from, placed_fits, placed_within, word_from_parts}
use Rattle.armcaps_insn.proofs.Offsets.{bits_fit, bits_for-twos, in_range-twos, read_back}
use Rattle.armcaps_insn.proofs.Stays.{class_stays}

-- a number of units between two places that are multiples of it, and a number of units more
units_between : (a b unit : ℕ) (steps : ℤ) → (more : ℤ) × ((pos (a * unit) +ℤ (steps *ℤ pos unit)) -ℤ pos (b * unit) ≡ more *ℤ pos unit)
units_between a b unit (pos n) = elim (cases_lt (a + n) b) [
  | inl less ↦
      let m : ℕ = b - suc (a + n) in
      let e : (suc m + (a + n)) * unit ≡ b * unit = ap (λ k. k * unit) (omega arith) in
      (negsuc m, omega (arith, ints, e))
  | inr other ↦
      let e : (a + n - b + b) * unit ≡ (a + n) * unit = ap (λ k. k * unit) (omega arith) in
      (pos (a + n - b), omega (arith, ints, e))
]
units_between a b unit (negsuc n) = elim (cases_lt a (suc n + b)) [
  | inl less ↦
      let m : ℕ = suc n + b - suc a in
      let e : (suc m + a) * unit ≡ (suc n + b) * unit = ap (λ k. k * unit) (omega arith) in
      (negsuc m, omega (arith, ints, e))
  | inr other ↦
      let e : (a - (suc n + b) + (suc n + b)) * unit ≡ a * unit = ap (λ k. k * unit) (omega arith) in
      (pos (a - (suc n + b)), omega (arith, ints, e))
]

-- an offset counts from a multiple of its unit
base_is_multiple : (class : Class) (i : Immediate) (place : ℕ) → immediate_of class ≡ Some i → place % 4 ≡ 0 → base_of class place ≡ base_of class place / 2 ^ i.scale * 2 ^ i.scale
base_is_multiple Jump26 i place is aligned = let e : immediate 0x03ffffff 0 26 0 2 ≡ i = cc in rw (← e) (omega arith)
base_is_multiple Jump19 i place is aligned = let e : immediate 0x00ffffe0 5 19 0 2 ≡ i = cc in rw (← e) (omega arith)
base_is_multiple Jump14 i place is aligned = let e : immediate 0x0007ffe0 5 14 0 2 ≡ i = cc in rw (← e) (omega arith)
base_is_multiple Page i place is aligned = let e : immediate 0x60ffffe0 5 19 2 12 ≡ i = cc in rw (← e) (omega arith)
base_is_multiple Literal i place is aligned = cc
base_is_multiple Other i place is aligned = cc

-- each class's offset lies within a word
pub immediate_holds : (class : Class) (i : Immediate) → immediate_of class ≡ Some i → IsImmediate i
immediate_holds Jump26 i is = let e : immediate 0x03ffffff 0 26 0 2 ≡ i = cc in subst IsImmediate e (record { bits = refl; some = lit≤ tt; below = lit≤ tt; low = lit≤ tt; scale = lit≤ tt })
immediate_holds Jump19 i is = let e : immediate 0x00ffffe0 5 19 0 2 ≡ i = cc in subst IsImmediate e (record { bits = refl; some = lit≤ tt; below = lit≤ tt; low = lit≤ tt; scale = lit≤ tt })
immediate_holds Jump14 i is = let e : immediate 0x0007ffe0 5 14 0 2 ≡ i = cc in subst IsImmediate e (record { bits = refl; some = lit≤ tt; below = lit≤ tt; low = lit≤ tt; scale = lit≤ tt })
immediate_holds Page i is = let e : immediate 0x60ffffe0 5 19 2 12 ≡ i = cc in subst IsImmediate e (record { bits = refl; some = lit≤ tt; below = lit≤ tt; low = lit≤ tt; scale = lit≤ tt })
immediate_holds Literal i is = cc
immediate_holds Other i is = cc

-- an instruction by its class and its offset's place
class-insn_of : (class : Class) (lies : Option Immediate) (word : ℕ) → (insn_of class lies word).class ≡ class
class-insn_of class None word = refl
class-insn_of class (Some i) word = refl

module _ (word : ℕ) (i : Immediate) (lies : immediate_of (class_of word) ≡ Some i) where
  abbrev is : IsImmediate i
  is = immediate_holds (class_of word) i lies

  decoded_is : decoded word ≡ record { class = class_of word; rest = rest_in i word; offset = Some (offset_in i word) }
  decoded_is = ap (λ o. insn_of (class_of word) o word) lies

  -- the word with an offset that is a number of units and in range
  module _ (steps : ℤ) (fits : word < 2 ^ 32) (in_range : is_in_range i (steps *ℤ pos (2 ^ i.scale)) ≡ true) where
    abbrev bits : ℕ
    bits = bits_for i (steps *ℤ pos (2 ^ i.scale))

    abbrev new : ℕ
    new = with_offset i (rest_in i word) (steps *ℤ pos (2 ^ i.scale))

    few : bits < 2 ^ offset_width i
    few = bits_fit i is steps in_range

    pub new_fits : new < 2 ^ 32
    new_fits = joined_fits i.mask word (placed i bits) (mask_fits i is) fits (placed_fits i is bits few) (placed_within i is bits few)

    new_rest : rest_in i new ≡ rest_in i word
    new_rest = joined_outside i.mask word (placed i bits) (mask_fits i is) fits (placed_fits i is bits few) (placed_within i is bits few)

    new_class : class_of new ≡ class_of word
    new_class = class_stays word new i lies new_rest

    new_offset : offset_in i new ≡ steps *ℤ pos (2 ^ i.scale)
    new_offset =
        let inside = joined_inside i.mask word (placed i bits) (mask_fits i is) fits (placed_fits i is bits few) (placed_within i is bits few) in
        ap (λ b. signed_number (offset_width i) b *ℤ pos (2 ^ i.scale)) (offset_bits_from i is new bits few inside) ∙ ap (λ s. s *ℤ pos (2 ^ i.scale)) (read_back i is steps in_range)

    pub new_decoded : decoded new ≡ record { class = class_of word; rest = rest_in i word; offset = Some (steps *ℤ pos (2 ^ i.scale)) }
    new_decoded =
        ap (λ c. insn_of c (immediate_of c) new) new_class ∙ ap (λ o. insn_of (class_of word) o new) lies
        ∙ ap (λ r. record { class = class_of word; rest = r; offset = Some (offset_in i new) }) new_rest
        ∙ ap (λ o. record { class = class_of word; rest = rest_in i word; offset = Some o }) new_offset

    pub new_target : (to : ℕ) → target_at to new ≡ Some (pos (base_of (class_of word) to) +ℤ (steps *ℤ pos (2 ^ i.scale)))
    new_target to = ap (λ c. option_map (λ o. pos (base_of c to) +ℤ o) (decoded new).offset) new_class ∙ ap (λ d. option_map (λ o. pos (base_of (class_of word) to) +ℤ o) d.offset) new_decoded

  -- the word at its new place, with the offset that it needs there for its target
  module _ (from to low high : ℕ) (move : IsMove from to low high) (fits : word < 2 ^ 32) where
    abbrev class : Class
    class = class_of word

    abbrev target : ℤ
    target = pos (base_of class from) +ℤ offset_in i word

    abbrev needed : ℤ
    needed = offset_to class to target

    steps_needed : (steps : ℤ) × (needed ≡ steps *ℤ pos (2 ^ i.scale))
    steps_needed =
        let unit : ℕ = 2 ^ i.scale in
        let first = base_is_multiple class i from lies move.leaves.aligned in
        let second = base_is_multiple class i to lies move.arrives.aligned in
        let between = units_between (base_of class from / unit) (base_of class to / unit) unit (signed_number (offset_width i) (offset_bits i word)) in
        (between.0, ap (λ b. (pos b +ℤ offset_in i word) -ℤ pos (base_of class to)) first ∙ ap (λ b. (pos (base_of class from / unit * unit) +ℤ offset_in i word) -ℤ pos b) second ∙ between.1)

    pub moved_target : target_at from word ≡ Some target
    moved_target = ap (λ d. option_map (λ o. pos (base_of class from) +ℤ o) d.offset) decoded_is

    pub moved_is : is_in_range i needed ≡ true → IsMoved word from (with_offset i (rest_in i word) needed) to
    moved_is in_range =
        let steps : ℤ = steps_needed.0 in
        let e : needed ≡ steps *ℤ pos (2 ^ i.scale) = steps_needed.1 in
        let there : is_in_range i (steps *ℤ pos (2 ^ i.scale)) ≡ true = subst (λ (o : ℤ). is_in_range i o ≡ true) e in_range in
        let d = new_decoded steps fits there in
        let back : pos (base_of class to) +ℤ needed ≡ target = omega (arith, ints) in
        subst (λ (o : ℤ). IsMoved word from (with_offset i (rest_in i word) o) to) (sym e) (record {
          fits = new_fits steps fits there;
          class = ap (λ insn. insn.class) d ∙ sym (ap (λ insn. insn.class) decoded_is);
          rest = ap (λ insn. insn.rest) d ∙ sym (ap (λ insn. insn.rest) decoded_is);
          target = new_target steps fits there to ∙ ap (λ o. Some (pos (base_of class to) +ℤ o)) (sym e) ∙ ap (λ t. Some t) back ∙ sym moved_target;
        })

-- two words that keep class, rest and target of one are one
same_rest : (lies : Option Immediate) (class : Class) (one other : ℕ) → (insn_of class lies one).rest ≡ (insn_of class lies other).rest → (insn_of class lies one).offset ≡ (insn_of class lies other).offset → immediate_of class ≡ lies → one < 2 ^ 32 → other < 2 ^ 32 → one ≡ other
same_rest None class one other rest offset lies one_fits other_fits = rest
same_rest (Some i) class one other rest offset lies one_fits other_fits =
    let is = immediate_holds class i lies in
    let same : offset_in i one ≡ offset_in i other = cc in
    let bits : offset_bits i one ≡ offset_bits i other =
    sym (bits_for-twos i is (offset_bits i one) (offset_bits_fit i is one)) ∙ ap (bits_for i) same ∙ bits_for-twos i is (offset_bits i other) (offset_bits_fit i is other) in
    word_from_parts i is one other one_fits other_fits rest bits

-- the class of a word as an instruction
class-decoded : (word : ℕ) → (decoded word).class ≡ class_of word
class-decoded word = class-insn_of (class_of word) (immediate_of (class_of word)) word

same_parts : (one other : ℕ) → class_of one ≡ class_of other → (decoded one).rest ≡ (decoded other).rest → (decoded one).offset ≡ (decoded other).offset → one < 2 ^ 32 → other < 2 ^ 32 → one ≡ other
same_parts one other class rest offset one_fits other_fits =
    let turned : insn_of (class_of one) (immediate_of (class_of one)) other ≡ decoded other = ap (λ c. insn_of c (immediate_of c) other) class in
    same_rest (immediate_of (class_of one)) (class_of one) one other (rest ∙ sym (ap (λ insn. insn.rest) turned)) (offset ∙ sym (ap (λ insn. insn.offset) turned)) refl one_fits other_fits

-- class, rest and offset determine the word
pub decoded-injective : (one other : ℕ) → one < 2 ^ 32 → other < 2 ^ 32 → decoded one ≡ decoded other → one ≡ other
decoded-injective one other one_fits other_fits same =
    same_parts one other (sym (class-decoded one) ∙ ap (λ insn. insn.class) same ∙ class-decoded other) (ap (λ insn. insn.rest) same) (ap (λ insn. insn.offset) same) one_fits other_fits

-- one target at one place is one offset
same_offset : (base : ℕ) (one other : Option ℤ) → option_map (λ o. pos base +ℤ o) one ≡ option_map (λ o. pos base +ℤ o) other → one ≡ other
same_offset base None None same = refl
same_offset base None (Some b) same = cc
same_offset base (Some a) None same = cc
same_offset base (Some a) (Some b) same =
    let e : pos base +ℤ a ≡ pos base +ℤ b = cc in
    let is : a ≡ b = omega (arith, ints) in
    ap (λ o. Some o) is

pub one_moved : (word from to one other : ℕ) → IsMoved word from one to → IsMoved word from other to → one ≡ other
one_moved word from to one other first second =
    let class : class_of one ≡ class_of other = sym (class-decoded one) ∙ first.class ∙ sym second.class ∙ class-decoded other in
    let target : target_at to one ≡ target_at to other = first.target ∙ sym second.target in
    let based : target_at to other ≡ option_map (λ o. pos (base_of (class_of one) to) +ℤ o) (decoded other).offset = ap (λ c. option_map (λ o. pos (base_of c to) +ℤ o) (decoded other).offset) (sym class) in
    let offset = same_offset (base_of (class_of one) to) (decoded one).offset (decoded other).offset (target ∙ based) in
    same_parts one other class (first.rest ∙ sym second.rest) offset first.fits second.fits

-- no word has an offset out of range
pub none_moved : (word from to new : ℕ) (i : Immediate) → immediate_of (class_of word) ≡ Some i → is_in_range i (offset_to (class_of word) to (pos (base_of (class_of word) from) +ℤ offset_in i word)) ≡ false → IsMoved word from new to → ⊥
none_moved word from to new i lies out moved =
    let class : class_of new ≡ class_of word = sym (class-decoded new) ∙ moved.class ∙ class-decoded word in
    let lies_new : immediate_of (class_of new) ≡ Some i = ap immediate_of class ∙ lies in
    let is = immediate_holds (class_of word) i lies in
    let there : target_at to new ≡ Some (pos (base_of (class_of word) to) +ℤ offset_in i new) =
    ap (λ d. option_map (λ o. pos (base_of (class_of new) to) +ℤ o) d.offset) (decoded_is new i lies_new) ∙ ap (λ c. Some (pos (base_of c to) +ℤ offset_in i new)) class in
    let here : target_at from word ≡ Some (pos (base_of (class_of word) from) +ℤ offset_in i word) = ap (λ d. option_map (λ o. pos (base_of (class_of word) from) +ℤ o) d.offset) (decoded_is word i lies) in
    let same : Some (pos (base_of (class_of word) to) +ℤ offset_in i new) ≡ Some (pos (base_of (class_of word) from) +ℤ offset_in i word) = sym there ∙ moved.target ∙ here in
    let sum : pos (base_of (class_of word) to) +ℤ offset_in i new ≡ pos (base_of (class_of word) from) +ℤ offset_in i word = cc in
    let offset : offset_to (class_of word) to (pos (base_of (class_of word) from) +ℤ offset_in i word) ≡ offset_in i new = omega (arith, ints) in
    let within : is_in_range i (offset_in i new) ≡ true = in_range-twos i is (offset_bits i new) (offset_bits_fit i is new) in
    false≢true (sym out ∙ ap (is_in_range i) offset ∙ within)

-- the offset is refused only where it is out of range
range_refused : (lies : Option Immediate) (class : Class) (word from to low high : ℕ) (offset : ℤ) → corrected_by lies class word from to low high ≡ Err (refused.Range offset)
    → (i : Immediate) × ((lies ≡ Some i) × (is_in_range i (offset_to class to (pos (base_of class from) +ℤ offset_in i word)) ≡ false))
range_refused None Literal word from to low high offset same = cc
range_refused None Jump26 word from to low high offset same = cc
range_refused None Jump19 word from to low high offset same = cc
range_refused None Jump14 word from to low high offset same = cc
range_refused None Page word from to low high offset same = cc
range_refused None Other word from to low high offset same = cc
range_refused (Some i) class word from to low high offset same =
    let target : ℤ = pos (base_of class from) +ℤ offset_in i word in
    elim (cases_Bool (is_inside class target low high)) [
      | inl inside ↦ (let no_error : Ok word ≡ Err (refused.Range offset) = rw inside at same in cc)
      | inr outside ↦ elim (cases_Bool (is_in_range i (offset_to class to target))) [
        | inl near ↦ (let no_error : Ok (with_offset i (rest_in i word) (offset_to class to target)) ≡ Err (refused.Range offset) = rw (outside, near) at same in cc)
        | inr far ↦ (i, (refl, far))
      ]
    ]

pub none_in_range : (word from to low high new : ℕ) (offset : ℤ) → corrected word from to low high ≡ Err (refused.Range offset) → IsMoved word from new to → ⊥
none_in_range word from to low high new offset same moved =
    let far = range_refused (immediate_of (class_of word)) (class_of word) word from to low high offset same in
    none_moved word from to new far.0 far.1.0 far.1.1 moved

-- a word of a class whose offset lies there, if it has one: what stays is itself
stays_by : (class : Class) (lies : Option Immediate) (word from to low high : ℕ) → immediate_of class ≡ lies
    → option_map_or (λ target. is_inside class target low high) (option_map (λ o. pos (base_of class from) +ℤ o) (insn_of class lies word).offset) (takes_no_address class) ≡ true
    → corrected_by lies class word from to low high ≡ Ok word
stays_by class (Some i) word from to low high lies kept = rw kept refl
stays_by Jump26 None word from to low high lies kept = cc
stays_by Jump19 None word from to low high lies kept = cc
stays_by Jump14 None word from to low high lies kept = cc
stays_by Page None word from to low high lies kept = cc
stays_by Literal None word from to low high lies kept = cc
stays_by Other None word from to low high lies kept = refl

pub stays : (word from to low high : ℕ) → is_kept word from low high ≡ true → corrected word from to low high ≡ Ok word
stays word from to low high kept = stays_by (class_of word) (immediate_of (class_of word)) word from to low high refl kept

-- what isn't followed is refused
pub literal_refused : (word from to low high : ℕ) → class_of word ≡ Literal → corrected word from to low high ≡ Err (refused.Literal word)
literal_refused word from to low high is = ap (λ class. corrected_by (immediate_of class) class word from to low high) is

-- what moves has an offset, which is in range
moves_by : (class : Class) (lies : Option Immediate) (word from to low high new : ℕ) → immediate_of class ≡ lies
    → option_map_or (λ target. is_inside class target low high) (option_map (λ o. pos (base_of class from) +ℤ o) (insn_of class lies word).offset) (takes_no_address class) ≡ false
    → corrected_by lies class word from to low high ≡ Ok new
    → (i : Immediate) × (immediate_of class ≡ Some i)
    × (is_in_range i (offset_to class to (pos (base_of class from) +ℤ offset_in i word)) ≡ true)
    × (with_offset i (rest_in i word) (offset_to class to (pos (base_of class from) +ℤ offset_in i word)) ≡ new)
moves_by class (Some i) word from to low high new lies outside made =
    let needed : ℤ = offset_to class to (pos (base_of class from) +ℤ offset_in i word) in
    elim (cases_Bool (is_in_range i needed)) [
      | inl near ↦ (let same : Ok (with_offset i (rest_in i word) needed) ≡ Ok new = rw (outside, near) at made in (i, lies, near, cc))
      | inr far ↦ (let wrong : Err (refused.Range needed) ≡ Ok new = rw (outside, far) at made in cc)
    ]
moves_by Jump26 None word from to low high new lies outside made = cc
moves_by Jump19 None word from to low high new lies outside made = cc
moves_by Jump14 None word from to low high new lies outside made = cc
moves_by Page None word from to low high new lies outside made = cc
moves_by Literal None word from to low high new lies outside made = cc
moves_by Other None word from to low high new lies outside made = cc

pub moves : (word from to low high new : ℕ) → IsMove from to low high → word < 2 ^ 32 → corrected word from to low high ≡ Ok new → StaysOrMoves word from new to low high
moves word from to low high new move fits made = record {
  stays = λ kept. let same : Ok new ≡ Ok word = sym made ∙ stays word from to low high kept in cc;
  moves = λ outside.
      let parts = moves_by (class_of word) (immediate_of (class_of word)) word from to low high new refl outside made in
      let moved = moved_is word parts.0 parts.1 from to low high move fits parts.2 in
      subst (λ (n : ℕ). IsMoved word from n to) parts.3 moved;
}

-- a number that leaves no rest is a number of units
is_multiple : (z : ℤ) → int_rem z (pos 4) ≡ pos 0 → (steps : ℤ) × (z ≡ steps *ℤ pos 4)
is_multiple (pos n) rest = (pos (n / 4), (let none : n % 4 ≡ 0 = cc in omega (arith, ints)))
is_multiple (negsuc n) rest = (negsuc (n / 4), (let none : suc n % 4 ≡ 0 = omega (arith, ints, rest) in omega (arith, ints)))

abbrev jump26 : Immediate
jump26 = immediate 0x03ffffff 0 26 0 2

b_lies : immediate_of (class_of 0x14000000) ≡ Some jump26
unfolding class_of encodings
b_lies = refl

b_class : class_of 0x14000000 ≡ Jump26
unfolding class_of encodings
b_class = refl

pub branch_is : (place : ℕ) (target : ℤ) → int_rem (target -ℤ pos place) (pos 4) ≡ pos 0 → is_in_range jump26 (target -ℤ pos place) ≡ true → IsBranch place target (with_offset jump26 0x14000000 (target -ℤ pos place))
branch_is place target aligned near =
    let multiple = is_multiple (target -ℤ pos place) aligned in
    let there : is_in_range jump26 (multiple.0 *ℤ pos 4) ≡ true = subst (λ (o : ℤ). is_in_range jump26 o ≡ true) multiple.1 near in
    let d = new_decoded 0x14000000 jump26 b_lies multiple.0 (lit< tt) there in
    let t = new_target 0x14000000 jump26 b_lies multiple.0 (lit< tt) there place in
    let back : pos place +ℤ (target -ℤ pos place) ≡ target = omega (arith, ints) in
    subst (λ (o : ℤ). IsBranch place target (with_offset jump26 0x14000000 o)) (sym multiple.1) (record {
      fits = new_fits 0x14000000 jump26 b_lies multiple.0 (lit< tt) there;
      class = ap (λ insn. insn.class) d ∙ b_class;
      rest = ap (λ insn. insn.rest) d;
      reached = t ∙ ap (λ c. Some (pos (base_of c place) +ℤ (multiple.0 *ℤ pos 4))) b_class ∙ ap (λ o. Some (pos place +ℤ o)) (sym multiple.1) ∙ ap (λ o. Some o) back;
    })
