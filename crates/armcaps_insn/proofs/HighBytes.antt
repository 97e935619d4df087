-- The class of a word, by the word's highest byte alone.
use Rattle.std.proofs.Common.{◌≡◌, ◌+◌, ◌*◌, ◌/◌, ◌%◌, ◌^◌, ◌<◌, ◌==◌, ◌∷◌, ℕ, List, [], Option, Some, ap, arith, bit_and, cond, eqb-true, find, lit<, map, refl, slice_index_or, sym, true, ◌∙◌}
use Rattle.std.specs.Int.Bits.{and_zero_r}
use Rattle.std.specs.List.{list_all, range_with_len}
use Rattle.std.specs.Option.{option_map_or}
use Rattle.std.proofs.lemmas.Bool.{and_parts}
use Rattle.std.proofs.lemmas.List.FromFn.{get_or-map-range_with_len}
use Rattle.std.proofs.lemmas.Nat.{and_block}
use Rattle.armcaps_insn.specs.declared.encodings.TheConstants.{CLASSES}
use Rattle.armcaps_insn.specs.declared.instruction_class.Class.{Class}
use Rattle.armcaps_insn.specs.declared.instruction_class.Class.TheVariants.{Jump26, Other}
use Rattle.armcaps_insn.specs.Encodings.{class_of, encodings}
use Rattle.armcaps_insn.specs.Moved.{takes_no_address}

-- a mask without low bits sees only a word's highest byte
masked_high : (high low mask : ℕ) → low < 2 ^ 24 → mask % 2 ^ 24 ≡ 0 → bit_and (high * 2 ^ 24 + low) mask ≡ bit_and (high * 2 ^ 24) mask
masked_high high low mask small none =
    let mask_is : mask ≡ mask / 2 ^ 24 * 2 ^ 24 + 0 = omega (arith, none) in
    let alone : high * 2 ^ 24 + 0 ≡ high * 2 ^ 24 = omega arith in
    let with_low = and_block 24 high (mask / 2 ^ 24) low 0 small (lit< tt) in
    let without = and_block 24 high (mask / 2 ^ 24) 0 0 (lit< tt) (lit< tt) in
    let nothing : bit_and low 0 ≡ bit_and 0 0 = and_zero_r low ∙ sym (and_zero_r 0) in
    ap (bit_and (high * 2 ^ 24 + low)) mask_is ∙ with_low ∙ ap (λ (n : ℕ). bit_and high (mask / 2 ^ 24) * 2 ^ 24 + n) nothing ∙ sym without
    ∙ ap (λ (n : ℕ). bit_and n (mask / 2 ^ 24 * 2 ^ 24 + 0)) alone ∙ ap (bit_and (high * 2 ^ 24)) (sym mask_is)

-- what a word is found to be by masks of the highest byte is the same whatever the other bits are
found_same : {X : Type 0} (kinds : List X) (mask value : X → ℕ) (high low : ℕ) → low < 2 ^ 24 → list_all (λ kind. mask kind % 2 ^ 24 == 0) kinds ≡ true
    → find (λ kind. bit_and (high * 2 ^ 24 + low) (mask kind) == value kind) kinds ≡ find (λ kind. bit_and (high * 2 ^ 24) (mask kind) == value kind) kinds
found_same [] mask value high low small h = refl
found_same {X} (kind ∷ kinds) mask value high low small h =
    let none : mask kind % 2 ^ 24 ≡ 0 = eqb-true _ _ (and_parts _ _ h).0 in
    let here : (bit_and (high * 2 ^ 24 + low) (mask kind) == value kind) ≡ (bit_and (high * 2 ^ 24) (mask kind) == value kind) = ap (λ (n : ℕ). n == value kind) (masked_high high low (mask kind) small none) in
    let more = found_same kinds mask value high low small (and_parts _ _ h).1 in
    rw here (ap (λ (found : Option X). cond (bit_and (high * 2 ^ 24) (mask kind) == value kind) (Some kind) found) more)

class_same : {X : Type 0} (one other : Option X) (class : X → Class) → one ≡ other → option_map_or class one Other ≡ option_map_or class other Other
class_same one other class h = ap (λ found. option_map_or class found Other) h

masks_are_high : list_all (λ kind. kind.mask % 2 ^ 24 == 0) encodings ≡ true
unfolding encodings
masks_are_high = refl

-- the class of a word is that of its highest byte
pub class_high : (high low : ℕ) → low < 2 ^ 24 → class_of (high * 2 ^ 24 + low) ≡ class_of (high * 2 ^ 24)
unfolding class_of
class_high high low small = class_same _ _ (λ kind. kind.class) (found_same encodings (λ kind. kind.mask) (λ kind. kind.value) high low small masks_are_high)

-- the table has each highest byte's class
table_is : CLASSES ≡ map (λ (high : ℕ). class_of (high * 2 ^ 24)) (range_with_len 0 256)
unfolding class_of encodings
table_is = refl

-- so it has the class of each word
pub class_at : (word : ℕ) → word < 2 ^ 32 → slice_index_or CLASSES (word / 2 ^ 24) Jump26 ≡ class_of word
class_at word small =
    let high : ℕ = word / 2 ^ 24 in
    let parts : high * 2 ^ 24 + word % 2 ^ 24 ≡ word = omega arith in
    let at = get_or-map-range_with_len (λ (high : ℕ). class_of (high * 2 ^ 24)) 0 256 high high Jump26 (omega arith) (omega arith) in
    ap (λ (classes : List Class). slice_index_or classes high Jump26) table_is ∙ at ∙ sym (class_high high (word % 2 ^ 24) (omega arith)) ∙ ap class_of parts

-- a class that takes no address is Other
pub takes_none : (class : Class) → takes_no_address class ≡ true → class ≡ Other
takes_none Other takes = refl
takes_none class takes = cc
