-- What a moved word becomes, told by what it decodes to.
use Rattle.std.proofs.Common.{◌≡◌, ◌⊎◌, ℕ, ◌-◌, ◌^◌, ◌<◌, ◌≤◌, ◌+ℤ◌, IsTrue, bit_and, w64, of_z, to_z, ℤ, pos, true, false, Some, Ok, Err, refl, sym, ap, subst, ◌∙◌, inl, inr}
use Rattle.std.specs.Option.{option_map, option_map_or}
use Rattle.std.proofs.lemmas.Bool.{cases_Bool}
use Rattle.std.proofs.lemmas.Int.{to_z-of_z}
use mir.Val.{SFits}
use Rattle.armcaps_bits.specs.Field.{field_bits, field_fits}
use Rattle.armcaps_bits.proofs.Signs.{bits_are}
use Rattle.armcaps_insn.specs.declared.correction.FixRefused.TheVariants as refused
use Rattle.armcaps_insn.specs.declared.instruction.Insn.{Insn}
use Rattle.armcaps_insn.specs.declared.instruction_class.Class.{Class}
use Rattle.armcaps_insn.specs.declared.instruction_class.Class.TheVariants.{Jump26, Jump19, Jump14, Page, Literal, Other}
use Rattle.armcaps_insn.specs.Decoded.{base_of, decoded, insn_of, target_at}
use Rattle.armcaps_insn.specs.Encodings.{class_of}
use Rattle.armcaps_insn.specs.Immediates.{immediate, immediate_of, is_in_range, offset_in, rest_in, with_offset}
use Rattle.armcaps_insn.specs.Moved.{IsMove, IsMoved, corrected, corrected_by, is_inside, is_kept, offset_to, relocated, takes_no_address}
use Rattle.armcaps_insn.proofs.Moves.{moves, one_moved}
use Rattle.armcaps_pool.specs.Rightful.{Keeps, address_of, units_of, word_with}

-- a word that moves, and whose target is outside, has it
moved_outside : (class : Class) (mask shift width low_width scale word : ℕ) (target : ℤ) (to low high new : ℕ)
    → is_inside class target low high ≡ false
    → relocated (immediate mask shift width low_width scale) class word target to low high ≡ Ok new
    → relocated (immediate mask shift width low_width scale) class word target to low high
    ≡ Ok (with_offset (immediate mask shift width low_width scale) (rest_in (immediate mask shift width low_width scale) word)
    (offset_to class to target))
moved_outside class mask shift width low_width scale word target to low high new outside made =
    elim (cases_Bool (is_in_range (immediate mask shift width low_width scale) (offset_to class to target))) [
      | inl near ↦ rw (outside, near) refl
      | inr far ↦
          (let wrong : Err (refused.Range (offset_to class to target)) ≡ Ok new = rw (outside, far) at made in
          cc)
    ]

moved_inside : (class : Class) (mask shift width low_width scale word : ℕ) (target : ℤ) (to low high : ℕ)
    → is_inside class target low high ≡ true
    → relocated (immediate mask shift width low_width scale) class word target to low high ≡ Ok word
moved_inside class mask shift width low_width scale word target to low high inside = rw inside refl

-- the class of a word as an instruction
insn_class : (class : Class) (word : ℕ) → (insn_of class (immediate_of class) word).class ≡ class
insn_class Jump26 word = refl
insn_class Jump19 word = refl
insn_class Jump14 word = refl
insn_class Page word = refl
insn_class Literal word = refl
insn_class Other word = refl

decoded_class : (word : ℕ) → (decoded word).class ≡ class_of word
decoded_class word = insn_class (class_of word) word

-- what stays
inside_by : (class : Class) (word from to low high : ℕ) (target : ℤ)
    → address_of (insn_of class (immediate_of class) word) from ≡ Some target
    → is_inside (insn_of class (immediate_of class) word).class target low high ≡ true
    → corrected_by (immediate_of class) class word from to low high ≡ Ok word
inside_by Jump26 word from to low high target takes inside =
    let same : pos from +ℤ offset_in (immediate 0x03ffffff 0 26 0 2) word ≡ target = cc in
    ap (λ t. relocated (immediate 0x03ffffff 0 26 0 2) Jump26 word t to low high) same
    ∙ moved_inside Jump26 0x03ffffff 0 26 0 2 word target to low high inside
inside_by Jump19 word from to low high target takes inside =
    let same : pos from +ℤ offset_in (immediate 0x00ffffe0 5 19 0 2) word ≡ target = cc in
    ap (λ t. relocated (immediate 0x00ffffe0 5 19 0 2) Jump19 word t to low high) same
    ∙ moved_inside Jump19 0x00ffffe0 5 19 0 2 word target to low high inside
inside_by Jump14 word from to low high target takes inside =
    let same : pos from +ℤ offset_in (immediate 0x0007ffe0 5 14 0 2) word ≡ target = cc in
    ap (λ t. relocated (immediate 0x0007ffe0 5 14 0 2) Jump14 word t to low high) same
    ∙ moved_inside Jump14 0x0007ffe0 5 14 0 2 word target to low high inside
inside_by Page word from to low high target takes inside = cc
inside_by Literal word from to low high target takes inside = cc
inside_by Other word from to low high target takes inside = cc

-- what moves: the word has its target
outside_by : (class : Class) (word from to low high new : ℕ) (target : ℤ)
    → address_of (insn_of class (immediate_of class) word) from ≡ Some target
    → is_inside (insn_of class (immediate_of class) word).class target low high ≡ false
    → corrected_by (immediate_of class) class word from to low high ≡ Ok new
    → corrected_by (immediate_of class) class word from to low high
    ≡ Ok (word_with (insn_of class (immediate_of class) word) to target)
outside_by Jump26 word from to low high new target takes outside made =
    let same : pos from +ℤ offset_in (immediate 0x03ffffff 0 26 0 2) word ≡ target = cc in
    let there : relocated (immediate 0x03ffffff 0 26 0 2) Jump26 word target to low high ≡ Ok new =
    ap (λ t. relocated (immediate 0x03ffffff 0 26 0 2) Jump26 word t to low high) (sym same) ∙ made in
    ap (λ t. relocated (immediate 0x03ffffff 0 26 0 2) Jump26 word t to low high) same
    ∙ moved_outside Jump26 0x03ffffff 0 26 0 2 word target to low high new outside there
outside_by Jump19 word from to low high new target takes outside made =
    let same : pos from +ℤ offset_in (immediate 0x00ffffe0 5 19 0 2) word ≡ target = cc in
    let there : relocated (immediate 0x00ffffe0 5 19 0 2) Jump19 word target to low high ≡ Ok new =
    ap (λ t. relocated (immediate 0x00ffffe0 5 19 0 2) Jump19 word t to low high) (sym same) ∙ made in
    ap (λ t. relocated (immediate 0x00ffffe0 5 19 0 2) Jump19 word t to low high) same
    ∙ moved_outside Jump19 0x00ffffe0 5 19 0 2 word target to low high new outside there
outside_by Jump14 word from to low high new target takes outside made =
    let same : pos from +ℤ offset_in (immediate 0x0007ffe0 5 14 0 2) word ≡ target = cc in
    let there : relocated (immediate 0x0007ffe0 5 14 0 2) Jump14 word target to low high ≡ Ok new =
    ap (λ t. relocated (immediate 0x0007ffe0 5 14 0 2) Jump14 word t to low high) (sym same) ∙ made in
    ap (λ t. relocated (immediate 0x0007ffe0 5 14 0 2) Jump14 word t to low high) same
    ∙ moved_outside Jump14 0x0007ffe0 5 14 0 2 word target to low high new outside there
outside_by Page word from to low high new target takes outside made =
    let same : pos (base_of Page from) +ℤ offset_in (immediate 0x60ffffe0 5 19 2 12) word ≡ target = cc in
    let there : relocated (immediate 0x60ffffe0 5 19 2 12) Page word target to low high ≡ Ok new =
    ap (λ t. relocated (immediate 0x60ffffe0 5 19 2 12) Page word t to low high) (sym same) ∙ made in
    ap (λ t. relocated (immediate 0x60ffffe0 5 19 2 12) Page word t to low high) same
    ∙ moved_outside Page 0x60ffffe0 5 19 2 12 word target to low high new outside there
outside_by Literal word from to low high new target takes outside made = cc
outside_by Other word from to low high new target takes outside made = cc

-- the address of a word as an instruction is the word's
target_as_address : (word place : ℕ) → target_at place word ≡ address_of (decoded word) place
target_as_address word place =
    ap (λ class. option_map (λ offset. pos (base_of class place) +ℤ offset) (decoded word).offset) (sym (decoded_class word))

-- a jump within its sequence stays
stays_inside : (word from to low high : ℕ) (target : ℤ) → address_of (decoded word) from ≡ Some target
    → is_inside (decoded word).class target low high ≡ true → corrected word from to low high ≡ Ok word
stays_inside word from to low high target takes inside =
    inside_by (class_of word) word from to low high target takes inside

-- any other word is the one that is made
made_outside : (word from to low high new : ℕ) (target : ℤ) → address_of (decoded word) from ≡ Some target
    → is_inside (decoded word).class target low high ≡ false → corrected word from to low high ≡ Ok new
    → corrected word from to low high ≡ Ok (word_with (decoded word) to target)
made_outside word from to low high new target takes outside made =
    outside_by (class_of word) word from to low high new target takes outside made

-- a word that doesn't stay
not_kept : (word from low high : ℕ) (target : ℤ) → address_of (decoded word) from ≡ Some target
    → is_inside (decoded word).class target low high ≡ false → is_kept word from low high ≡ false
not_kept word from low high target takes outside =
    ap (λ found. option_map_or (λ t. is_inside (class_of word) t low high) found (takes_no_address (class_of word)))
    (target_as_address word from ∙ takes)
    ∙ ap (λ class. is_inside class target low high) (sym (decoded_class word)) ∙ outside

-- and a word found that has its class, its other bits and its target is the one that is made
found_outside : (word found from to low high new : ℕ) (target : ℤ) → IsMove from to low high → word < 2 ^ 32
    → found < 2 ^ 32 → address_of (decoded word) from ≡ Some target
    → is_inside (decoded word).class target low high ≡ false → corrected word from to low high ≡ Ok new
    → Keeps (decoded word) (decoded found) to target → corrected word from to low high ≡ Ok found
found_outside word found from to low high new target move fits found_fits takes outside made keeps =
    let right = (moves word from to low high new move fits made).moves (not_kept word from low high target takes outside) in
    let here : IsMoved word from found to = record {
      fits = found_fits;
      class = keeps.class;
      rest = keeps.rest;
      target = target_as_address found to ∙ keeps.target ∙ sym takes ∙ sym (target_as_address word from);
    } in
    made ∙ ap (λ (n : ℕ). Ok n) (one_moved word from to new found right here)

-- the bits of an offset in units, as the code makes them
pub unit_bits : (scale width : ℕ) (offset units : ℤ) (cast low : ℕ) → 1 ≤ width → width ≤ 64 → SFits w64 offset
    → SFits w64 units → IsTrue (field_fits true width (units_of scale offset))
    → units ≡ units_of scale (to_z w64 (of_z w64 offset)) → cast ≡ of_z w64 (to_z w64 (of_z w64 units))
    → low ≡ 2 ^ width - 1 → bit_and cast low ≡ field_bits width (units_of scale offset)
unit_bits scale width offset units cast low some few offset_fits units_fit fits is cast_is low_is =
    let same : units ≡ units_of scale offset = is ∙ ap (units_of scale) (to_z-of_z w64 offset offset_fits) in
    bits_are true width units cast low some few (subst (λ (u : ℤ). IsTrue (field_fits true width u)) (sym same) fits)
    units_fit cast_is low_is
    ∙ ap (field_bits width) same

-- so the word that the code answers is the one that belongs there
pub right_is : (word found from to low high new result : ℕ) (insn : Insn) (found_target target : ℤ) → IsMove from to low high
    → word < 2 ^ 32 → found < 2 ^ 32 → insn ≡ decoded word → address_of insn from ≡ Some found_target
    → target ≡ found_target → corrected word from to low high ≡ Ok new
    → (is_inside insn.class target low high ≡ true → result ≡ word)
    → (is_inside insn.class target low high ≡ false
    → (result ≡ word_with insn to target) ⊎ (Keeps insn (decoded found) to target × (result ≡ found)))
    → corrected word from to low high ≡ Ok result
right_is word found from to low high new result insn found_target target move fits found_fits is takes same made stays moves =
    let there : address_of (decoded word) from ≡ Some target =
    ap (λ i. address_of i from) (sym is) ∙ takes ∙ ap (λ t. Some t) (sym same) in
    elim (cases_Bool (is_inside insn.class target low high)) [
      | inl inside ↦
          stays_inside word from to low high target there (ap (λ i. is_inside i.class target low high) (sym is) ∙ inside)
          ∙ ap (λ w. Ok w) (sym (stays inside))
      | inr outside ↦
          (let away : is_inside (decoded word).class target low high ≡ false =
          ap (λ i. is_inside i.class target low high) (sym is) ∙ outside in
          elim (moves outside) [
            | inl with_target ↦
                made_outside word from to low high new target there away made
                ∙ ap (λ w. Ok w) (ap (λ i. word_with i to target) (sym is) ∙ sym with_target)
            | inr kept ↦
                found_outside word found from to low high new target move fits found_fits there away made
                (subst (λ (i : Insn). Keeps i (decoded found) to target) is kept.0)
                ∙ ap (λ w. Ok w) (sym kept.1)
          ])
    ]
