-- Words of instructions that can move: each is corrected, and none is refused.
use Rattle.std.proofs.Common.{◌≡◌, ℕ, ◌+◌, ◌-◌, ◌*◌, ◌/◌, ◌^◌, ◌<◌, ℤ, pos, negsuc, ◌+ℤ◌, ◌-ℤ◌, ◌*ℤ◌, suc, Bool, true, false, cond, Some, None, Result, Ok, Err, inl, inr, refl, sym, ap, subst, ◌∙◌, arith, lit<}
use Rattle.std.proofs.lemmas.Bool.{cases_lt}
use Rattle.std.proofs.lemmas.Int.{ints}
use Rattle.armcaps_insn.specs.declared.correction.FixRefused.{FixRefused}
use Rattle.armcaps_insn.specs.declared.correction.FixRefused.TheVariants as refused
use Rattle.armcaps_insn.specs.declared.instruction_class.Class.{Class}
use Rattle.armcaps_insn.specs.declared.instruction_class.Class.TheVariants.{Jump26, Page, Other}
use Rattle.armcaps_insn.specs.Decoded.{base_of, decoded, insn_of}
use Rattle.armcaps_insn.specs.Encodings.{class_of, encodings, nop}
use Rattle.armcaps_insn.specs.Immediates.{immediate, immediate_of, is_in_range, offset_in, rest_in, with_offset}
use Rattle.armcaps_insn.specs.Moved.{corrected, corrected_by, is_inside, offset_to, relocated}
use Rattle.armcaps_insn.proofs.HighBytes.{class_high}
use Rattle.armcaps_insn.proofs.Moves.{new_decoded, new_fits}

-- a word is corrected
abbrev pub IsCorrected : Result ℕ FixRefused → Type 0
IsCorrected result = (word : ℕ) × (result ≡ Ok word)

move_class : class_of (0x52 * 2 ^ 24) ≡ Other
unfolding class_of encodings
move_class = refl

-- MOVZ of sixteen bits stays as it is
pub move_stays : (number from to low high : ℕ) → number < 2 ^ 16 → corrected (0x52800000 + 32 * number) from to low high ≡ Ok (0x52800000 + 32 * number)
move_stays number from to low high small =
    let word : ℕ = 0x52800000 + 32 * number in
    let parts : word ≡ 0x52 * 2 ^ 24 + (0x800000 + 32 * number) = omega arith in
    let class : class_of word ≡ Other = ap class_of parts ∙ class_high 0x52 (0x800000 + 32 * number) (omega arith) ∙ move_class in
    ap (λ (class : Class). corrected_by (immediate_of class) class word from to low high) class

nop_class : class_of nop ≡ Other
unfolding class_of encodings
nop_class = refl

-- so does NOP
pub nop_stays : (from to low high : ℕ) → corrected nop from to low high ≡ Ok nop
nop_stays from to low high = ap (λ (class : Class). corrected_by (immediate_of class) class nop from to low high) nop_class

-- a word of a class whose offset lies there is corrected where it can have the offset that it needs
reaches : (mask shift width low_width scale : ℕ) (class : Class) (word from to low high : ℕ) (target : ℤ) → immediate_of class ≡ Some (immediate mask shift width low_width scale) → class_of word ≡ class
    → pos (base_of class from) +ℤ offset_in (immediate mask shift width low_width scale) word ≡ target → is_in_range (immediate mask shift width low_width scale) (offset_to class to target) ≡ true → IsCorrected (corrected word from to low high)
reaches mask shift width low_width scale class word from to low high target lies of there near =
    let by = ap (λ (class : Class). corrected_by (immediate_of class) class word from to low high) of in
    let at = ap (λ o. corrected_by o class word from to low high) lies in
    let moved = ap (λ (target : ℤ). relocated (immediate mask shift width low_width scale) class word target to low high) there in
    by_place (is_inside class target low high) (is_in_range (immediate mask shift width low_width scale) (offset_to class to target)) near (by ∙ at ∙ moved)
  where
    by_place : (inside range : Bool) → range ≡ true
        → corrected word from to low high ≡ cond inside (Ok word) (cond range (Ok (with_offset (immediate mask shift width low_width scale) (rest_in (immediate mask shift width low_width scale) word) (offset_to class to target))) (Err (refused.Range (offset_to class to target)))) → IsCorrected (corrected word from to low high)
    by_place true range h is = (word, is)
    by_place false true h is = (with_offset (immediate mask shift width low_width scale) (rest_in (immediate mask shift width low_width scale) word) (offset_to class to target), is)
    by_place false false h is = cc

-- the class of a word as an instruction
class-decoded : (word : ℕ) → (decoded word).class ≡ class_of word
class-decoded word = by_place (immediate_of (class_of word))
  where
    by_place : (lies : _) → (insn_of (class_of word) lies word).class ≡ class_of word
    by_place None = refl
    by_place (Some i) = refl

call_lies : immediate_of (class_of 0x94000000) ≡ Some (immediate 0x03ffffff 0 26 0 2)
unfolding class_of encodings
call_lies = refl

call_class : class_of 0x94000000 ≡ Jump26
unfolding class_of encodings
call_class = refl

-- BL to a word among the first 2^24 bytes moves among them
pub call_moves : (target from to low high : ℕ) → target < 2 ^ 22 → from < 2 ^ 22 → to < 2 ^ 22 → IsCorrected (corrected (with_offset (immediate 0x03ffffff 0 26 0 2) 0x94000000 (pos (4 * target) -ℤ pos (4 * from))) (4 * from) (4 * to) low high)
call_moves target from to low high t f o = elim (cases_lt target from) [
  | inl back ↦ by_steps (negsuc (from - suc target)) (omega (arith, ints))
  | inr forth ↦ by_steps (pos (target - from)) (omega (arith, ints))
]
  where
    offset_known : (word : ℕ) (given : ℤ) → class_of word ≡ Jump26 → (decoded word).offset ≡ Some given → offset_in (immediate 0x03ffffff 0 26 0 2) word ≡ given
    offset_known word given class h =
        let same : (insn_of Jump26 (Some (immediate 0x03ffffff 0 26 0 2)) word).offset ≡ Some given = ap (λ (c : Class). (insn_of c (immediate_of c) word).offset) (sym class) ∙ h in
        cc

    by_steps : (steps : ℤ) → pos (4 * target) -ℤ pos (4 * from) ≡ steps *ℤ pos 4 → IsCorrected (corrected (with_offset (immediate 0x03ffffff 0 26 0 2) 0x94000000 (pos (4 * target) -ℤ pos (4 * from))) (4 * from) (4 * to) low high)
    by_steps steps e =
        let word : ℕ = with_offset (immediate 0x03ffffff 0 26 0 2) 0x94000000 (steps *ℤ pos 4) in
        let range : is_in_range (immediate 0x03ffffff 0 26 0 2) (pos (4 * target) -ℤ pos (4 * from)) ≡ true = grind (arith, ints) in
        let there : is_in_range (immediate 0x03ffffff 0 26 0 2) (steps *ℤ pos 4) ≡ true = ap (is_in_range (immediate 0x03ffffff 0 26 0 2)) (sym e) ∙ range in
        let d = new_decoded 0x94000000 (immediate 0x03ffffff 0 26 0 2) call_lies steps (lit< tt) there in
        let class : class_of word ≡ Jump26 = sym (class-decoded word) ∙ ap (λ insn. insn.class) d ∙ call_class in
        let offset : offset_in (immediate 0x03ffffff 0 26 0 2) word ≡ steps *ℤ pos 4 = offset_known word (steps *ℤ pos 4) class (ap (λ insn. insn.offset) d) in
        let back : pos (4 * from) +ℤ offset_in (immediate 0x03ffffff 0 26 0 2) word ≡ pos (4 * target) = ap (λ (o : ℤ). pos (4 * from) +ℤ o) (offset ∙ sym e) ∙ omega (arith, ints) in
        let near : is_in_range (immediate 0x03ffffff 0 26 0 2) (pos (4 * target) -ℤ pos (4 * to)) ≡ true = grind (arith, ints) in
        subst (λ (o : ℤ). IsCorrected (corrected (with_offset (immediate 0x03ffffff 0 26 0 2) 0x94000000 o) (4 * from) (4 * to) low high)) (sym e)
        (reaches 0x03ffffff 0 26 0 2 Jump26 word (4 * from) (4 * to) low high (pos (4 * target)) refl class back near)

-- it has 32 bits
pub call_fits : (target from : ℕ) → target < 2 ^ 22 → from < 2 ^ 22 → with_offset (immediate 0x03ffffff 0 26 0 2) 0x94000000 (pos (4 * target) -ℤ pos (4 * from)) < 2 ^ 32
call_fits target from t f = elim (cases_lt target from) [
  | inl back ↦ by_steps (negsuc (from - suc target)) (omega (arith, ints))
  | inr forth ↦ by_steps (pos (target - from)) (omega (arith, ints))
]
  where
    by_steps : (steps : ℤ) → pos (4 * target) -ℤ pos (4 * from) ≡ steps *ℤ pos 4 → with_offset (immediate 0x03ffffff 0 26 0 2) 0x94000000 (pos (4 * target) -ℤ pos (4 * from)) < 2 ^ 32
    by_steps steps e =
        let range : is_in_range (immediate 0x03ffffff 0 26 0 2) (pos (4 * target) -ℤ pos (4 * from)) ≡ true = grind (arith, ints) in
        let there : is_in_range (immediate 0x03ffffff 0 26 0 2) (steps *ℤ pos 4) ≡ true = ap (is_in_range (immediate 0x03ffffff 0 26 0 2)) (sym e) ∙ range in
        subst (λ (o : ℤ). with_offset (immediate 0x03ffffff 0 26 0 2) 0x94000000 o < 2 ^ 32) (sym e)
        (new_fits 0x94000000 (immediate 0x03ffffff 0 26 0 2) call_lies steps (lit< tt) there)

page_lies : immediate_of (class_of 0x90000000) ≡ Some (immediate 0x60ffffe0 5 19 2 12)
unfolding class_of encodings
page_lies = refl

page_class : class_of 0x90000000 ≡ Page
unfolding class_of encodings
page_class = refl

-- ADRP of one of the first 2^12 pages moves among them
pub page_moves : (target from to low high : ℕ) → target < 2 ^ 12 → from < 2 ^ 24 → to < 2 ^ 24 → IsCorrected (corrected (with_offset (immediate 0x60ffffe0 5 19 2 12) 0x90000000 (pos (4096 * target) -ℤ pos (from / 4096 * 4096))) from to low high)
page_moves target from to low high t f o = elim (cases_lt target (from / 4096)) [
  | inl back ↦ by_steps (negsuc (from / 4096 - suc target)) (omega (arith, ints))
  | inr forth ↦ by_steps (pos (target - from / 4096)) (omega (arith, ints))
]
  where
    offset_known : (word : ℕ) (given : ℤ) → class_of word ≡ Page → (decoded word).offset ≡ Some given → offset_in (immediate 0x60ffffe0 5 19 2 12) word ≡ given
    offset_known word given class h =
        let same : (insn_of Page (Some (immediate 0x60ffffe0 5 19 2 12)) word).offset ≡ Some given = ap (λ (c : Class). (insn_of c (immediate_of c) word).offset) (sym class) ∙ h in
        cc

    by_steps : (steps : ℤ) → pos (4096 * target) -ℤ pos (from / 4096 * 4096) ≡ steps *ℤ pos 4096 → IsCorrected (corrected (with_offset (immediate 0x60ffffe0 5 19 2 12) 0x90000000 (pos (4096 * target) -ℤ pos (from / 4096 * 4096))) from to low high)
    by_steps steps e =
        let word : ℕ = with_offset (immediate 0x60ffffe0 5 19 2 12) 0x90000000 (steps *ℤ pos 4096) in
        let range : is_in_range (immediate 0x60ffffe0 5 19 2 12) (pos (4096 * target) -ℤ pos (from / 4096 * 4096)) ≡ true = grind (arith, ints) in
        let there : is_in_range (immediate 0x60ffffe0 5 19 2 12) (steps *ℤ pos 4096) ≡ true = ap (is_in_range (immediate 0x60ffffe0 5 19 2 12)) (sym e) ∙ range in
        let d = new_decoded 0x90000000 (immediate 0x60ffffe0 5 19 2 12) page_lies steps (lit< tt) there in
        let class : class_of word ≡ Page = sym (class-decoded word) ∙ ap (λ insn. insn.class) d ∙ page_class in
        let offset : offset_in (immediate 0x60ffffe0 5 19 2 12) word ≡ steps *ℤ pos 4096 = offset_known word (steps *ℤ pos 4096) class (ap (λ insn. insn.offset) d) in
        let back : pos (from / 4096 * 4096) +ℤ offset_in (immediate 0x60ffffe0 5 19 2 12) word ≡ pos (4096 * target) = ap (λ (o : ℤ). pos (from / 4096 * 4096) +ℤ o) (offset ∙ sym e) ∙ omega (arith, ints) in
        let near : is_in_range (immediate 0x60ffffe0 5 19 2 12) (pos (4096 * target) -ℤ pos (to / 4096 * 4096)) ≡ true = grind (arith, ints) in
        subst (λ (o : ℤ). IsCorrected (corrected (with_offset (immediate 0x60ffffe0 5 19 2 12) 0x90000000 o) from to low high)) (sym e)
        (reaches 0x60ffffe0 5 19 2 12 Page word from to low high (pos (4096 * target)) refl class back near)

-- it has 32 bits
pub page_fits : (target from : ℕ) → target < 2 ^ 12 → from < 2 ^ 24 → with_offset (immediate 0x60ffffe0 5 19 2 12) 0x90000000 (pos (4096 * target) -ℤ pos (from / 4096 * 4096)) < 2 ^ 32
page_fits target from t f = elim (cases_lt target (from / 4096)) [
  | inl back ↦ by_steps (negsuc (from / 4096 - suc target)) (omega (arith, ints))
  | inr forth ↦ by_steps (pos (target - from / 4096)) (omega (arith, ints))
]
  where
    by_steps : (steps : ℤ) → pos (4096 * target) -ℤ pos (from / 4096 * 4096) ≡ steps *ℤ pos 4096 → with_offset (immediate 0x60ffffe0 5 19 2 12) 0x90000000 (pos (4096 * target) -ℤ pos (from / 4096 * 4096)) < 2 ^ 32
    by_steps steps e =
        let range : is_in_range (immediate 0x60ffffe0 5 19 2 12) (pos (4096 * target) -ℤ pos (from / 4096 * 4096)) ≡ true = grind (arith, ints) in
        let there : is_in_range (immediate 0x60ffffe0 5 19 2 12) (steps *ℤ pos 4096) ≡ true = ap (is_in_range (immediate 0x60ffffe0 5 19 2 12)) (sym e) ∙ range in
        subst (λ (o : ℤ). with_offset (immediate 0x60ffffe0 5 19 2 12) 0x90000000 o < 2 ^ 32) (sym e)
        (new_fits 0x90000000 (immediate 0x60ffffe0 5 19 2 12) page_lies steps (lit< tt) there)
