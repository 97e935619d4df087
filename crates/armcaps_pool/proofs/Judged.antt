-- Words of sites that are judged: which bytes are wrong, and the first of them.
use Rattle.std.proofs.Common.{◌≡◌, ℕ, ◌+◌, ◌-◌, ◌*◌, ◌/◌, ◌%◌, ◌<◌, ◌≤◌, ◌==◌, ◌&&◌, ◌||◌, Bool, true, false, not, List, Ok, length, get_or, refl, sym, ap, subst, ◌∙◌, inl, inr, min, arith, eq-eqb}
use Rattle.std.proofs.lemmas.Bool.{cases_eq, ne_eqb, false≢true}
use Rattle.std.proofs.lemmas.Bool.Decides.{nat_tests}
use Rattle.std.proofs.Math.Bool.{or_assoc, or-false}
use Rattle.armcaps_image.specs.Bytes.{byte_of, word_in}
use Rattle.armcaps_image.specs.Places.{as_place}
use Rattle.armcaps_insn.specs.Moved.{corrected}
use Rattle.armcaps_alt.specs.declared.table_entry.Entry.{Entry}
use Rattle.armcaps_alt.specs.Accepted.{HasReplacement}
use Rattle.armcaps_alt.specs.Entries.{Features}
use Rattle.armcaps_alt.specs.Words.{new_word}
use Rattle.armcaps_pool.specs.Judging.{IsFirst, IsJudged, differ_in, is_among, is_marked, is_other, is_wrong_by}
use Rattle.armcaps_pool.proofs.Bytes.{byte_in_word, first_either, first_none}

-- a word of a replacement can move to the site
pub can_move : (image : List ℕ) (entry : Entry) (index word low site len : ℕ) → HasReplacement image entry
    → 4 * index < entry.orig_len → low ≡ as_place entry.repl → site ≡ as_place entry.site → len ≡ entry.orig_len
    → word ≡ word_in image (low + 4 * index)
    → (new : ℕ) × (corrected word (low + 4 * index) (site + 4 * index) low (low + len) ≡ Ok new)
can_move image entry index word low site len has within low_is site_is len_is word_is =
    let moves = has.moves index within in
    (moves.0, rw (word_is, low_is, site_is, len_is) moves.1)

-- whether a byte of a site's word is another than the entry's, by the two words
other_at : (features : Features) (image patched : List ℕ) (entry : Entry) (index byte : ℕ)
    → ((k : ℕ) → get_or patched k 0 < 256) → as_place entry.site % 4 ≡ 0 → byte < 4
    → differ_in (word_in patched (as_place entry.site + 4 * index)) (new_word features image entry index) byte
    ≡ is_other features image patched entry (as_place entry.site + 4 * index + byte)
other_at features image patched entry index byte small aligned within =
    let site : ℕ = as_place entry.site in
    let word_is : (as_place entry.site + 4 * index + byte - as_place entry.site) / 4 ≡ index = omega arith in
    let byte_is : (as_place entry.site + 4 * index + byte) % 4 ≡ byte = omega arith in
    let new : byte_of (new_word features image entry ((as_place entry.site + 4 * index + byte - as_place entry.site) / 4))
    ((as_place entry.site + 4 * index + byte) % 4) ≡ byte_of (new_word features image entry index) byte =
    ap (λ w. byte_of (new_word features image entry w) ((as_place entry.site + 4 * index + byte) % 4)) word_is
    ∙ ap (byte_of (new_word features image entry index)) byte_is in
    let found = byte_in_word patched (as_place entry.site + 4 * index) byte small within in
    ap (λ b. not (b == byte_of (new_word features image entry index) byte)) found
    ∙ ap (λ b. not (get_or patched (as_place entry.site + 4 * index + byte) 0 == b)) (sym new)

-- the first byte of a word that passes, and none elsewhere
word_passes : (other : ℕ → Bool) (number place : ℕ) → place / 4 ≡ number
    → ((place / 4 == number) && other place) ≡ other place
word_passes other number place is = ap (λ b. b && other place) (eq-eqb (place / 4) number is)

word_fails : (other : ℕ → Bool) (number place : ℕ) → (place / 4 ≡ number → ⊥)
    → ((place / 4 == number) && other place) ≡ false
word_fails other number place differ = ap (λ b. b && other place) (ne_eqb (place / 4) number differ)

fails_before : (other : ℕ → Bool) (number begin byte place : ℕ) → begin / 4 ≡ number → begin % 4 ≡ 0
    → ((earlier : ℕ) → earlier < byte → other (begin + earlier) ≡ false) → place < begin + byte → byte ≤ 4
    → ((place / 4 == number) && other place) ≡ false
fails_before other number begin byte place is aligned before early few = elim (cases_eq (place / 4) number) [
  | inl same ↦
      (let at : begin + (place - begin) ≡ place = omega arith in
      word_passes other number place same
      ∙ ap other (sym at) ∙ before (place - begin) (omega arith))
  | inr differ ↦ word_fails other number place differ
]

pub first_in_word : (test other : ℕ → Bool) (number begin size byte : ℕ) → begin / 4 ≡ number → begin % 4 ≡ 0
    → begin + 4 ≤ size → ((k : ℕ) → k < 4 → test k ≡ other (begin + k)) → IsFirst test 4 byte → byte < 4
    → IsFirst (λ place. (place / 4 == number) && other place) size (begin + byte)
first_in_word test other number begin size byte is aligned within same first found = record {
  most = omega arith;
  before = λ place early. fails_before other number begin byte place is aligned
      (λ earlier below. sym (same earlier (omega arith)) ∙ first.before earlier below) early (omega arith);
  passes = λ inside.
      word_passes other number (begin + byte) (omega arith) ∙ sym (same byte found) ∙ first.passes found;
}

pub none_in_word : (test other : ℕ → Bool) (number begin size byte : ℕ) → begin / 4 ≡ number → begin % 4 ≡ 0
    → ((k : ℕ) → k < 4 → test k ≡ other (begin + k)) → IsFirst test 4 byte → 4 ≤ byte
    → IsFirst (λ place. (place / 4 == number) && other place) size size
none_in_word test other number begin size byte is aligned same first past = record {
  most = omega arith;
  before = λ place inside. elim (cases_eq (place / 4) number) [
    | inl here ↦
        (let at : begin + (place - begin) ≡ place = omega arith in
        word_passes other number place here
        ∙ ap other (sym at) ∙ sym (same (place - begin) (omega arith)) ∙ first.before (place - begin) (omega arith))
    | inr differ ↦ word_fails other number place differ
  ];
  passes = λ inside. absurd (omega arith);
}

-- the same for the word of a site
pub site_first : (features : Features) (image patched : List ℕ) (entry : Entry) (index site found right byte : ℕ)
    → ((k : ℕ) → get_or patched k 0 < 256) → as_place entry.site % 4 ≡ 0 → as_place entry.site + entry.orig_len ≤ length image
    → entry.orig_len % 4 ≡ 0 → 4 * index < entry.orig_len → site ≡ as_place entry.site
    → found ≡ word_in patched (site + 4 * index) → right ≡ new_word features image entry index
    → IsFirst (differ_in found right) 4 byte → byte < 4
    → IsFirst (λ place. (place / 4 == as_place entry.site / 4 + index) && is_other features image patched entry place)
    (length image) (site + 4 * index + byte)
site_first features image patched entry index site found right byte small aligned within words inside site_is found_is right_is first some =
    let begin : ℕ = as_place entry.site + 4 * index in
    let at : (k : ℕ) → k < 4 → differ_in found right k ≡ is_other features image patched entry (as_place entry.site + 4 * index + k) =
    λ k less. ap (λ w. differ_in w right k) (found_is ∙ ap (λ s. word_in patched (s + 4 * index)) site_is)
    ∙ ap (λ w. differ_in (word_in patched (as_place entry.site + 4 * index)) w k) right_is
    ∙ other_at features image patched entry index k small aligned less in
    subst (λ (s : ℕ). IsFirst (λ place. (place / 4 == as_place entry.site / 4 + index) && is_other features image patched entry place)
    (length image) (s + 4 * index + byte)) (sym site_is)
    (first_in_word (differ_in found right) (is_other features image patched entry) (as_place entry.site / 4 + index)
    (as_place entry.site + 4 * index) (length image) byte (omega arith) (omega arith) (omega arith) at first some)

pub site_none : (features : Features) (image patched : List ℕ) (entry : Entry) (index site found right byte : ℕ)
    → ((k : ℕ) → get_or patched k 0 < 256) → as_place entry.site % 4 ≡ 0 → site ≡ as_place entry.site
    → found ≡ word_in patched (site + 4 * index) → right ≡ new_word features image entry index
    → IsFirst (differ_in found right) 4 byte → 4 ≤ byte
    → IsFirst (λ place. (place / 4 == as_place entry.site / 4 + index) && is_other features image patched entry place)
    (length image) (length image)
site_none features image patched entry index site found right byte small aligned site_is found_is right_is first past =
    let at : (k : ℕ) → k < 4 → differ_in found right k ≡ is_other features image patched entry (as_place entry.site + 4 * index + k) =
    λ k less. ap (λ w. differ_in w right k) (found_is ∙ ap (λ s. word_in patched (s + 4 * index)) site_is)
    ∙ ap (λ w. differ_in (word_in patched (as_place entry.site + 4 * index)) w k) right_is
    ∙ other_at features image patched entry index k small aligned less in
    none_in_word (differ_in found right) (is_other features image patched entry) (as_place entry.site / 4 + index)
    (as_place entry.site + 4 * index) (length image) byte (omega arith) (omega arith) at first past

-- in a word that was not marked
pub while_unmarked : (marks : List ℕ) (other : ℕ → Bool) (number place : ℕ) → is_marked marks number ≡ false
    → ((place / 4 == number) && other place)
    ≡ ((place / 4 == number) && (not (is_marked marks (place / 4)) && other place))
while_unmarked marks other number place unmarked = elim (cases_eq (place / 4) number) [
  | inl same ↦
      (let here : is_marked marks (place / 4) ≡ false = ap (is_marked marks) same ∙ unmarked in
      ap (λ m. (place / 4 == number) && (not m && other place)) (sym here))
  | inr differ ↦
      word_fails other number place differ
      ∙ sym (word_fails (λ p. not (is_marked marks (p / 4)) && other p) number place differ)
]

-- one word more of a site
among_none : (entry : Entry) (number : ℕ) → is_among entry 0 number ≡ false
among_none entry number = grind (arith, nat_tests)

among_more : (entry : Entry) (count number : ℕ)
    → is_among entry (count + 1) number ≡ (is_among entry count number || (number == as_place entry.site / 4 + count))
among_more entry count number = grind (arith, nat_tests)

among_not : (entry : Entry) (count number : ℕ) → is_among entry count number ≡ true
    → (number == as_place entry.site / 4 + count) ≡ false
among_not entry count number among = grind (arith, nat_tests)

one_more : (among here marked wrong : Bool) → (among ≡ true → here ≡ false)
    → ((among || here) && (not marked && wrong))
    ≡ ((among && (not marked && wrong)) || (here && (not (marked || among) && wrong)))
one_more true true marked wrong apart = absurd (false≢true (sym (apart refl)))
one_more true false true wrong apart = refl
one_more true false false true apart = refl
one_more true false false false apart = refl
one_more false true true wrong apart = refl
one_more false true false wrong apart = refl
one_more false false marked wrong apart = refl

pub judged_none : (features : Features) (image patched old : List ℕ) (entry : Entry)
    → IsJudged features image patched old entry 0 old (length image)
judged_none features image patched old entry = record {
  size = refl;
  marked = λ number. sym (ap (λ b. is_marked old number || b) (among_none entry number) ∙ or-false (is_marked old number));
  first = first_none (λ p. is_among entry 0 (p / 4) && is_wrong_by features image patched old entry p) (length image)
      (λ p inside. ap (λ b. b && is_wrong_by features image patched old entry p) (among_none entry (p / 4)));
}

pub judged_more : (features : Features) (image patched old : List ℕ) (entry : Entry) (count : ℕ) (marks new : List ℕ)
    (place other next : ℕ) → next ≡ min place other
    → IsJudged features image patched old entry count marks place → length new ≡ length marks
    → ((number : ℕ) → is_marked new number ≡ (is_marked marks number || (number == as_place entry.site / 4 + count)))
    → IsFirst (λ p. (p / 4 == as_place entry.site / 4 + count) && is_wrong_by features image patched marks entry p)
    (length image) other
    → IsJudged features image patched old entry (count + 1) new next
judged_more features image patched old entry count marks new place other next is judged long marked first =
    subst (λ (n : ℕ). IsJudged features image patched old entry (count + 1) new n) (sym is) (record {
      size = long ∙ judged.size;
      marked = λ number.
          marked number ∙ ap (λ b. b || (number == as_place entry.site / 4 + count)) (judged.marked number)
          ∙ or_assoc (is_marked old number) (is_among entry count number) (number == as_place entry.site / 4 + count)
          ∙ ap (λ b. is_marked old number || b) (sym (among_more entry count number));
      first = first_either
          (λ p. is_among entry count (p / 4) && is_wrong_by features image patched old entry p)
          (λ p. (p / 4 == as_place entry.site / 4 + count) && is_wrong_by features image patched marks entry p)
          (λ p. is_among entry (count + 1) (p / 4) && is_wrong_by features image patched old entry p)
          (length image) place other judged.first first
          (λ p inside.
          ap (λ b. b && is_wrong_by features image patched old entry p) (among_more entry count (p / 4))
          ∙ one_more (is_among entry count (p / 4)) (p / 4 == as_place entry.site / 4 + count) (is_marked old (p / 4))
          (is_other features image patched entry p) (among_not entry count (p / 4))
          ∙ ap (λ m. (is_among entry count (p / 4) && is_wrong_by features image patched old entry p)
          || ((p / 4 == as_place entry.site / 4 + count) && (not m && is_other features image patched entry p)))
          (sym (judged.marked (p / 4))));
    })
