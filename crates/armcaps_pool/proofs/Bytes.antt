-- Words and their bytes, and the first place that passes a test.
use Rattle.std.proofs.Common.{◌≡◌, ℕ, zero, suc, ◌+◌, ◌-◌, ◌*◌, ◌/◌, ◌^◌, ◌<◌, ◌≤◌, ◌==◌, ◌&&◌, ◌||◌, Bool, true, false, not, cond, nat_le, List, drop, get_or, min, take, refl, sym, ap, ◌∙◌, inl, inr, arith, add-zero, eq-eqb}
use Rattle.std.specs.Str.{bytes_eq}
use Rattle.std.proofs.lemmas.Bool.{cases_lt, false≢true, le-leb, lt-leb}
use Rattle.std.proofs.lemmas.List.{get_or-drop, get_or-take}
use Rattle.std.proofs.lemmas.Slice.Eq.{bytes_eq-Decides}
use Rattle.std.proofs.Math.Bool.{and-false}
use Rattle.armcaps_image.specs.Bytes.{byte_of, word_in}
use Rattle.armcaps_pool.specs.Audits.{differs_at}
use Rattle.armcaps_pool.specs.Judging.{IsFirst, differ_in, is_changed, is_marked}

-- a byte of four, by the word that they make
byte_of_four : (a b c d : ℕ) → a < 256 → b < 256 → c < 256 → d < 256 → (index : ℕ) → index < 4
    → byte_of (a + 2 ^ 8 * b + 2 ^ 16 * (c + 2 ^ 8 * d)) index
    ≡ cond (nat_le index 0) a (cond (nat_le index 1) b (cond (nat_le index 2) c d))
byte_of_four a b c d la lb lc ld zero within = omega arith
byte_of_four a b c d la lb lc ld (suc zero) within = omega arith
byte_of_four a b c d la lb lc ld (suc (suc zero)) within = omega arith
byte_of_four a b c d la lb lc ld (suc (suc (suc zero))) within = omega arith
byte_of_four a b c d la lb lc ld (suc (suc (suc (suc index)))) within = absurd (omega arith)

-- a byte of a word in an image is the image's
pub byte_in_word : (bytes : List ℕ) (place index : ℕ) → ((k : ℕ) → get_or bytes k 0 < 256) → index < 4
    → byte_of (word_in bytes place) index ≡ get_or bytes (place + index) 0
byte_in_word bytes place index small within =
    byte_of_four (get_or bytes place 0) (get_or bytes (place + 1) 0) (get_or bytes (place + 2) 0)
    (get_or bytes (place + 2 + 1) 0) (small place) (small (place + 1)) (small (place + 2)) (small (place + 2 + 1)) index within
    ∙ which index within where
      which : (index : ℕ) → index < 4
          → cond (nat_le index 0) (get_or bytes place 0) (cond (nat_le index 1) (get_or bytes (place + 1) 0)
          (cond (nat_le index 2) (get_or bytes (place + 2) 0) (get_or bytes (place + 2 + 1) 0)))
          ≡ get_or bytes (place + index) 0
      which zero within = ap (λ k. get_or bytes k 0) (sym (add-zero place))
      which (suc zero) within = refl
      which (suc (suc zero)) within = refl
      which (suc (suc (suc zero))) within =
          (let same : place + 2 + 1 ≡ place + 3 = omega arith in ap (λ k. get_or bytes k 0) same)
      which (suc (suc (suc (suc index)))) within = absurd (omega arith)

-- a byte of a word differs where the images do
byte_differs : (patched image : List ℕ) (number one other index : ℕ) → ((k : ℕ) → get_or patched k 0 < 256)
    → ((k : ℕ) → get_or image k 0 < 256) → one ≡ word_in patched (4 * number) → other ≡ word_in image (4 * number) → index < 4
    → differ_in one other index ≡ differs_at patched image (4 * number + index)
byte_differs patched image number one other index patched_small image_small one_is other_is within =
    ap (λ b. not (b == byte_of other index)) (ap (λ w. byte_of w index) one_is ∙ byte_in_word patched (4 * number) index patched_small within)
    ∙ ap (λ b. not (get_or patched (4 * number + index) 0 == b))
    (ap (λ w. byte_of w index) other_is ∙ byte_in_word image (4 * number) index image_small within)

-- a byte that doesn't differ isn't changed
unchanged : (marks patched image : List ℕ) (place : ℕ) → differs_at patched image place ≡ false
    → is_changed marks patched image place ≡ false
unchanged marks patched image place same =
    ap (λ d. not (is_marked marks (place / 4)) && d) same ∙ and-false (not (is_marked marks (place / 4)))

-- the first byte in which a word differs is the first that is changed, if the word isn't marked
pub changed_in_word : (marks patched image : List ℕ) (number one other index : ℕ) → ((k : ℕ) → get_or patched k 0 < 256)
    → ((k : ℕ) → get_or image k 0 < 256) → one ≡ word_in patched (4 * number) → other ≡ word_in image (4 * number)
    → IsFirst (differ_in one other) 4 index → (index < 4 → is_marked marks number ≡ false)
    → IsFirst (λ k. is_changed marks patched image (4 * number + k)) 4 index
changed_in_word marks patched image number one other index patched_small image_small one_is other_is first unmarked = record {
  most = first.most;
  before = λ k earlier.
      (let most = first.most in
      unchanged marks patched image (4 * number + k)
      (sym (byte_differs patched image number one other k patched_small image_small one_is other_is (omega arith))
      ∙ first.before k earlier));
  passes = λ within.
      (let place : (4 * number + index) / 4 ≡ number = omega arith in
      ap (λ m. not m && differs_at patched image (4 * number + index)) (ap (is_marked marks) place ∙ unmarked within)
      ∙ sym (byte_differs patched image number one other index patched_small image_small one_is other_is within)
      ∙ first.passes within);
}

-- the first place of a word that passes a test, where none before the word does
pub found_in_word : (test : ℕ → Bool) (begin number end index : ℕ) → begin ≤ number → number < end → index < 4
    → ((k : ℕ) → k < 4 * number → (nat_le (4 * begin) k && test k) ≡ false)
    → IsFirst (λ k. test (4 * number + k)) 4 index
    → IsFirst (λ k. nat_le (4 * begin) k && test k) (4 * end) (4 * number + index)
found_in_word test begin number end index from below within before first = record {
  most = omega arith;
  before = λ k earlier. elim (cases_lt k (4 * number)) [
    | inl less ↦ before k less
    | inr more ↦
        (let place : k ≡ 4 * number + (k - 4 * number) = omega arith in
        ap (λ b. nat_le (4 * begin) k && b) (ap test place ∙ first.before (k - 4 * number) (omega arith))
        ∙ and-false (nat_le (4 * begin) k))
  ];
  passes = λ inside.
      ap (λ b. b && test (4 * number + index)) (le-leb (4 * begin) (4 * number + index) (omega arith)) ∙ first.passes within;
}

-- a word none of whose bytes passes a test
pub passed_word : (test : ℕ → Bool) (begin number index : ℕ) → 4 ≤ index
    → ((k : ℕ) → k < 4 * number → (nat_le (4 * begin) k && test k) ≡ false)
    → IsFirst (λ k. test (4 * number + k)) 4 index
    → (k : ℕ) → k < 4 * (number + 1) → (nat_le (4 * begin) k && test k) ≡ false
passed_word test begin number index past before first k below = elim (cases_lt k (4 * number)) [
  | inl less ↦ before k less
  | inr more ↦
      (let place : k ≡ 4 * number + (k - 4 * number) = omega arith in
      ap (λ b. nat_le (4 * begin) k && b) (ap test place ∙ first.before (k - 4 * number) (omega arith))
      ∙ and-false (nat_le (4 * begin) k))
]

-- no byte of equal pieces is changed
pub equal_piece : (marks patched image : List ℕ) (begin end : ℕ)
    → bytes_eq (take (end - begin) (drop begin patched)) (take (end - begin) (drop begin image)) ≡ true
    → (k : ℕ) → k < end → (nat_le begin k && is_changed marks patched image k) ≡ false
equal_piece marks patched image begin end equal k below =
    elim (cases_lt k begin) [
      | inl before ↦ ap (λ b. b && is_changed marks patched image k) (lt-leb begin k before)
      | inr from ↦
          ap (λ b. nat_le begin k && b) (unchanged marks patched image k (ap not (eq-eqb _ _ (same from))))
          ∙ and-false (nat_le begin k)
    ] where
      in_piece : (bytes : List ℕ) → begin ≤ k → get_or bytes k 0 ≡ get_or (take (end - begin) (drop begin bytes)) (k - begin) 0
      in_piece bytes from =
          (let place : k ≡ begin + (k - begin) = omega arith in
          ap (λ n. get_or bytes n 0) place ∙ sym (get_or-drop begin bytes (k - begin) 0)
          ∙ sym (get_or-take (end - begin) (drop begin bytes) (k - begin) 0 (omega arith)))

      pieces : take (end - begin) (drop begin patched) ≡ take (end - begin) (drop begin image)
      pieces = (bytes_eq-Decides (take (end - begin) (drop begin patched)) (take (end - begin) (drop begin image))).0 equal

      same : begin ≤ k → get_or patched k 0 ≡ get_or image k 0
      same from = in_piece patched from ∙ ap (λ piece. get_or piece (k - begin) 0) pieces ∙ sym (in_piece image from)

-- the same first place of two tests that agree
pub first_same : (one other : ℕ → Bool) (size place : ℕ) → ((k : ℕ) → k < size → one k ≡ other k)
    → IsFirst one size place → IsFirst other size place
first_same one other size place same first = record {
  most = first.most;
  before = λ k earlier. (let most = first.most in sym (same k (omega arith)) ∙ first.before k earlier);
  passes = λ within. sym (same place within) ∙ first.passes within;
}

-- the first place that passes one of two tests is the lesser of theirs
either_passes : (one other test : Bool) → test ≡ (one || other) → one ≡ true → test ≡ true
either_passes true other test is passes = is
either_passes false other test is passes = absurd (false≢true passes)

other_passes : (one other test : Bool) → test ≡ (one || other) → other ≡ true → test ≡ true
other_passes true other test is passes = is
other_passes false other test is passes = is ∙ passes

neither_passes : (one other test : Bool) → test ≡ (one || other) → one ≡ false → other ≡ false → test ≡ false
neither_passes one other test is first second = is ∙ ap (λ b. b || other) first ∙ second

pub first_either : (one other test : ℕ → Bool) (size a b : ℕ) → IsFirst one size a → IsFirst other size b
    → ((k : ℕ) → k < size → test k ≡ (one k || other k)) → IsFirst test size (min a b)
first_either one other test size a b first second is =
    let most_a = first.most in
    let most_b = second.most in
    record {
      most = omega arith;
      before = λ k early.
          neither_passes (one k) (other k) (test k) (is k (omega arith)) (first.before k (omega arith))
          (second.before k (omega arith));
      passes = λ inside. elim (cases_lt b a) [
        | inl less ↦
            (let at : min a b ≡ b = omega arith in
            ap test at
            ∙ other_passes (one b) (other b) (test b) (is b (omega arith)) (second.passes (omega arith)))
        | inr more ↦
            (let at : min a b ≡ a = omega arith in
            ap test at
            ∙ either_passes (one a) (other a) (test a) (is a (omega arith)) (first.passes (omega arith)))
      ];
    }

-- no place passes
pub first_none : (test : ℕ → Bool) (size : ℕ) → ((k : ℕ) → k < size → test k ≡ false) → IsFirst test size size
first_none test size fails = record {
  most = omega arith;
  before = fails;
  passes = λ inside. absurd (omega arith);
}
