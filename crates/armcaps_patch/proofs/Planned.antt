-- The bytes of a planned image, word by word.
use Rattle.std.proofs.Common.{◌≡◌, ◌+◌, ◌-◌, ◌*◌, ◌/◌, ◌%◌, ◌<◌, ◌≤◌, ℕ, List, None, Some, arith, false, get_or, length, refl, true}
use Rattle.std.specs.List.{All, slice_index}
use Rattle.std.proofs.lemmas.Bool.Decides.{nat_tests}
use Rattle.armcaps_image.specs.Bytes.{byte_of}
use Rattle.armcaps_image.specs.Last.{last_that}
use Rattle.armcaps_image.proofs.Last.{last_that-none, last_that-same}
use Rattle.armcaps_patch.specs.declared.kept.Kept.{Kept}
use Rattle.armcaps_patch.specs.Kept.{IsKept, Planned, kept_covers, planned_byte, planned_word}

-- a site covers all four bytes of a word or none
covers_word : (size : ℕ) (kept : Kept) (q i : ℕ) → IsKept size kept → q % 4 ≡ 0 → i < 4 → kept_covers (q + i) kept ≡ kept_covers q kept
covers_word size kept q i is aligned small =
    let site = is.site_aligned in
    let len = is.len_aligned in
    grind (arith, nat_tests)

module _ (plan : Planned) (image : List ℕ) (q i : ℕ) (kept : All (IsKept (length image)) plan.kept) (aligned : q % 4 ≡ 0) (small : i < 4) where
  last_same : last_that (kept_covers (q + i)) plan.kept ≡ last_that (kept_covers q) plan.kept
  last_same = last_that-same (kept_covers (q + i)) (kept_covers q) plan.kept (λ k d within. covers_word (length image) (get_or plan.kept k d) q i (kept k d within) aligned small)

  -- a byte that no site covers is the original's
  pub byte_kept : last_that (kept_covers q) plan.kept ≡ None → planned_byte plan image (q + i) ≡ slice_index image (q + i)
  byte_kept none = rw (last_same, none) refl

  -- a byte of a covered word is that of the new word
  pub byte_new : (number : ℕ) (d : Kept) → number < length plan.kept → last_that (kept_covers q) plan.kept ≡ Some (get_or plan.kept number d) → kept_covers q (get_or plan.kept number d) ≡ true → planned_byte plan image (q + i) ≡ byte_of (planned_word plan image q) i
  byte_new number d within found covers =
      let is = kept number d within in
      let site = is.site_aligned in
      let low : (get_or plan.kept number d).site ≤ q = grind (arith, nat_tests) in
      let place : (q + i - (get_or plan.kept number d).site) / 4 ≡ (q - (get_or plan.kept number d).site) / 4 = omega arith in
      let rest : (q + i) % 4 ≡ i = omega arith in
      rw (last_same, found, place, rest) refl

-- no site covers a place from the last whole word's end on
past_covers : (size : ℕ) (kept : Kept) (place : ℕ) → IsKept size kept → size / 4 * 4 ≤ place → kept_covers place kept ≡ false
past_covers size kept place is past =
    let site = is.site_aligned in
    let len = is.len_aligned in
    let within = is.site_within in
    let end : kept.site + kept.len ≤ place = omega arith in
    grind (arith, nat_tests)

-- a byte from there on is the original's
pub byte_past : (plan : Planned) (image : List ℕ) (place : ℕ) → All (IsKept (length image)) plan.kept → length image / 4 * 4 ≤ place → planned_byte plan image place ≡ slice_index image place
byte_past plan image place kept past =
    let none = last_that-none (kept_covers place) plan.kept (λ k d within. past_covers (length image) (get_or plan.kept k d) place (kept k d within) past) in
    rw none refl

-- a byte that no site covers is the original's
pub byte_untouched : (plan : Planned) (image : List ℕ) (place : ℕ) → last_that (kept_covers place) plan.kept ≡ None → planned_byte plan image place ≡ slice_index image place
byte_untouched plan image place none = rw none refl
