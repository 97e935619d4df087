-- The bytes of a piece, and the sites that lie in it.
use Rattle.std.proofs.Common.{◌≡◌, ◌+◌, ◌-◌, ◌*◌, ◌/◌, ◌%◌, ◌<◌, ◌∷◌, ◌++◌, ◌&&◌, ℕ, List, [], arith, cond, false, get_or, inl, inr, length, nat_le, nat_lt, refl, take, true}
use Rattle.std.proofs.lemmas.Bool.{cases_Bool}
use Rattle.std.proofs.lemmas.Bool.Decides.{nat_tests}
use Rattle.std.proofs.lemmas.List.{take_more}
use Rattle.armcaps_image.specs.Bytes.{byte_of}
use Rattle.armcaps_image.proofs.Last.{last_that-append}
use Rattle.armcaps_jump.specs.declared.site.Site.{Site}
use Rattle.armcaps_jump.specs.Jumped.{byte_by, has_byte}
use Rattle.armcaps_jump.specs.Standing.{IsInPiece}

-- one site more
byte_by-push : (sites : List Site) (site : Site) (place original : ℕ)
    → byte_by (sites ++ site ∷ []) place original
    ≡ cond (has_byte place site) (byte_of site.word (place % 4)) (byte_by sites place original)
byte_by-push sites site place original = rw (last_that-append (has_byte place) sites (site ∷ [])) (elim (cases_Bool (has_byte place site)) [
  | inl here ↦ rw here refl
  | inr past ↦ rw past refl
])

-- where a site's word is put is where the site has a byte
pub put_one : (from to j old : ℕ) (site : Site) → from % 4 ≡ 0 → IsInPiece from to site
    → cond (nat_le (site.place - from) j && nat_lt j (site.place - from + 4)) (byte_of site.word (j - (site.place - from))) old
    ≡ cond (has_byte (from + j) site) (byte_of site.word ((from + j) % 4)) old
put_one from to j old site begins is =
    let aligned = is.aligned in
    let low = is.low in
    elim (cases_Bool (has_byte (from + j) site)) [
      | inl here ↦
          let word : site.place ≡ (from + j) / 4 * 4 = grind (arith, nat_tests, here) in
          let within : (nat_le (site.place - from) j && nat_lt j (site.place - from + 4)) ≡ true = grind (arith, nat_tests) in
          let index : j - (site.place - from) ≡ (from + j) % 4 = omega arith in
          rw (here, within, index) refl
      | inr past ↦
          let outside : (nat_le (site.place - from) j && nat_lt j (site.place - from + 4)) ≡ false = grind (arith, nat_tests, past) in
          rw (past, outside) refl
    ]

-- one site of a list more
pub byte_by-more : (sites : List Site) (k : ℕ) (d : Site) (place original : ℕ) → k < length sites
    → byte_by (take (k + 1) sites) place original
    ≡ cond (has_byte place (get_or sites k d)) (byte_of (get_or sites k d).word (place % 4)) (byte_by (take k sites) place original)
byte_by-more sites k d place original within =
    rw (take_more sites k d within) (byte_by-push (take k sites) (get_or sites k d) place original)
