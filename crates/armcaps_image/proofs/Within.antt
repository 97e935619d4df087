-- A place that is asked for is what it says.
use Rattle.std.proofs.Common.{◌≡◌, ◌+◌, ◌%◌, ◌≤◌, ℕ, ℤ, false, negsuc, pos, refl, true, arith}
use Rattle.std.proofs.lemmas.Bool.Decides.{nat_tests}
use Rattle.armcaps_image.specs.Places.{as_place, is_aligned, is_within}

-- a multiple of four from which so many bytes lie within an image is not before it
pub place_parts : (size : ℕ) (place : ℤ) (count : ℕ) → is_aligned place ≡ true → is_within size place count ≡ true
    → (place ≡ pos (as_place place)) × (as_place place % 4 ≡ 0) × (as_place place + count ≤ size)
place_parts size (pos n) count aligned within = (refl, grind (arith, nat_tests, aligned), grind (arith, nat_tests, within))
place_parts size (negsuc n) count aligned within = (let wrong : false ≡ true = within in cc)
