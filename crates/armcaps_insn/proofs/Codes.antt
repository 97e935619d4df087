-- What the code's arithmetic on 64 bits computes.
use Rattle.std.proofs.Common.{◌≡◌, ℕ, ◌-◌, ◌^◌, ◌≤◌, ℤ, pos, negsuc, ◌-ℤ◌, ◌≤ℤ◌, ◌<◌, int_rem, neg_ℤ, w64, to_z, of_z, SFits, arith, refl}
use Rattle.std.specs.Int.Signed.{mag_shr, shr_z}
use Rattle.std.proofs.lemmas.Int.{ints, to_z-of_z}
use Rattle.armcaps_insn.specs.declared.immediates.Immediate.{Immediate}
use Rattle.armcaps_insn.specs.Immediates.{steps_in}

-- 2 ^ 43 bytes fit
pub near_fits : (z : ℤ) → neg_ℤ (pos (2 ^ 43)) ≤ℤ z → z ≤ℤ pos (2 ^ 43) → SFits w64 z
near_fits (pos n) low high = record { sfits = omega (arith, ints) }
near_fits (negsuc n) low high = record { sfits = omega (arith, ints) }

-- an offset shifted to the right is so many units
pub shr_code : (i : Immediate) (offset : ℤ) → SFits w64 offset → to_z w64 (of_z w64 (shr_z (to_z w64 (of_z w64 offset)) (2 ^ i.scale))) ≡ steps_in i offset
shr_code i offset fits =
    let small : SFits w64 (shr_z offset (2 ^ i.scale)) = record { sfits = omega (arith, mag_shr offset (2 ^ i.scale), fits.sfits) } in
    rw (to_z-of_z w64 offset fits, to_z-of_z w64 (shr_z offset (2 ^ i.scale)) small) (shr_is offset)
  where
    shr_is : (z : ℤ) → shr_z z (2 ^ i.scale) ≡ steps_in i z
    shr_is (pos n) = refl
    shr_is (negsuc n) = refl

-- the ends of a range in units
pub high_code : (half : ℕ) (z : ℤ) → 1 ≤ half → half ≤ 2 ^ 31 → SFits w64 z → z ≡ pos half → to_z w64 (of_z w64 (to_z w64 (of_z w64 z) -ℤ pos 1)) ≡ pos (half - 1)
high_code half z some few fits is = rw (to_z-of_z w64 z fits, is) (omega (arith, ints))

pub low_code : (half : ℕ) (z : ℤ) → half ≤ 2 ^ 31 → SFits w64 z → z ≡ pos half → to_z w64 (of_z w64 (pos 0 -ℤ to_z w64 (of_z w64 z))) ≡ neg_ℤ (pos half)
low_code half z few fits is = rw (to_z-of_z w64 z fits, is) (omega (arith, ints))

-- the offset from a place to a target
pub offset_code : (from : ℕ) (to : ℤ) → from < 2 ^ 40 → neg_ℤ (pos (2 ^ 40)) ≤ℤ to → to ≤ℤ pos (2 ^ 41) → SFits w64 to → to_z w64 (of_z w64 (to_z w64 (of_z w64 to) -ℤ to_z w64 from)) ≡ to -ℤ pos from
offset_code from to small low high fits = rw (to_z-of_z w64 to fits) (omega (arith, ints))

-- what is left by 4 is nothing
pub rest_code : (z : ℤ) → of_z w64 (int_rem z (pos 4)) ≡ 0 → int_rem z (pos 4) ≡ pos 0
rest_code (pos n) rest = omega (arith, ints, rest)
rest_code (negsuc n) rest = omega (arith, ints, rest)
