-- The members of a set that is kept as bits, before and after a bit is set.
use Rattle.std.proofs.Common.{◌≡◌, ◌≢◌, ℕ, ◌*◌, ◌%◌, ◌^◌, ◌<◌, ◌≤◌, true, false, ap, sym, subst, arith}
use Rattle.std.specs.Prelude.{◌==◌}
use Rattle.std.specs.Int.{w64}
use Rattle.std.specs.Int.RustNames.{bit_or}
use Rattle.std.proofs.lemmas.Nat.{one_shl, or_lt}
use Rattle.std.proofs.Math.Pow.{pow-lt}
use Rattle.std.proofs.lemmas.Nat.Bits.{bit_at_above, bit_at_set_other, bit_at_set_same}
use Rattle.armcaps_caps.specs.Set.{holds}

-- no number from 53 on is a member where the bits are below 2 ^ 53
pub holds_above : (set number : ℕ) → set < 2 ^ 53 → 53 ≤ number → holds set number ≡ false
holds_above set number small past = ap (λ bit. bit == 1) (bit_at_above set 53 number small past)

-- with the bit set its number is a member
pub holds_set : (set number : ℕ) → number < 64 → holds (bit_or set (1 * 2 ^ number % 2 ^ 64)) number ≡ true
holds_set set number within = ap (λ bit. bit == 1) (bit_at_set_same w64 set number within)

-- and the others are members as before
pub holds_set_other : (set number other : ℕ) → number < 64 → other ≢ number
    → holds (bit_or set (1 * 2 ^ number % 2 ^ 64)) other ≡ holds set other
holds_set_other set number other within differ = ap (λ bit. bit == 1)
    (bit_at_set_other w64 set number within other differ)

-- the bits stay below 2 ^ 53
pub set_below : (set number : ℕ) → set < 2 ^ 53 → number < 53 → bit_or set (1 * 2 ^ number % 2 ^ 64) < 2 ^ 53
set_below set number small within =
    let below : ℕ → Type 0 = λ bit. bit_or set bit < 2 ^ 53 in
    subst below (sym (one_shl number 64 (omega arith))) (or_lt 53 set (2 ^ number) small (pow-lt within))
