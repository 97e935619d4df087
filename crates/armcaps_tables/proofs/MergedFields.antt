-- The merge of one field of two words.
use Rattle.std.proofs.Common.{◌≡◌, ℕ, ℤ, ◌+◌, ◌*◌, ◌^◌, ◌-◌, Bool, true, IsTrue, bit_and, of_z, to_z, w64, SFits, cond, ap, ◌∙◌, inl, inr, arith}
use Rattle.std.specs.Ordering.{int_eq}
use Rattle.armcaps_bits.specs.Field.{IsRange, field_bits, field_fits}
use Rattle.armcaps_bits.proofs.Signs.{bits_are}
use Rattle.armcaps_rule.specs.declared.rule.Rule.{Rule}
use Rattle.armcaps_rule.specs.declared.rule.Rule.TheVariants.{Exact}
use Rattle.armcaps_rule.specs.Rule.{merged}
use Rattle.armcaps_rule.proofs.Merging.{merged_exact, merged_picks}

-- the merge of two values is one of the two or the safe value, so it passes what they pass
pub merged_passes : (test : ℤ → Bool) (rule : Rule) (safe a b : ℤ) → test safe ≡ true → test a ≡ true → test b ≡ true
    → test (merged rule safe a b) ≡ true
merged_passes test Exact safe a b s p q = ap test (merged_exact safe a b) ∙ by_equal (int_eq a b)
  where
    by_equal : (equal : Bool) → test (cond equal a safe) ≡ true
    by_equal true = p
    by_equal other = s
merged_passes test rule safe a b s p q =
    elim (merged_picks rule safe a b (λ is. cc)) [
      | inl first ↦ ap test first ∙ p
      | inr second ↦ ap test second ∙ q
    ]

-- its bits, put above a word
pub merged_sum : (signed : Bool) (shift width : ℕ) (rule : Rule) (safe a b value : ℤ) (word cast low result : ℕ)
    → IsRange shift width → IsTrue (field_fits signed width safe) → IsTrue (field_fits signed width a)
    → IsTrue (field_fits signed width b) → value ≡ merged rule safe a b → SFits w64 value
    → cast ≡ of_z w64 (to_z w64 (of_z w64 value)) → low ≡ (2 ^ width - 1) * 2 ^ 0
    → result ≡ word + bit_and cast low * 2 ^ shift
    → result ≡ word + field_bits width (merged rule safe a b) * 2 ^ shift
merged_sum signed shift width rule safe a b value word cast low result range s p q is small cast_is low_is put =
    let fits : IsTrue (field_fits signed width value) =
    rw is (merged_passes (field_fits signed width) rule safe a b s p q) in
    let mask : low ≡ 2 ^ width - 1 = omega arith in
    let bits : bit_and cast low ≡ field_bits width value =
    bits_are signed width value cast low range.0 (omega arith) fits small cast_is mask in
    put ∙ ap (λ n. word + n * 2 ^ shift) (bits ∙ ap (field_bits width) is)
