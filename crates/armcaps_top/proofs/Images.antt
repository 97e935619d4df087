-- The bytes after a text.
use Rattle.std.proofs.Common.{◌≡◌, ℕ, Bool, true, false, cond, nat_lt, arith, refl}
use Rattle.std.specs.Prelude.{None, Some}
use Rattle.std.proofs.lemmas.Bool.Decides.{nat_tests}
use Rattle.armcaps_top.specs.Document.{image_refusal}
use Rattle.armcaps_top.specs.declared.refusal.Refusal.{Refusal}

by_tests : (short long : Bool) (few many : Refusal) → cond short (Some few) (cond long (Some many) None) ≡ None → (short ≡ false) × (long ≡ false)
by_tests true long few many is = (cc, cc)
by_tests false true few many is = (cc, cc)
by_tests false false few many is = (refl, refl)

-- bytes that are not refused are as many as the image has
pub image_whole : (image given : ℕ) → image_refusal image given ≡ None → given ≡ image
image_whole image given is =
    let both = by_tests (nat_lt given image) (nat_lt image given) _ _ is in grind (arith, nat_tests, both.0, both.1)
