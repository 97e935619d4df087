-- What is known at the last line of a text that has no kind.
use Rattle.std.proofs.Common.{◌≡◌, ℕ, zero, suc, ◌<◌, ◌||◌, Bool, true, false, cond, List, [], ◌∷◌, length, find, Option, Some, None, option_map, is_none, IsSome, refl, sym, ap, subst, ◌∙◌, arith, get_or, lit<}
use Rattle.std.proofs.lemmas.Bool.{false≢true}
use Rattle.armcaps_text.specs.Before.{Before}
use Rattle.armcaps_text.specs.KindAtLine.{is_in_passed_section, lacks_core, lacks_boot, kinds_asked, first_true, kind_after}
use Rattle.armcaps_text.specs.Learned.{learned}
use Rattle.armcaps_text.specs.Meaning.{is_last}
use Rattle.armcaps_text.specs.declared.format.Format.{Format}
use Rattle.armcaps_text.specs.declared.kind.TextKind.{TextKind}
use Rattle.armcaps_text.specs.declared.kind.TextKind.TheVariants as kind
use Rattle.armcaps_text.specs.declared.line.Line.{Line}
use Rattle.armcaps_text.specs.declared.line.Line.TheVariants.{Image}

-- where no kind holds, none of those asked does
pub fails : (asked : List (Bool × TextKind)) (k : ℕ) (d : Bool × TextKind) → first_true asked ≡ None → k < length asked → (get_or asked k d).0 ≡ false
fails [] k d h lt = absurd (omega arith)
fails (one ∷ asked) k d h lt = by_first one.0 refl h (λ k lt h. fails asked k d h lt) k lt
  where
    none_left : (holds : Bool) → option_map (λ (one : Bool × TextKind). one.1) (cond holds (Some one) (find (λ (one : Bool × TextKind). one.0) asked)) ≡ None → holds ≡ false
    none_left true h = cc
    none_left false h = refl

    at : (k : ℕ) → one.0 ≡ false → first_true asked ≡ None → ((k : ℕ) → k < length asked → first_true asked ≡ None → (get_or asked k d).0 ≡ false) → k < length (one ∷ asked) → (get_or (one ∷ asked) k d).0 ≡ false
    at zero e h more lt = e
    at (suc k) e h more lt = more k (omega arith) h

    by_first : (holds : Bool) → one.0 ≡ holds → option_map (λ (one : Bool × TextKind). one.1) (cond holds (Some one) (find (λ (one : Bool × TextKind). one.0) asked)) ≡ None → ((k : ℕ) → k < length asked → first_true asked ≡ None → (get_or asked k d).0 ≡ false) → (k : ℕ) → k < length (one ∷ asked) → (get_or (one ∷ asked) k d).0 ≡ false
    by_first true e h more k lt = cc
    by_first false e h more k lt = at k e h more lt

-- of what none of four tests is true, the last is not
pub last_of_four : (a b c d : Bool) → (((a || b) || c) || d) ≡ false → d ≡ false
last_of_four true b c d h = cc
last_of_four false true c d h = cc
last_of_four false false true d h = cc
last_of_four false false false d h = h

-- a line of section 9 without a kind stands after a boot core
pub boot_there : (format : Format) (before : Before) (length : ℕ) → kind_after format before (Image length) ≡ None → is_none before.boot ≡ false
unfolding kind_after
boot_there format before length h =
    last_of_four false (is_in_passed_section before (Image length)) (lacks_core before (Image length)) (lacks_boot before (Image length))
    (fails (kinds_asked format before (Image length)) 1 (false, kind.Order) h (lit< tt))

some_boot : {A : Type 0} (o : Option A) → is_none o ≡ false → IsSome o
some_boot None h = absurd (false≢true (sym h))
some_boot (Some x) h = refl

-- the last line is one that gives the image's length
pub last_is : (line : Line (List ℕ)) → is_last line ≡ true → (length : ℕ) × (line ≡ Image length)
last_is (Image length) h = (length, refl)
last_is line h = cc

-- what the last line leaves has a boot core and an image's length
pub boot_known : (format : Format) (kept now : Before) (line : Line (List ℕ)) → kind_after format kept line ≡ None → is_last line ≡ true → now ≡ learned kept line → IsSome now.boot
unfolding learned
boot_known format kept now line kind last learns =
    let image = last_is line last in
    let there = boot_there format kept image.0 (ap (kind_after format kept) (sym image.1) ∙ kind) in
    subst (λ (one : Before). IsSome one.boot) (sym (learns ∙ ap (learned kept) image.1)) (some_boot kept.boot there)

pub image_known : (kept now : Before) (line : Line (List ℕ)) → is_last line ≡ true → now ≡ learned kept line → IsSome now.image
unfolding learned
image_known kept now line last learns =
    let image = last_is line last in
    subst (λ (one : Before). IsSome one.image) (sym (learns ∙ ap (learned kept) image.1)) refl
