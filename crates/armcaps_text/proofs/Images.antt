-- A text's image is no longer than its format allows.
use Rattle.std.proofs.Common.{◌≡◌, ℕ, suc, zero, ◌≤◌, ◌^◌, Bool, true, false, nat_le, cond, codes, List, [], ◌∷◌, map, Some, None, sym, ap, subst, ◌∙◌, arith}
use Rattle.std.specs.List.{slice_get}
use Rattle.std.proofs.lemmas.Bool.Decides.{nat_tests}
use Rattle.armcaps_text.specs.Formats.{format_one, format_two, is_header, format_named}
use Rattle.armcaps_text.specs.Meaning.{line_of}
use Rattle.armcaps_text.specs.declared.format.Format.{Format}
use Rattle.armcaps_text.specs.declared.line.Line.TheVariants as line
use Rattle.armcaps_text.proofs.MadeLines.{is_ranged, line_ranged}

-- the image that a line of a text gives
pub image_within : (format : Format) (texts : List (List ℕ)) (place length : ℕ) → slice_get (map (line_of format) texts) place ≡ Some (line.Image length) → length ≤ format.image
image_within format [] place length h = cc
image_within format (text ∷ texts) zero length h =
    let same : line_of format text ≡ line.Image length = cc in
    let short : nat_le length format.image ≡ true = sym (ap (is_ranged format.image) same) ∙ line_ranged format text in
    grind (arith, nat_tests)
image_within format (text ∷ texts) (suc place) length h = image_within format texts place length h

-- what each format allows
pub format_limits : (line : List ℕ) (format : Format) → format_named line ≡ Some format → (format.cores ≤ 512) × (format.image ≤ 2 ^ 29)
unfolding format_named
format_limits line format h = by_tests (is_header (codes "1") line) (is_header (codes "2") line) h
  where
    by_tests : (one two : Bool) → cond one (Some format_one) (cond two (Some format_two) None) ≡ Some format → (format.cores ≤ 512) × (format.image ≤ 2 ^ 29)
    by_tests true two h =
        let same : format_one ≡ format = cc in
        subst (λ (format : Format). (format.cores ≤ 512) × (format.image ≤ 2 ^ 29)) same (omega arith, omega arith)
    by_tests false true h =
        let same : format_two ≡ format = cc in
        subst (λ (format : Format). (format.cores ≤ 512) × (format.image ≤ 2 ^ 29)) same (omega arith, omega arith)
    by_tests false false h = cc
