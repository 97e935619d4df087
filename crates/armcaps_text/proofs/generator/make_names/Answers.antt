use Rattle.std.proofs.Common.{◌≡◌, ℕ, ◌+◌, ◌<◌, List, [], ◌∷◌, ◌++◌, length, map, refl, sym, ap, subst, ◌∙◌, arith, get_or}
use Rattle.std.specs.List.{All, range_with_len, slice_index}
use Rattle.std.specs.List.Sorted.{IsStrictlyIncreasing}
use Rattle.std.proofs.lemmas.List.FromFn.{get_or-map-range_with_len, get_or-range_with_len, length-range_with_len, length-map-range_with_len, map-range_with_len_more}
use Rattle.armcaps_alt.specs.Names.{IsKnown}
use Rattle.armcaps_alt.specs.declared.named_number.Named.{Named}
use Rattle.armcaps_alt.specs.declared.named_number.Named.TheVariants.{Cap}
use Rattle.armcaps_text.proofs.generator.make_names.Goals as goal

abbrev named : ℕ → ℕ × Named
named number = (number, Cap number)

numbers_of : (numbers : List ℕ) → map (λ (e : ℕ × Named). e.0) (map named numbers) ≡ numbers
numbers_of [] = refl
numbers_of (number ∷ numbers) = ap (λ (ns : List ℕ). number ∷ ns) (numbers_of numbers)

rise : (items : List (ℕ × Named)) (count : ℕ) → items ≡ map named (range_with_len 0 count) → IsStrictlyIncreasing (map (λ (e : ℕ × Named). e.0) items)
rise items count is k within =
    let same : map (λ (e : ℕ × Named). e.0) items ≡ range_with_len 0 count = ap (map (λ (e : ℕ × Named). e.0)) is ∙ numbers_of (range_with_len 0 count) in
    let few : k + 1 < count = omega (arith, within, ap length same, length-range_with_len 0 count) in
    omega (arith, ap (λ (ns : List ℕ). slice_index ns k) same, ap (λ (ns : List ℕ). slice_index ns (k + 1)) same, get_or-range_with_len 0 count k 0 (omega arith), get_or-range_with_len 0 count (k + 1) 0 few)

known : (items : List (ℕ × Named)) (count : ℕ) → count ≡ 53 → items ≡ map named (range_with_len 0 count) → All (λ e. IsKnown e.1) items
known items count all is k d within =
    let few : k < count = omega (arith, within, ap length is, length-map-range_with_len named 0 count) in
    let here : get_or items k d ≡ named k = ap (λ (es : List (ℕ × Named)). get_or es k d) is ∙ get_or-map-range_with_len named 0 count k k d few (omega arith) in
    subst (λ (e : ℕ × Named). IsKnown e.1) (sym here) (omega arith)

pub loop-number-preserved : goal.loop-number-preserved
loop-number-preserved c =
    c.in_ok-push.ensures.items ∙ ap (λ (numbers : List (ℕ × Named)). numbers ++ named c.loop-number.number ∷ []) c.loop-number.invariant
    ∙ sym (map-range_with_len_more named 0 c.loop-number.number c.loop-number.number (omega arith))

pub new-requires-2-clause-numbers_rise : goal.new-requires-2-clause-numbers_rise
new-requires-2-clause-numbers_rise c = rise c.loop-number.numbers.items c.loop-number.number c.loop-number.invariant

pub new-requires-2-clause-known : goal.new-requires-2-clause-known
new-requires-2-clause-known c = known c.loop-number.numbers.items c.loop-number.number (omega arith) c.loop-number.invariant
