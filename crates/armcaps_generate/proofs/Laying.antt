-- The bytes of alternatives, one more at a time.
use Rattle.std.proofs.Common.{◌≡◌, ℕ, suc, ◌+◌, ◌*◌, ◌<◌, List, [], ◌∷◌, ◌++◌, length, map, sym, ap, ◌∙◌, arith, take, get_or}
use Rattle.std.specs.List.{enumerate_from, flat_map}
use Rattle.std.proofs.lemmas.List.{flat_map_more, length-map, length-take-le, map_push, take_more}
use Rattle.std.proofs.lemmas.List.FromFn.{length-enumerate_from}
use Rattle.armcaps_generate.specs.Alternatives.{Alternative}
use Rattle.armcaps_generate.specs.LargeImage.{laid, instruction_word, instruction_words}
use Rattle.armcaps_generate.specs.declared.instruction.Instruction.{Instruction}

enumerate-push : {X : Type 0} (n : ℕ) (xs : List X) (y : X) → enumerate_from n (xs ++ y ∷ []) ≡ enumerate_from n xs ++ (n + length xs, y) ∷ []
enumerate-push n [] y = let same : n ≡ n + 0 = omega arith in ap (λ (m : ℕ). (m, y) ∷ []) same
enumerate-push n (x ∷ xs) y =
    let same : n + 1 + length xs ≡ n + suc (length xs) = omega arith in
    ap (λ (es : _). (n, x) ∷ es) (enumerate-push (n + 1) xs y ∙ ap (λ (m : ℕ). enumerate_from (n + 1) xs ++ (m, y) ∷ []) same)

enumerate-more : {X : Type 0} (xs : List X) (index : ℕ) (d : X) → index < length xs → enumerate_from 0 (take (index + 1) xs) ≡ enumerate_from 0 (take index xs) ++ (index, get_or xs index d) ∷ []
enumerate-more {X} xs index d within =
    let size : 0 + length (take index xs) ≡ index = omega (arith, length-take-le index xs) in
    ap (λ (ys : List X). enumerate_from 0 ys) (take_more xs index d within) ∙ enumerate-push 0 (take index xs) (get_or xs index d)
    ∙ ap (λ (m : ℕ). enumerate_from 0 (take index xs) ++ (m, get_or xs index d) ∷ []) size

-- one more alternative
pub laid-more : (bytes : ℕ → Alternative → List ℕ) (alternatives : List Alternative) (index : ℕ) (d : Alternative) (image now : List ℕ) → index < length alternatives → now ≡ image ++ laid bytes (take index alternatives) → now ++ bytes index (get_or alternatives index d) ≡ image ++ laid bytes (take (index + 1) alternatives)
laid-more bytes alternatives index d image now within so_far =
    ap (λ (old : List ℕ). old ++ bytes index (get_or alternatives index d)) so_far
    ∙ flat_map_more (λ (each : ℕ × Alternative). bytes each.0 each.1) image (enumerate_from 0 (take index alternatives)) (index, get_or alternatives index d)
    ∙ ap (λ (es : List (ℕ × Alternative)). image ++ flat_map (λ each. bytes each.0 each.1) es) (sym (enumerate-more alternatives index d within))

-- one more word
pub words-more : (place : ℕ) (instructions : List Instruction) (index : ℕ) (d : Instruction) (now : List ℕ) → index < length instructions → now ≡ instruction_words place (take index instructions) → now ++ instruction_word (place + 4 * index) (get_or instructions index d) ∷ [] ≡ instruction_words place (take (index + 1) instructions)
words-more place instructions index d now within so_far =
    ap (λ (old : List ℕ). old ++ instruction_word (place + 4 * index) (get_or instructions index d) ∷ []) so_far
    ∙ sym (map_push (λ (each : ℕ × Instruction). instruction_word (place + 4 * each.0) each.1) (enumerate_from 0 (take index instructions)) (index, get_or instructions index d))
    ∙ ap (λ (es : List (ℕ × Instruction)). map (λ each. instruction_word (place + 4 * each.0) each.1) es) (sym (enumerate-more instructions index d within))

pub length-words : (place : ℕ) (instructions : List Instruction) → length (instruction_words place instructions) ≡ length instructions
length-words place instructions = length-map (enumerate_from 0 instructions) _ ∙ length-enumerate_from 0 instructions
