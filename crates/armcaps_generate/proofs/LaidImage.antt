-- Where the bytes of a generated image lie.
use Rattle.std.proofs.Common.{◌≡◌, ℕ, ◌+◌, ◌-◌, ◌*◌, ◌^◌, ◌<◌, ◌≤◌, List, [], ◌++◌, length, replicate, refl, ap, subst, ◌∙◌, arith, get_or, length-append, lit<}
use Rattle.std.specs.Int.{to_le_bytes, w32}
use Rattle.std.specs.List.{All, enumerate_from, flat_map}
use Rattle.std.proofs.lemmas.List.{get_or-map, length-map, length-replicate}
use Rattle.std.proofs.lemmas.List.FromFn.{get_or-enumerate_from, length-enumerate_from}
use Rattle.std.proofs.lemmas.Nat.{mod_below}
use Rattle.armcaps_generate.specs.Alternatives.{Alternative, alternative_drawn, generated_alternatives}
use Rattle.armcaps_generate.specs.Cores.{others_drawn}
use Rattle.armcaps_generate.specs.Draws.{number_drawn}
use Rattle.armcaps_insn.specs.Encodings.{nop}
use Rattle.armcaps_generate.specs.LargeImage.{entry_bytes, image_of, laid, replacement_bytes, replacement_place, site_bytes, slot, instruction_word, instruction_words, zeros}
use Rattle.armcaps_generate.specs.declared.instruction.Instruction.{Instruction}
use Rattle.armcaps_generate.specs.declared.instruction.Instruction.TheVariants.{Nop}
use Rattle.armcaps_generate.proofs.Drawing.{each_drawn, few_instructions, length-several}
use Rattle.armcaps_generate.proofs.LaidBytes.{HasAt, inside, word_at_place, at_same, in_back, in_front, length-pieces, pieces_at}
use Rattle.armcaps_image.specs.Bytes.{word_in}
use Rattle.armcaps_generate.proofs.DrawnWords.{word_small}

-- what holds of each alternative that is drawn
pub record IsDrawn (alternative : Alternative) : Type 0 where
  pub number : alternative.number < 53
  pub few : length alternative.instructions ≤ 4

pub one_drawn : (state : ℕ) → IsDrawn (alternative_drawn state).value
one_drawn state = record { number = mod_below (number_drawn (number_drawn state).state).value 53 (lit< tt); few = few_instructions state }

pub all_drawn : (seed cores : ℕ) → All IsDrawn (generated_alternatives seed cores)
unfolding generated_alternatives
all_drawn seed cores = each_drawn alternative_drawn IsDrawn one_drawn 20000 (others_drawn seed cores).state

pub count_drawn : (seed cores : ℕ) → length (generated_alternatives seed cores) ≡ 20000
unfolding generated_alternatives
count_drawn seed cores = length-several alternative_drawn 20000 (others_drawn seed cores).state

-- how long the pieces of the image are
pub length-zeros : (count : ℕ) → length (zeros count) ≡ count
unfolding zeros
length-zeros count = length-replicate count 0

pub length-slot : (words : List ℕ) → length words ≤ 8 → length (slot words) ≡ 32
length-slot words few =
    let full = length-pieces (to_le_bytes w32) 4 words 0 (λ j lt. refl) in
    omega (arith, few, full, length-append (flat_map (to_le_bytes w32) words) (zeros (32 - 4 * length words)), length-zeros (32 - 4 * length words))

pub length-words : (place : ℕ) (instructions : List Instruction) → length (instruction_words place instructions) ≡ length instructions
length-words place instructions = length-map (enumerate_from 0 instructions) _ ∙ length-enumerate_from 0 instructions

pub length-entry : (index : ℕ) (alternative : Alternative) → IsDrawn alternative → length (entry_bytes index alternative) ≡ 12
length-entry index alternative drawn = refl

pub length-site : (index : ℕ) (alternative : Alternative) → IsDrawn alternative → length (site_bytes index alternative) ≡ 32
length-site index alternative drawn = length-slot (replicate (length alternative.instructions) nop) (omega (arith, drawn.few, length-replicate (length alternative.instructions) nop))

pub length-replacement : (index : ℕ) (alternative : Alternative) → IsDrawn alternative → length (replacement_bytes index alternative) ≡ 32
length-replacement index alternative drawn = length-slot (instruction_words (replacement_place index) alternative.instructions) (omega (arith, drawn.few, length-words (replacement_place index) alternative.instructions))

-- the bytes of one alternative among those of all
pub laid_at : (bytes : ℕ → Alternative → List ℕ) (size : ℕ) (alternatives : List Alternative) (k : ℕ) (d : Alternative) → ((index : ℕ) (alternative : Alternative) → IsDrawn alternative → length (bytes index alternative) ≡ size) → All IsDrawn alternatives → k < length alternatives → HasAt (laid bytes alternatives) (bytes k (get_or alternatives k d)) (size * k)
laid_at bytes size alternatives k d sizes all within =
    let numbered : List (ℕ × Alternative) = enumerate_from 0 alternatives in
    let many : length numbered ≡ length alternatives = length-enumerate_from 0 alternatives in
    let at : get_or numbered k (0, d) ≡ (0 + k, get_or alternatives k d) = get_or-enumerate_from 0 alternatives k (0, d) within in
    let plain : 0 + k ≡ k = omega arith in
    let here : bytes (get_or numbered k (0, d)).0 (get_or numbered k (0, d)).1 ≡ bytes k (get_or alternatives k d) = ap (λ (e : ℕ × Alternative). bytes e.0 e.1) at ∙ ap (λ (n : ℕ). bytes n (get_or alternatives k d)) plain in
    subst (λ (piece : List ℕ). HasAt (laid bytes alternatives) piece (size * k)) here
    (pieces_at (λ (each : ℕ × Alternative). bytes each.0 each.1) size numbered k (0, d)
    (λ j lt. ap (λ (e : ℕ × Alternative). length (bytes e.0 e.1)) (get_or-enumerate_from 0 alternatives j (0, d) (omega (arith, lt, many))) ∙ sizes (0 + j) (get_or alternatives j d) (all j d (omega (arith, lt, many))))
    (omega (arith, within, many)))

pub length-laid : (bytes : ℕ → Alternative → List ℕ) (size : ℕ) (alternatives : List Alternative) → ((index : ℕ) (alternative : Alternative) → IsDrawn alternative → length (bytes index alternative) ≡ size) → All IsDrawn alternatives → length (laid bytes alternatives) ≡ size * length alternatives
length-laid bytes size alternatives sizes all =
    let d : Alternative = record { number = 0; instructions = [] } in
    let many : length (enumerate_from 0 alternatives) ≡ length alternatives = length-enumerate_from 0 alternatives in
    length-pieces (λ (each : ℕ × Alternative). bytes each.0 each.1) size (enumerate_from 0 alternatives) (0, d)
    (λ j lt. ap (λ (e : ℕ × Alternative). length (bytes e.0 e.1)) (get_or-enumerate_from 0 alternatives j (0, d) (omega (arith, lt, many))) ∙ sizes (0 + j) (get_or alternatives j d) (all j d (omega (arith, lt, many))))
    ∙ ap (λ (n : ℕ). size * n) many

-- a word among the words of instructions
pub words_at : (place : ℕ) (instructions : List Instruction) (j : ℕ) → j < length instructions → get_or (instruction_words place instructions) j 0 ≡ instruction_word (place + 4 * j) (get_or instructions j Nop)
words_at place instructions j within =
    let plain : 0 + j ≡ j = omega arith in
    get_or-map (λ (each : ℕ × Instruction). instruction_word (place + 4 * each.0) each.1) (enumerate_from 0 instructions) j (0, Nop) 0 (omega (arith, within, length-enumerate_from 0 instructions))
    ∙ ap (λ (e : ℕ × Instruction). instruction_word (place + 4 * e.0) e.1) (get_or-enumerate_from 0 instructions j (0, Nop) within)
    ∙ ap (λ (n : ℕ). instruction_word (place + 4 * n) (get_or instructions j Nop)) plain

-- the image of 20,000 alternatives, each of which can be drawn
pub record IsWhole (alternatives : List Alternative) : Type 0 where
  pub each : All IsDrawn alternatives
  pub count : length alternatives ≡ 20000

pub whole_drawn : (seed cores : ℕ) → IsWhole (generated_alternatives seed cores)
whole_drawn seed cores = record { each = all_drawn seed cores; count = count_drawn seed cores }

pub length-image : (alternatives : List Alternative) → IsWhole alternatives → length (image_of alternatives) ≡ 2_097_152
unfolding image_of
length-image alternatives is =
    let table : List ℕ = laid entry_bytes alternatives in
    let sites : List ℕ = laid site_bytes alternatives in
    let replacements : List ℕ = laid replacement_bytes alternatives in
    let first = length-laid entry_bytes 12 alternatives length-entry is.each in
    let second = length-laid site_bytes 32 alternatives length-site is.each in
    let third = length-laid replacement_bytes 32 alternatives length-replacement is.each in
    omega (
      arith,
      is.count,
      first,
      second,
      third,
      length-zeros 22_144,
      length-zeros 146_432,
      length-zeros 408_576,
      length-append table (zeros 22_144),
      length-append (table ++ zeros 22_144) sites,
      length-append (table ++ zeros 22_144 ++ sites) (zeros 146_432),
      length-append (table ++ zeros 22_144 ++ sites ++ zeros 146_432) replacements,
      length-append (table ++ zeros 22_144 ++ sites ++ zeros 146_432 ++ replacements) (zeros 408_576),
    )

pub entry_has : (alternatives : List Alternative) → IsWhole alternatives → (index : ℕ) (d : Alternative) → index < 20000 → HasAt (image_of alternatives) (entry_bytes index (get_or alternatives index d)) (12 * index)
unfolding image_of
entry_has alternatives is index d within =
    let piece : List ℕ = entry_bytes index (get_or alternatives index d) in
    let here = laid_at entry_bytes 12 alternatives index d length-entry is.each (omega (arith, within, is.count)) in
    in_back _ (zeros 408_576) piece (12 * index) (in_back _ (laid replacement_bytes alternatives) piece (12 * index) (in_back _ (zeros 146_432) piece (12 * index)
    (in_back _ (laid site_bytes alternatives) piece (12 * index) (in_back (laid entry_bytes alternatives) (zeros 22_144) piece (12 * index) here))))

pub replacement_has : (alternatives : List Alternative) → IsWhole alternatives → (index : ℕ) (d : Alternative) → index < 20000 → HasAt (image_of alternatives) (replacement_bytes index (get_or alternatives index d)) (1_048_576 + 32 * index)
unfolding image_of
replacement_has alternatives is index d within =
    let piece : List ℕ = replacement_bytes index (get_or alternatives index d) in
    let table : List ℕ = laid entry_bytes alternatives in
    let sites : List ℕ = laid site_bytes alternatives in
    let here = laid_at replacement_bytes 32 alternatives index d length-replacement is.each (omega (arith, within, is.count)) in
    let first = length-laid entry_bytes 12 alternatives length-entry is.each in
    let second = length-laid site_bytes 32 alternatives length-site is.each in
    let place : length (table ++ zeros 22_144 ++ sites ++ zeros 146_432) + 32 * index ≡ 1_048_576 + 32 * index = omega (
      arith,
      is.count,
      first,
      second,
      length-zeros 22_144,
      length-zeros 146_432,
      length-append table (zeros 22_144),
      length-append (table ++ zeros 22_144) sites,
      length-append (table ++ zeros 22_144 ++ sites) (zeros 146_432),
    ) in
    in_back _ (zeros 408_576) piece (1_048_576 + 32 * index)
    (at_same _ piece _ _ place (in_front (table ++ zeros 22_144 ++ sites ++ zeros 146_432) (laid replacement_bytes alternatives) piece (32 * index) here))

-- a word of a slot
pub slot_has : (words : List ℕ) (j : ℕ) → j < length words → HasAt (slot words) (to_le_bytes w32 (get_or words j 0)) (4 * j)
slot_has words j within = in_back (flat_map (to_le_bytes w32) words) (zeros (32 - 4 * length words)) (to_le_bytes w32 (get_or words j 0)) (4 * j) (pieces_at (to_le_bytes w32) 4 words j 0 (λ k lt. refl) within)

-- what stands in the image at a word of a replacement
pub word_there : (alternatives : List Alternative) → IsWhole alternatives → (index j : ℕ) (d : Alternative) → index < 20000 → j < length (get_or alternatives index d).instructions → word_in (image_of alternatives) (1_048_576 + 32 * index + 4 * j) ≡ instruction_word (1_048_576 + 32 * index + 4 * j) (get_or (get_or alternatives index d).instructions j Nop)
word_there alternatives is index j d within inner =
    let instructions : List Instruction = (get_or alternatives index d).instructions in
    let place : ℕ = 1_048_576 + 32 * index in
    let drawn = is.each index d (omega (arith, within, is.count)) in
    let words : List ℕ = instruction_words place instructions in
    let at : get_or words j 0 ≡ instruction_word (place + 4 * j) (get_or instructions j Nop) = words_at place instructions j inner in
    let small : instruction_word (place + 4 * j) (get_or instructions j Nop) < 2 ^ 32 = word_small (get_or instructions j Nop) (place + 4 * j) (omega arith) (omega (arith, within, inner, drawn.few)) in
    let has = inside (image_of alternatives) (slot words) (to_le_bytes w32 (get_or words j 0)) place (4 * j) (replacement_has alternatives is index d within) (slot_has words j (omega (arith, inner, length-words place instructions))) in
    word_at_place (image_of alternatives) (instruction_word (place + 4 * j) (get_or instructions j Nop)) (place + 4 * j) small
    (subst (λ (n : ℕ). HasAt (image_of alternatives) (to_le_bytes w32 n) (place + 4 * j)) at has)
