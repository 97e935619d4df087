-- No entry of a generated image is refused.
use Rattle.std.proofs.Common.{◌≡◌, ℕ, zero, suc, ◌+◌, ◌-◌, ◌*◌, ◌/◌, ◌%◌, ◌^◌, ◌<◌, ◌≤◌, ◌==◌, ◌&&◌, ◌||◌, not, nat_le, ℤ, pos, ◌+ℤ◌, ◌-ℤ◌, Bool, true, false, cond, List, [], ◌∷◌, ◌++◌, length, map, find, drop, Option, Some, None, option_map, Result, Ok, Ok, refl, ap, subst, ◌∙◌, arith, get_or}
use Rattle.std.specs.Int.{to_le_bytes, w16, w32}
use Rattle.std.specs.List.{list_any, range_with_len}
use Rattle.std.specs.Ordering.{int_eq}
use Rattle.std.proofs.lemmas.Bool.{eqb-true}
use Rattle.std.proofs.lemmas.Bool.Decides.{nat_tests}
use Rattle.std.proofs.lemmas.Int.{ints}
use Rattle.armcaps_image.specs.Bytes.{half_in, signed_in, word_in}
use Rattle.armcaps_image.specs.Places.{is_aligned, is_within}
use Rattle.armcaps_alt.specs.Entries.{Features, entry_at, entry_from}
use Rattle.armcaps_alt.specs.Names.{NameLists, number_named}
use Rattle.armcaps_alt.specs.Refusals.{first_kind, first_refusal, first_refusal_from, is_literal, is_out_of_range, refusal_by, refusal_of}
use Rattle.armcaps_alt.specs.Words.{replacement_word}
use Rattle.armcaps_alt.specs.declared.named_number.Named.{Named}
use Rattle.armcaps_alt.specs.declared.named_number.Named.TheVariants.{Cap}
use Rattle.armcaps_alt.specs.declared.patch_kind.PatchKind.TheVariants as kind
use Rattle.armcaps_alt.specs.declared.table_entry.Entry.{Entry}
use Rattle.armcaps_alt.specs.declared.table_place.Layout.{Layout}
use Rattle.armcaps_insn.specs.declared.correction.FixRefused.{FixRefused}
use Rattle.armcaps_insn.specs.Moved.{corrected}
use Rattle.armcaps_generate.specs.Alternatives.{Alternative, generated_alternatives}
use Rattle.armcaps_text.specs.Generator.{generated_names, generated_reading}
use Rattle.armcaps_generate.specs.LargeImage.{entry_bytes, generated_image, image_of}
use Rattle.armcaps_generate.specs.declared.instruction.Instruction.TheVariants.{Nop}
use Rattle.armcaps_generate.proofs.LaidBytes.{dropped}
use Rattle.armcaps_generate.proofs.LaidImage.{word_there, IsDrawn, IsWhole, entry_has, length-image, whole_drawn}
use Rattle.armcaps_generate.proofs.MovedWords.{IsCorrected}
use Rattle.armcaps_generate.proofs.DrawnWords.{word_moves}

-- a number below 2 ^ 31 as one in two's complement
signed_read : (bytes : List ℕ) (place number : ℕ) → word_in bytes place ≡ number → number < 2 ^ 31 → signed_in bytes place ≡ pos number
signed_read bytes place number h small = by_sign (nat_le (2 ^ 31) (word_in bytes place)) refl
  where
    by_sign : (high : Bool) → nat_le (2 ^ 31) (word_in bytes place) ≡ high → cond high (pos (word_in bytes place) -ℤ pos (2 ^ 32)) (pos (word_in bytes place)) ≡ pos number
    by_sign true e = absurd (let low : nat_le (2 ^ 31) number ≡ true = subst (λ (n : ℕ). nat_le (2 ^ 31) n ≡ true) h e in grind (arith, nat_tests))
    by_sign false e = ap pos h

-- the parts of an entry, read from its bytes
entry_read : (site replacement number size place : ℕ) (after : List ℕ) → site < 2 ^ 31 → replacement < 2 ^ 31 → number < 2 ^ 15
    → entry_from (to_le_bytes w32 site ++ to_le_bytes w32 replacement ++ to_le_bytes w16 number ++ size ∷ size ∷ [] ++ after) place
    ≡ record { site = pos (place + site); repl = pos (place + 4 + replacement); number = number; callback = false; orig_len = size; alt_len = size }
entry_read site replacement number size place after few_site few_replacement few_number =
    let bytes : List ℕ = to_le_bytes w32 site ++ to_le_bytes w32 replacement ++ to_le_bytes w16 number ++ size ∷ size ∷ [] ++ after in
    let first : word_in bytes 0 ≡ site = omega arith in
    let second : word_in bytes 4 ≡ replacement = omega arith in
    let half : half_in bytes 8 ≡ number = omega arith in
    let site_is : pos place +ℤ signed_in bytes 0 ≡ pos (place + site) = ap (λ (z : ℤ). pos place +ℤ z) (signed_read bytes 0 site first few_site) ∙ omega (arith, ints) in
    let replacement_is : pos (place + 4) +ℤ signed_in bytes 4 ≡ pos (place + 4 + replacement) = ap (λ (z : ℤ). pos (place + 4) +ℤ z) (signed_read bytes 4 replacement second few_replacement) ∙ omega (arith, ints) in
    let number_is : half_in bytes 8 % 2 ^ 15 ≡ number = omega (arith, half) in
    let no_callback : nat_le (2 ^ 15) (half_in bytes 8) ≡ false = (let low : nat_le (2 ^ 15) number ≡ false = grind (arith, nat_tests) in ap (nat_le (2 ^ 15)) half ∙ low) in
    λ i. record { site = site_is i; repl = replacement_is i; number = number_is i; callback = no_callback i; orig_len = size; alt_len = size }

-- the entry of an alternative
abbrev pub entry_of : ℕ → Alternative → Entry
entry_of index alternative = record {
  site = pos (262_144 + 32 * index);
  repl = pos (1_048_576 + 32 * index);
  number = alternative.number;
  callback = false;
  orig_len = 4 * length alternative.instructions;
  alt_len = 4 * length alternative.instructions;
}

pub entry_there : (alternatives : List Alternative) → IsWhole alternatives → (layout : Layout) → layout.table ≡ 0 → (index : ℕ) (d : Alternative) → index < 20000 → entry_at (image_of alternatives) layout index ≡ entry_of index (get_or alternatives index d)
entry_there alternatives is layout first index d within =
    let one : Alternative = get_or alternatives index d in
    let drawn = is.each index d (omega (arith, within, is.count)) in
    let place : layout.table + 12 * index ≡ 12 * index = omega (arith, first) in
    let has = entry_has alternatives is index d within in
    let site : 12 * index + (262_144 + 32 * index - 12 * index) ≡ 262_144 + 32 * index = omega arith in
    let replacement : 12 * index + 4 + (1_048_576 + 32 * index - (12 * index + 4)) ≡ 1_048_576 + 32 * index = omega arith in
    ap (λ (n : ℕ). entry_from (drop n (image_of alternatives)) n) place
    ∙ ap (λ (bytes : List ℕ). entry_from bytes (12 * index)) (dropped (image_of alternatives) (entry_bytes index one) (12 * index) has)
    ∙ entry_read (262_144 + 32 * index - 12 * index) (1_048_576 + 32 * index - (12 * index + 4)) one.number (4 * length one.instructions) (12 * index) has.after (omega (arith, within)) (omega (arith, within)) (omega (arith, drawn.number))
    ∙ (λ i. record { site = pos (site i); repl = pos (replacement i); number = one.number; callback = false; orig_len = 4 * length one.instructions; alt_len = 4 * length one.instructions })

-- a list of words that can all move has none that is refused
none_refused_of : (test : Result ℕ FixRefused → Bool) (words : ℕ → Result ℕ FixRefused) → ((word : ℕ) → test (Ok word) ≡ false) → (start count : ℕ) → ((k : ℕ) → start ≤ k → k < start + count → IsCorrected (words k))
    → list_any test (map words (range_with_len start count)) ≡ false
none_refused_of test words passes start zero h = refl
none_refused_of test words passes start (suc count) h =
    let first = h start (omega arith) (omega arith) in
    let here : test (words start) ≡ false = ap test first.1 ∙ passes first.0 in
    rw here (none_refused_of test words passes (start + 1) count (λ k low high. h k (omega (arith, low)) (omega (arith, high))))

words_move : (alternatives : List Alternative) → IsWhole alternatives → (index : ℕ) (d : Alternative) → index < 20000 → (k : ℕ) → 0 ≤ k → k < 0 + 4 * length (get_or alternatives index d).instructions / 4 → IsCorrected (replacement_word (image_of alternatives) (entry_of index (get_or alternatives index d)) k)
words_move alternatives is index d within k low high =
    let one : Alternative = get_or alternatives index d in
    let drawn = is.each index d (omega (arith, within, is.count)) in
    let from : ℕ = 1_048_576 + 32 * index in
    let inner : k < length one.instructions = omega (arith, high) in
    let there = word_there alternatives is index k d within inner in
    let moves = word_moves (get_or one.instructions k Nop) (from + 4 * k) (262_144 + 32 * index + 4 * k) from (from + 4 * length one.instructions) (omega arith) (omega arith) (omega (arith, within, inner, drawn.few)) (omega (arith, within, inner, drawn.few)) in
    (moves.0, ap (λ (word : ℕ). corrected word (from + 4 * k) (262_144 + 32 * index + 4 * k) from (from + 4 * length one.instructions)) there ∙ moves.1)

-- the number of a generated entry is named
find_named : (number start count : ℕ) → start ≤ number → number < start + count → find (λ (e : ℕ × Named). e.0 == number) (map (λ n. (n, Cap n)) (range_with_len start count)) ≡ Some (number, Cap number)
find_named number start zero low high = absurd (omega arith)
find_named number start (suc count) low high = by_first (start == number) refl (λ later. find_named number (start + 1) count later (omega (arith, high)))
  where
    by_first : (same : Bool) → (start == number) ≡ same → (start + 1 ≤ number → find (λ (e : ℕ × Named). e.0 == number) (map (λ n. (n, Cap n)) (range_with_len (start + 1) count)) ≡ Some (number, Cap number))
        → cond same (Some (start, Cap start)) (find (λ (e : ℕ × Named). e.0 == number) (map (λ n. (n, Cap n)) (range_with_len (start + 1) count))) ≡ Some (number, Cap number)
    by_first true e more = let equal : start ≡ number = eqb-true start number e in ap (λ (n : ℕ). Some (n, Cap n)) equal
    by_first false e more = more (grind (arith, nat_tests))

is_named : (names : NameLists) (number : ℕ) → names ≡ generated_names → number < 53 → number_named names number ≡ Some (Cap number)
is_named names number same small = ap (λ (names : NameLists). number_named names number) same ∙ ap (option_map (λ (e : ℕ × Named). e.1)) (find_named number 0 53 (omega arith) (omega (arith, small)))

-- places and lengths are multiples of four, and within the image
aligned : (n : ℕ) → n % 4 ≡ 0 → is_aligned (pos n) ≡ true
aligned n h = ap (λ (n : ℕ). int_eq (pos n) (pos 0)) h

unaligned_none : (a b c : Bool) → a ≡ true → b ≡ true → c ≡ true → (not a || (not b || (true && not c))) ≡ false
unaligned_none true true true h k l = refl
unaligned_none false b c h k l = cc
unaligned_none true false c h k l = cc
unaligned_none true true false h k l = cc

not_within : (size place len : ℕ) → place + len ≤ size → not (is_within size (pos place) len) ≡ false
not_within size place len h = let there : nat_le (place + len) size ≡ true = grind (arith, nat_tests) in ap not there

same_length : (n : ℕ) → not (n == n) ≡ false
same_length n = let same : (n == n) ≡ true = grind (arith, nat_tests) in ap not same

-- where no test holds there is no kind
none_holds : (a b c d g h : Bool) → a ≡ false → b ≡ false → c ≡ false → d ≡ false → g ≡ false → h ≡ false
    → first_kind (record { kind = kind.Unaligned; holds = a } ∷ record { kind = kind.SiteOutside; holds = b } ∷ record { kind = kind.Length; holds = c } ∷ record { kind = kind.ReplacementOutside; holds = d }
    ∷ record { kind = kind.UnknownCallback; holds = false } ∷ record { kind = kind.CallbackLength; holds = false } ∷ record { kind = kind.Literal; holds = g } ∷ record { kind = kind.Range; holds = h } ∷ []) ≡ None
none_holds a b c d g h a_is b_is c_is d_is g_is h_is = rw (a_is, b_is, c_is, d_is, g_is, h_is) refl

-- an entry is not refused
entry_stands : (alternatives : List Alternative) → IsWhole alternatives → (features : Features) → features.names ≡ generated_names → (index : ℕ) (d : Alternative) → index < 20000 → refusal_of features (image_of alternatives) (entry_of index (get_or alternatives index d)) ≡ None
entry_stands alternatives is features named index d within =
    ap (λ (selected : Option Bool). refusal_by selected features.names (image_of alternatives) (entry_of index one)) (ap (option_map _) (is_named features.names one.number named drawn.number))
    ∙ by_selection (features.enabled one.number)
  where
    one : Alternative
    one = get_or alternatives index d

    drawn : IsDrawn one
    drawn = is.each index d (omega (arith, within, is.count))

    size : length (image_of alternatives) ≡ 2_097_152
    size = length-image alternatives is

    by_selection : (selected : Bool) → refusal_by (Some selected) features.names (image_of alternatives) (entry_of index one) ≡ None
    by_selection false = refl
    by_selection true =
        none_holds _ _ _ _ _ _
        (unaligned_none _ _ _ (aligned (262_144 + 32 * index) (omega arith)) (aligned (4 * length one.instructions) (omega arith)) (aligned (1_048_576 + 32 * index) (omega arith)))
        (not_within (length (image_of alternatives)) (262_144 + 32 * index) (4 * length one.instructions) (omega (arith, size, within, drawn.few)))
        (same_length (4 * length one.instructions))
        (not_within (length (image_of alternatives)) (1_048_576 + 32 * index) (4 * length one.instructions) (omega (arith, size, within, drawn.few)))
        (none_refused_of is_literal (replacement_word (image_of alternatives) (entry_of index one)) (λ word. refl) 0 (4 * length one.instructions / 4) (words_move alternatives is index d within))
        (none_refused_of is_out_of_range (replacement_word (image_of alternatives) (entry_of index one)) (λ word. refl) 0 (4 * length one.instructions / 4) (words_move alternatives is index d within))

-- no entry is
none_of : (features : Features) (image : List ℕ) (layout : Layout) (number start count : ℕ) → ((k : ℕ) → start ≤ k → k < start + count → refusal_of features image (entry_at image layout k) ≡ None) → first_refusal_from number features image (map (entry_at image layout) (range_with_len start count)) ≡ None
none_of features image layout number start zero h = refl
none_of features image layout number start (suc count) h =
    rw (h start (omega arith) (omega arith)) (none_of features image layout (number + 1) (start + 1) count (λ k low high. h k (omega (arith, low)) (omega (arith, high))))

first_none : (alternatives : List Alternative) → IsWhole alternatives → (features : Features) (layout : Layout) → features.names ≡ generated_names → layout.table ≡ 0 → layout.count ≡ 20000 → first_refusal features (image_of alternatives) layout ≡ None
first_none alternatives is features layout named first count =
    let d : Alternative = record { number = 0; instructions = [] } in
    none_of features (image_of alternatives) layout 0 0 layout.count (λ k low high.
    let within : k < 20000 = omega (arith, high, count) in
    ap (refusal_of features (image_of alternatives)) (entry_there alternatives is layout first k d within) ∙ entry_stands alternatives is features named k d within)

-- of the image that is generated from a seed
pub none_refused : (seed cores : ℕ) (features : Features) → features.names ≡ (generated_reading seed cores).names → first_refusal features (generated_image seed cores) (generated_reading seed cores).layout ≡ None
unfolding generated_image generated_reading
none_refused seed cores features named = first_none (generated_alternatives seed cores) (whole_drawn seed cores) features _ named refl refl

-- and it has as many bytes as its reading says
pub length-generated : (seed cores : ℕ) → length (generated_image seed cores) ≡ (generated_reading seed cores).image
unfolding generated_image generated_reading
length-generated seed cores = length-image (generated_alternatives seed cores) (whole_drawn seed cores)
