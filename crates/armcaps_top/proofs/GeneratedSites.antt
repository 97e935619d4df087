-- No two sites of a generated image overlap.
use Rattle.std.proofs.Common.{◌≡◌, ℕ, zero, suc, ◌+◌, ◌*◌, ◌/◌, ◌<◌, ◌≤◌, ◌&&◌, nat_le, nat_lt, pos, Bool, true, false, cond, List, [], ◌∷◌, length, map, refl, ap, subst, ◌∙◌, arith, get_or}
use Rattle.std.specs.List.{filter, range_with_len}
use Rattle.std.proofs.lemmas.Bool.Decides.{nat_tests}
use Rattle.armcaps_image.specs.Places.{as_place}
use Rattle.armcaps_alt.specs.Entries.{Features, entry_at, is_selected, selected_of}
use Rattle.armcaps_alt.specs.Patched.{covers}
use Rattle.armcaps_alt.specs.declared.table_entry.Entry.{Entry}
use Rattle.armcaps_alt.specs.declared.table_place.Layout.{Layout}
use Rattle.armcaps_patch.specs.Counting.{words_of_sites}
use Rattle.armcaps_text.specs.Document.{Reading}
use Rattle.armcaps_generate.specs.Alternatives.{Alternative, generated_alternatives}
use Rattle.armcaps_text.specs.Generator.{generated_reading}
use Rattle.armcaps_generate.specs.LargeImage.{generated_image, image_of}
use Rattle.armcaps_generate.proofs.LaidImage.{IsWhole, length-image, whole_drawn}
use Rattle.armcaps_text.proofs.GeneratedEntries.{entry_there}
use Rattle.armcaps_top.specs.Demo.{words_covered}
use Rattle.armcaps_top.proofs.Covered.{AreApart, LiesAt, covered_apart, from_lower}

-- an entry whose site has eight words or fewer, from a word on
record IsWithinEight (from : ℕ) (entry : Entry) : Type 0 where
  words : ℕ
  site : entry.site ≡ pos (4 * from)
  len : entry.orig_len ≡ 4 * words
  few : words ≤ 8

-- the words that a site covers
not_before : (place len from word : ℕ) → place ≡ 4 * from → word < from → (nat_le place (4 * word) && nat_lt (4 * word) (place + len)) ≡ false
not_before place len from word place_is early = grind (arith, nat_tests)

covered : (place len from words word : ℕ) → place ≡ 4 * from → len ≡ 4 * words → from ≤ word → word < from + len / 4 → (nat_le place (4 * word) && nat_lt (4 * word) (place + len)) ≡ true
covered place len from words word place_is len_is start end =
    let low : place ≤ 4 * word = omega arith in
    let high : 4 * word < place + len = omega arith in
    grind (arith, nat_tests)

not_after : (place len from words word : ℕ) → place ≡ 4 * from → len ≡ 4 * words → from + len / 4 ≤ word → (nat_le place (4 * word) && nat_lt (4 * word) (place + len)) ≡ false
not_after place len from words word place_is len_is late =
    let high : place + len ≤ 4 * word = omega arith in
    grind (arith, nat_tests)

abbrev covers_word : ℕ → Entry → Bool
covers_word word entry = covers (4 * word) entry

abbrev word_count : Entry → ℕ
word_count entry = entry.orig_len / 4

lies_at : (size from : ℕ) (entry : Entry) → IsWithinEight from entry → from + 8 ≤ size → LiesAt covers_word word_count size from entry
lies_at size from entry is inside =
    let place : as_place entry.site ≡ 4 * from = ap as_place is.site in
    record {
      within = omega (arith, is.len, is.few);
      before = λ word early. not_before (as_place entry.site) entry.orig_len from word place early;
      inside = λ word start end. covered (as_place entry.site) entry.orig_len from is.words word place is.len start end;
      after = λ word late. not_after (as_place entry.site) entry.orig_len from is.words word place is.len late;
    }

-- one more before others, if it is kept
one_more : (size from : ℕ) (entry : Entry) (others : List Entry) → IsWithinEight from entry → from + 8 ≤ size → AreApart covers_word word_count size (from + 8) others
    → (kept : Bool) → AreApart covers_word word_count size from (cond kept (entry ∷ others) others)
one_more size from entry others is inside apart true =
    (from, omega arith, lies_at size from entry is inside, from_lower covers_word word_count size (from + word_count entry) (from + 8) others (omega (arith, is.len, is.few)) apart)
one_more size from entry others is inside apart false = from_lower covers_word word_count size from (from + 8) others (omega arith) apart

-- entries that lie eight words apart, and those of them that pass a test
rising : (p : Entry → Bool) (entry : ℕ → Entry) (base size start count : ℕ) → ((k : ℕ) → start ≤ k → k < start + count → IsWithinEight (base + 8 * k) (entry k)) → base + 8 * (start + count) ≤ size
    → AreApart covers_word word_count size (base + 8 * start) (filter p (map entry (range_with_len start count)))
rising p entry base size start zero each inside = tt
rising p entry base size start (suc count) each inside =
    let others = filter p (map entry (range_with_len (start + 1) count)) in
    let later : base + 8 * (start + 1) ≡ base + 8 * start + 8 = omega arith in
    let apart = rising p entry base size (start + 1) count (λ k low high. each k (omega (arith, low)) (omega (arith, high))) (omega (arith, inside)) in
    one_more size (base + 8 * start) (entry start) others (each start (omega arith) (omega arith)) (omega (arith, inside))
    (subst (λ (from : ℕ). AreApart covers_word word_count size from others) later apart) (p (entry start))

-- each entry of the table
entry_is : (alternatives : List Alternative) → IsWhole alternatives → (layout : Layout) (index : ℕ) (d : Alternative) → layout.table ≡ 0 → index < 20000 → IsWithinEight (65_536 + 8 * index) (entry_at (image_of alternatives) layout index)
entry_is alternatives is layout index d table within =
    let there = entry_there alternatives is layout table index d within in
    let site : 262_144 + 32 * index ≡ 4 * (65_536 + 8 * index) = omega arith in record {
      words = length (get_or alternatives index d).instructions;
      site = ap (λ (e : Entry). e.site) there ∙ ap pos site;
      len = ap (λ (e : Entry). e.orig_len) there;
      few = omega (arith, (is.each index d (omega (arith, within, is.count))).few);
    }

-- as many words are covered as the sites of selected entries have
sites_apart : (alternatives : List Alternative) → IsWhole alternatives → (layout : Layout) (features : Features) → layout.table ≡ 0 → layout.count ≡ 20000
    → words_covered (image_of alternatives) (selected_of features (image_of alternatives) layout) ≡ words_of_sites (selected_of features (image_of alternatives) layout)
sites_apart alternatives is layout features table count =
    let image : List ℕ = image_of alternatives in
    let d : Alternative = record { number = 0; instructions = [] } in
    let size = length-image alternatives is in
    let apart = rising (is_selected features) (entry_at image layout) 65_536 (length image / 4) 0 layout.count
    (λ k low high. entry_is alternatives is layout k d table (omega (arith, high, count))) (omega (arith, size, count)) in
    covered_apart covers_word word_count (length image / 4) 0 (length image / 4) (selected_of features image layout) (omega arith)
    (from_lower covers_word word_count (length image / 4) 0 _ (selected_of features image layout) (omega arith) apart)

drawn_apart : (seed cores : ℕ) (features : Features)
    → words_covered (generated_image seed cores) (selected_of features (generated_image seed cores) (generated_reading seed cores).layout) ≡ words_of_sites (selected_of features (generated_image seed cores) (generated_reading seed cores).layout)
unfolding generated_image generated_reading
drawn_apart seed cores features =
    sites_apart (generated_alternatives seed cores) (whole_drawn seed cores) (generated_reading seed cores).layout features refl refl

-- of a document that is made from a seed
pub generated_apart : (seed cores : ℕ) (reading : Reading) (image : List ℕ) (features : Features) → reading ≡ generated_reading seed cores → image ≡ generated_image seed cores
    → words_covered image (selected_of features image reading.layout) ≡ words_of_sites (selected_of features image reading.layout)
generated_apart seed cores reading image features reading_is image_is = rw (reading_is, image_is) (drawn_apart seed cores features)
