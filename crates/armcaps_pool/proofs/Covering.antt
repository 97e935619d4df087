-- Entries that are judged one before the other: what their sites cover, and the first wrong byte.
use Rattle.std.proofs.Common.{◌≡◌, ℕ, zero, suc, ◌+◌, ◌-◌, ◌*◌, ◌/◌, ◌%◌, ◌<◌, ◌≤◌, ◌==◌, ◌&&◌, ◌||◌, Bool, true, false, not, cond, nat_le, nat_lt, List, [], ◌∷◌, Option, None, Some, filter, is_some, length, map, get_or, refl, sym, ap, subst, ◌∙◌, min, arith, zero-add}
use Rattle.std.specs.List.{All, range_with_len}
use Rattle.std.specs.Option.{option_map_or, option_or}
use Rattle.std.proofs.lemmas.Bool.Decides.{nat_tests}
use Rattle.std.proofs.lemmas.List.FromFn.{get_or-map-range_with_len}
use Rattle.std.proofs.Math.Bool.{or-false}
use Rattle.armcaps_image.specs.Last.{last_that}
use Rattle.armcaps_image.specs.Places.{as_place}
use Rattle.armcaps_image.proofs.Last.{last_that-none, last_that-same}
use Rattle.armcaps_alt.specs.declared.table_entry.Entry.{Entry}
use Rattle.armcaps_alt.specs.declared.table_place.Layout.{Layout}
use Rattle.armcaps_alt.specs.Accepted.{IsAccepted}
use Rattle.armcaps_alt.specs.Entries.{Features, entry_at, is_selected, selected_of}
use Rattle.armcaps_alt.specs.Patched.{covers, new_byte, patched_byte, patched_image}
use Rattle.armcaps_pool.specs.Audits.{differs_at}
use Rattle.armcaps_pool.specs.Judging.{AreJudged, IsFirst, IsJudged, is_among, is_changed, is_marked, is_other, is_wrong, is_wrong_by, last_of, with_entry}
use Rattle.armcaps_pool.proofs.Bytes.{first_either, first_none}

-- tests of places and of words
le_word : (site place : ℕ) → site % 4 ≡ 0 → nat_le site (4 * (place / 4)) ≡ nat_le site place
le_word site place aligned = grind (arith, nat_tests)

lt_word : (end place : ℕ) → end % 4 ≡ 0 → nat_lt (4 * (place / 4)) end ≡ nat_lt place end
lt_word end place aligned = grind (arith, nat_tests)

le_words : (site place : ℕ) → site % 4 ≡ 0 → nat_le site place ≡ nat_le (site / 4) (place / 4)
le_words site place aligned = grind (arith, nat_tests)

lt_words : (site len place : ℕ) → site % 4 ≡ 0 → len % 4 ≡ 0
    → nat_lt place (site + len) ≡ nat_lt (place / 4) (site / 4 + len / 4)
lt_words site len place aligned words = grind (arith, nat_tests)

-- an accepted entry covers whole words
covers_word : (entry : Entry) (place : ℕ) → as_place entry.site % 4 ≡ 0 → entry.orig_len % 4 ≡ 0
    → covers (4 * (place / 4)) entry ≡ covers place entry
covers_word entry place aligned words =
    ap (λ b. b && nat_lt (4 * (place / 4)) (as_place entry.site + entry.orig_len)) (le_word (as_place entry.site) place aligned)
    ∙ ap (λ b. nat_le (as_place entry.site) place && b)
    (lt_word (as_place entry.site + entry.orig_len) place (omega arith))

covers_among : (entry : Entry) (place : ℕ) → as_place entry.site % 4 ≡ 0 → entry.orig_len % 4 ≡ 0
    → covers place entry ≡ is_among entry (entry.orig_len / 4) (place / 4)
covers_among entry place aligned words =
    ap (λ b. b && nat_lt place (as_place entry.site + entry.orig_len)) (le_words (as_place entry.site) place aligned)
    ∙ ap (λ b. nat_le (as_place entry.site / 4) (place / 4) && b)
    (lt_words (as_place entry.site) entry.orig_len place aligned words)

-- the last of some entries that covers a place covers its word
last_word : (features : Features) (image : List ℕ) (entries : List Entry) (place : ℕ)
    → All (IsAccepted features.names image) entries
    → last_that (covers (4 * (place / 4))) entries ≡ last_that (covers place) entries
last_word features image entries place accepted =
    last_that-same (covers (4 * (place / 4))) (covers place) entries (λ k d within.
    covers_word (get_or entries k d) place (accepted k d within).aligned (accepted k d within).words)

-- one entry before others
some_or : {X : Type 0} (later : Option X) (here : Bool) (x : X)
    → is_some (option_or later (cond here (Some x) None)) ≡ (is_some later || here)
some_or None true x = refl
some_or None false x = refl
some_or (Some y) true x = refl
some_or (Some y) false x = refl

wrong_or : (later : Option Entry) (here marked : Bool) (entry : Entry) (wrong : Entry → Bool) → marked ≡ is_some later
    → option_map_or wrong (option_or later (cond here (Some entry) None)) false
    ≡ (option_map_or wrong later false || (here && (not marked && wrong entry)))
wrong_or None true true entry wrong is = cc
wrong_or None true false entry wrong is = refl
wrong_or None false marked entry wrong is = refl
wrong_or (Some y) here false entry wrong is = cc
wrong_or (Some y) here true entry wrong is = sym (or_nothing (wrong y) here) where
  or_nothing : (a b : Bool) → (a || (b && false)) ≡ a
  or_nothing a true = or-false a
  or_nothing a false = or-false a

all_cons : (P : Entry → Type 0) (entry : Entry) (entries : List Entry) → P entry → All P entries → All P (entry ∷ entries)
all_cons P entry entries here all zero d within = here
all_cons P entry entries here all (suc k) d within = all k d (omega arith)

pub judged_before : (features : Features) (image patched : List ℕ) (entries : List Entry) (old : List ℕ) (first : ℕ)
    (entry : Entry) (marks : List ℕ) (place : ℕ)
    → AreJudged features image patched entries old first → IsAccepted features.names image entry
    → IsJudged features image patched old entry (entry.orig_len / 4) marks place
    → AreJudged features image patched (entry ∷ entries) marks (min first place)
judged_before features image patched entries old first entry marks place judged accepted site = record {
  accepted = all_cons (IsAccepted features.names image) entry entries accepted judged.accepted;
  marked = λ number.
      (let word : 4 * number / 4 ≡ number = omega arith in
      site.marked number
      ∙ ap (λ b. b || is_among entry (entry.orig_len / 4) number) (judged.marked number)
      ∙ ap (λ b. is_some (last_that (covers (4 * number)) entries) || b)
      (sym (covers_among entry (4 * number) accepted.aligned accepted.words ∙ ap (is_among entry (entry.orig_len / 4)) word))
      ∙ sym (some_or (last_that (covers (4 * number)) entries) (covers (4 * number) entry) entry));
  first = first_either (is_wrong features image patched entries)
      (λ p. is_among entry (entry.orig_len / 4) (p / 4) && is_wrong_by features image patched old entry p)
      (is_wrong features image patched (entry ∷ entries)) (length image) first place judged.first site.first
      (λ p inside.
      wrong_or (last_that (covers p) entries) (covers p entry) (is_marked old (p / 4)) entry
      (λ e. is_other features image patched e p)
      (judged.marked (p / 4) ∙ ap is_some (last_word features image entries p judged.accepted))
      ∙ ap (λ b. is_wrong features image patched entries p || (b && is_wrong_by features image patched old entry p))
      (covers_among entry p accepted.aligned accepted.words));
}

-- no entry is judged yet
pub judged_nothing : (features : Features) (image patched marks : List ℕ)
    → ((number : ℕ) → is_marked marks number ≡ false)
    → AreJudged features image patched [] marks (length image)
judged_nothing features image patched marks none = record {
  accepted = λ k d within. absurd (omega arith);
  marked = none;
  first = first_none (is_wrong features image patched []) (length image) (λ k inside. refl);
}

-- one entry more, from the last to the first
pub one_before : (features : Features) (image : List ℕ) (layout : Layout) (done : ℕ) → done < layout.count
    → with_entry features (entry_at image layout (layout.count - 1 - done)) (last_of features image layout done)
    ≡ last_of features image layout (done + 1)
one_before features image layout done within =
    let begin : layout.count - (done + 1) ≡ layout.count - 1 - done = omega arith in
    let next : layout.count - 1 - done + 1 ≡ layout.count - done = omega arith in
    let more : done + 1 ≡ suc done = omega arith in
    ap (λ n. with_entry features (entry_at image layout (layout.count - 1 - done))
    (filter (is_selected features) (map (entry_at image layout) (range_with_len n done)))) (sym next)
    ∙ ap (λ n. filter (is_selected features) (map (entry_at image layout) (range_with_len (layout.count - 1 - done) n))) (sym more)
    ∙ ap (λ n. filter (is_selected features) (map (entry_at image layout) (range_with_len n (done + 1)))) (sym begin)

-- all entries
pub last_all : (features : Features) (image : List ℕ) (layout : Layout)
    → last_of features image layout layout.count ≡ selected_of features image layout
last_all features image layout =
    let begin : layout.count - layout.count ≡ 0 = omega arith in
    ap (λ n. filter (is_selected features) (map (entry_at image layout) (range_with_len n layout.count))) begin

-- the words behind the last whole one are covered by no entry
tail_uncovered : (entry : Entry) (size : ℕ) → as_place entry.site % 4 ≡ 0 → entry.orig_len % 4 ≡ 0
    → as_place entry.site + entry.orig_len ≤ size → covers (4 * (size / 4)) entry ≡ false
tail_uncovered entry size aligned words within = grind (arith, nat_tests)

pub tail_unmarked : (features : Features) (image patched : List ℕ) (entries : List Entry) (marks : List ℕ) (first : ℕ)
    → AreJudged features image patched entries marks first → is_marked marks (length image / 4) ≡ false
tail_unmarked features image patched entries marks first judged =
    judged.marked (length image / 4)
    ∙ ap is_some (last_that-none (covers (4 * (length image / 4))) entries (λ k d within.
    tail_uncovered (get_or entries k d) (length image) (judged.accepted k d within).aligned (judged.accepted k d within).words
    (judged.accepted k d within).within))

-- all bytes: those of the words that are marked, and those of the others
byte_by : (later : Option Entry) (marked : Bool) (found original : ℕ) (new : Entry → ℕ) → marked ≡ is_some later
    → not (found == option_map_or new later original)
    ≡ (option_map_or (λ entry. not (found == new entry)) later false || (not marked && not (found == original)))
byte_by None true found original new is = cc
byte_by None false found original new is = refl
byte_by (Some entry) false found original new is = cc
byte_by (Some entry) true found original new is = sym (or-false (not (found == new entry)))

-- an entry that is selected is judged before the others
pub judged_with : (features : Features) (image patched : List ℕ) (entries : List Entry) (old : List ℕ) (first : ℕ)
    (entry : Entry) (marks : List ℕ) (place : ℕ) → is_selected features entry ≡ true
    → AreJudged features image patched entries old first → IsAccepted features.names image entry
    → IsJudged features image patched old entry (entry.orig_len / 4) marks place
    → AreJudged features image patched (with_entry features entry entries) marks (min first place)
judged_with features image patched entries old first entry marks place selected judged accepted site =
    subst (λ (es : List Entry). AreJudged features image patched es marks (min first place))
    (sym (ap (λ b. cond b (entry ∷ entries) entries) selected))
    (judged_before features image patched entries old first entry marks place judged accepted site)

pub judged_step : (features : Features) (image patched : List ℕ) (layout : Layout) (done : ℕ) (entry : Entry)
    (marks : List ℕ) (first place next : ℕ) → done < layout.count
    → entry ≡ entry_at image layout (layout.count - 1 - done) → next ≡ min first place
    → AreJudged features image patched (with_entry features entry (last_of features image layout done)) marks (min first place)
    → AreJudged features image patched (last_of features image layout (done + 1)) marks next
judged_step features image patched layout done entry marks first place next within is least judged =
    let entries : with_entry features entry (last_of features image layout done) ≡ last_of features image layout (done + 1) =
    ap (λ e. with_entry features e (last_of features image layout done)) is ∙ one_before features image layout done within in
    subst (λ (n : ℕ). AreJudged features image patched (last_of features image layout (done + 1)) marks n) (sym least)
    (subst (λ (es : List Entry). AreJudged features image patched es marks (min first place)) entries judged)

-- the first byte that differs from the patched image: of the words that are marked, or of the others
pub all_judged : (features : Features) (image patched : List ℕ) (layout : Layout) (marks : List ℕ) (first other : ℕ)
    → AreJudged features image patched (last_of features image layout layout.count) marks first
    → IsFirst (is_changed marks patched image) (length image) other
    → IsFirst (differs_at patched (patched_image features image layout)) (length image) (min first other)
all_judged features image patched layout marks first other judged others =
    let selected : List Entry = selected_of features image layout in
    let all : AreJudged features image patched (selected_of features image layout) marks first =
    subst (λ (es : List Entry). AreJudged features image patched es marks first) (last_all features image layout) judged in
    first_either (is_wrong features image patched (selected_of features image layout)) (is_changed marks patched image)
    (differs_at patched (patched_image features image layout)) (length image) first other all.first others
    (λ p inside.
    let byte : get_or (patched_image features image layout) p 0
    ≡ patched_byte features image (selected_of features image layout) p =
    get_or-map-range_with_len (patched_byte features image (selected_of features image layout)) 0 (length image) p p 0
    inside (zero-add p) in
    ap (λ b. not (get_or patched p 0 == b)) byte
    ∙ byte_by (last_that (covers p) (selected_of features image layout)) (is_marked marks (p / 4)) (get_or patched p 0)
    (get_or image p 0) (λ entry. new_byte features image entry p)
    (all.marked (p / 4) ∙ ap is_some (last_word features image (selected_of features image layout) p all.accepted)))
