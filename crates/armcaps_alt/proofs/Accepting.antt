-- A selected entry that is not refused is accepted.
use Rattle.std.proofs.Common.{◌≡◌, ◌+◌, ◌/◌, ◌%◌, ◌<◌, ◌∷◌, ◌&&◌, ◌==◌, ◌∙◌, ℕ, Bool, List, [], None, Ok, Option, Err, Result, Some, add-zero, ap, arith, false, find, inl, inr, is_none, length, map, not, pos, refl, subst, suc, sym, true, unwrap_or, zero, zero-add}
use Rattle.std.specs.List.{list_any, range_with_len}
use Rattle.std.specs.Option.{option_map}
use Rattle.std.proofs.lemmas.Bool.{cases_Bool, eqb-true, false_from_ne_true, false≢true, or_parts}
use Rattle.std.proofs.lemmas.Bool.Decides.{nat_tests}
use Rattle.std.proofs.lemmas.List.Folds.{list_any_at}
use Rattle.std.proofs.lemmas.List.FromFn.{get_or-map-range_with_len, length-map-range_with_len}
use Rattle.armcaps_logic.proofs.Options.{option_cases, option_or_first, option_or_second}
use Rattle.armcaps_insn.specs.declared.correction.FixRefused.{FixRefused}
use Rattle.armcaps_insn.specs.declared.correction.FixRefused.TheVariants as refused
use Rattle.armcaps_alt.specs.declared.table_entry.Entry.{Entry}
use Rattle.armcaps_alt.specs.declared.table_place.Layout.{Layout}
use Rattle.armcaps_alt.specs.Accepted.{IsAccepted}
use Rattle.armcaps_alt.specs.Entries.{Features, entry_at, is_selected, selection}
use Rattle.armcaps_alt.specs.Names.{NameLists, callback_named}
use Rattle.armcaps_alt.specs.Refusals.{Test, first_kind, first_refusal, first_refusal_from, has_other_length, has_wrong_callback, is_literal, is_out_of_range, is_unaligned, refusal_by, refusal_of, tests_of}
use Rattle.armcaps_alt.specs.Words.{replacement_word, replacement_words}
use Rattle.armcaps_image.specs.Places.{is_aligned, is_within}
use Rattle.armcaps_image.proofs.Within.{place_parts}

option_map-none : {X Y : Type 0} (f : X → Y) (o : Option X) → option_map f o ≡ None → o ≡ None
option_map-none f None none = refl
option_map-none f (Some x) none = cc

true_from_not : (b : Bool) → not b ≡ false → b ≡ true
true_from_not true is = refl
true_from_not false is = sym is

-- where none is found, none passes
any_fails : {X : Type 0} (test : X → Bool) (xs : List X) → find test xs ≡ None → list_any test xs ≡ false
any_fails test [] none = refl
any_fails test (x ∷ xs) none = elim (cases_Bool (test x)) [
  | inl here ↦ (let found : Some x ≡ None = rw here at none in cc)
  | inr past ↦ rw past (any_fails test xs (rw past at none))
]

-- a word that is refused in neither way can move
moved : (r : Result ℕ FixRefused) → is_literal r ≡ false → is_out_of_range r ≡ false → (word : ℕ) × (r ≡ Ok word)
moved (Ok word) literal range = (word, refl)
moved (Err (refused.Literal word)) literal range = cc
moved (Err (refused.Range offset)) literal range = cc

module _ (names : NameLists) (image : List ℕ) (entry : Entry) (none : first_kind (tests_of names image entry) ≡ None) where
  fail : list_any (λ (t : Test). t.holds) (tests_of names image entry) ≡ false
  fail = any_fails (λ (t : Test). t.holds) (tests_of names image entry) (option_map-none (λ (t : Test). t.kind) (find (λ (t : Test). t.holds) (tests_of names image entry)) none)

  -- no word of a replacement fails such a test
  no_word : (test : Result ℕ FixRefused → Bool) (index : ℕ) → list_any test (replacement_words image entry) ≡ false
      → index < entry.orig_len / 4 → test (replacement_word image entry index) ≡ false
  no_word test index none within = false_from_ne_true (test (replacement_word image entry index)) (λ passes.
      let at = get_or-map-range_with_len (replacement_word image entry) 0 (entry.orig_len / 4) index index (Ok 0) within (zero-add index) in
      let inside : index < length (replacement_words image entry) = omega (arith, within, length-map-range_with_len (replacement_word image entry) 0 (entry.orig_len / 4)) in
      false≢true (sym none ∙ list_any_at test (replacement_words image entry) index (Ok 0) inside (ap test at ∙ passes)))

  pub accepted : IsAccepted names image entry
  accepted =
      let unaligned = or_parts (is_unaligned entry) _ fail in
      let outside = or_parts (not (is_within (length image) entry.site entry.orig_len)) _ unaligned.1 in
      let other_length = or_parts (has_other_length entry) _ outside.1 in
      let repl_outside = or_parts (not entry.callback && not (is_within (length image) entry.repl entry.orig_len)) _ other_length.1 in
      let unknown = or_parts (entry.callback && is_none (callback_named names entry.repl)) _ repl_outside.1 in
      let makes = or_parts (entry.callback && has_wrong_callback names entry) _ unknown.1 in
      let literal = or_parts (not entry.callback && list_any is_literal (replacement_words image entry)) _ makes.1 in
      let range = or_parts (not entry.callback && list_any is_out_of_range (replacement_words image entry)) false literal.1 in
      let site_aligned = or_parts (not (is_aligned entry.site)) _ unaligned.0 in
      let len_aligned = or_parts (not (is_aligned (pos entry.orig_len))) _ site_aligned.1 in
      let site = place_parts (length image) entry.site entry.orig_len (true_from_not _ site_aligned.0) (true_from_not _ outside.0) in
      let len = place_parts (entry.orig_len + 0) (pos entry.orig_len) 0 (true_from_not _ len_aligned.0) (grind (arith, nat_tests)) in
      record {
        site = site.0;
        aligned = site.1;
        words = len.1;
        within = site.2;
        replaced = λ moves.
            let same : not (entry.alt_len == entry.orig_len) ≡ false = rw moves at other_length.0 in
            let repl_aligned : not (is_aligned entry.repl) ≡ false = rw moves at len_aligned.1 in
            let inside : not (is_within (length image) entry.repl entry.orig_len) ≡ false = rw moves at repl_outside.0 in
            let repl = place_parts (length image) entry.repl entry.orig_len (true_from_not _ repl_aligned) (true_from_not _ inside) in
            let no_literal : list_any is_literal (replacement_words image entry) ≡ false = rw moves at literal.0 in
            let no_range : list_any is_out_of_range (replacement_words image entry) ≡ false = rw moves at range.0 in
            let whole : entry.orig_len % 4 ≡ 0 = len.1 in
            record {
              long = eqb-true entry.alt_len entry.orig_len (true_from_not _ same);
              place = repl.0;
              aligned = repl.1;
              within = repl.2;
              moves = λ index less.
                  let within : index < entry.orig_len / 4 = omega arith in
                  moved (replacement_word image entry index) (no_word is_literal index no_literal within) (no_word is_out_of_range index no_range within);
            };
        called = λ calls.
            let nothing : not (entry.alt_len == 0) ≡ false = rw calls at other_length.0 in
            let named : is_none (callback_named names entry.repl) ≡ false = rw calls at unknown.0 in
            let right : has_wrong_callback names entry ≡ false = rw calls at makes.0 in
            elim (option_cases (callback_named names entry.repl)) [
              | inl unnamed ↦ (let wrong : true ≡ false = rw unnamed at named in cc)
              | inr (kind, is) ↦ record {
                empty = eqb-true entry.alt_len 0 (true_from_not _ nothing);
                kind = kind;
                named = is;
                makes = rw is at right;
              }
            ];
      }

-- of a selected entry all kinds are asked
selected_kinds : (s : Option Bool) (names : NameLists) (image : List ℕ) (entry : Entry) → unwrap_or s false ≡ true
    → refusal_by s names image entry ≡ None → first_kind (tests_of names image entry) ≡ None
selected_kinds None names image entry selected none = cc
selected_kinds (Some false) names image entry selected none = cc
selected_kinds (Some true) names image entry selected none = none

-- where none of these entries is refused, no kind holds of any
accepted_from : (features : Features) (image : List ℕ) (of : ℕ → Entry) (n a count : ℕ)
    → first_refusal_from n features image (map of (range_with_len a count)) ≡ None → (k : ℕ) → k < count
    → refusal_of features image (of (a + k)) ≡ None
accepted_from features image of n a zero none k within = absurd (omega arith)
accepted_from features image of n a (suc count) none zero within =
    rw add-zero (option_map-none _ (refusal_of features image (of a)) (option_or_first _ _ none))
accepted_from features image of n a (suc count) none (suc k) within =
    let same : a + 1 + k ≡ a + suc k = omega arith in
    let later : k < count = omega (arith, within) in
    let rest : refusal_of features image (of (a + 1 + k)) ≡ None = accepted_from features image of (n + 1) (a + 1) count (option_or_second _ _ none) k later in
    subst (λ (m : ℕ). refusal_of features image (of m) ≡ None) same rest

pub selected_accepted : (features : Features) (image : List ℕ) (layout : Layout) (number : ℕ)
    → first_refusal features image layout ≡ None → number < layout.count
    → is_selected features (entry_at image layout number) ≡ true
    → IsAccepted features.names image (entry_at image layout number)
selected_accepted features image layout number none within selected =
    let entry : Entry = entry_at image layout number in
    let from = accepted_from features image (entry_at image layout) 0 0 layout.count none number within in
    let here : refusal_of features image entry ≡ None = subst (λ (m : ℕ). refusal_of features image (entry_at image layout m) ≡ None) (zero-add number) from in
    accepted features.names image entry (selected_kinds (selection features.names features.enabled entry) features.names image entry selected here)
