-- Each word of a site comes from the last selected entry that covers it, and no other byte changes.
use Rattle.std.proofs.Common.{◌≡◌, ◌+◌, ◌-◌, ◌*◌, ◌/◌, ◌%◌, ◌^◌, ◌<◌, ◌≤◌, ◌&&◌, ◌==◌, ◌∙◌, ℕ, List, None, Some, ap, arith, false, get_or, inl, inr, length, lit<, refl, subst, sym, true, zero-add}
use Rattle.std.specs.List.{range_with_len}
use Rattle.std.specs.Option.{option_map}
use Rattle.std.proofs.lemmas.Bool.{and_from, cases_Bool, false≢true}
use Rattle.std.proofs.lemmas.Bool.Decides.{nat_tests}
use Rattle.std.proofs.lemmas.List.FromFn.{get_or-map-range_with_len, get_or-range_with_len, length-map-range_with_len, length-range_with_len}
use Rattle.armcaps_insn.specs.Moved.{IsMove, StaysOrMoves, is_kept}
use Rattle.armcaps_insn.proofs.Moves.{moves}
use Rattle.armcaps_image.specs.Bytes.{AreBytes, word_in}
use Rattle.armcaps_image.specs.Last.{last_that}
use Rattle.armcaps_image.specs.Places.{as_place}
use Rattle.armcaps_image.proofs.Last.{last_that-filter, last_that-map, last_that-none, last_that-range}
use Rattle.armcaps_image.proofs.Words.{word_fits, word_of_bytes}
use Rattle.armcaps_alt.specs.declared.callback_kind.CallbackKind.{CallbackKind}
use Rattle.armcaps_alt.specs.declared.callback_kind.CallbackKind.TheVariants as callback
use Rattle.armcaps_alt.specs.declared.smccc_conduit.Conduit.{Conduit}
use Rattle.armcaps_alt.specs.declared.smccc_conduit.Conduit.TheVariants as conduit
use Rattle.armcaps_alt.specs.declared.table_entry.Entry.{Entry}
use Rattle.armcaps_alt.specs.declared.table_place.Layout.{Layout}
use Rattle.armcaps_alt.specs.Accepted.{HasCallback, HasReplacement, IsAccepted}
use Rattle.armcaps_alt.specs.Entries.{Features, entries_of, entry_at, is_selected, selected_of}
use Rattle.armcaps_alt.specs.Laws.{IsLastThere, IsNewWord, IsUncovered, ReplacesSites, replacement_place, site_place}
use Rattle.armcaps_alt.specs.Patched.{covers, patched_byte, patched_image}
use Rattle.armcaps_alt.specs.Refusals.{first_refusal, makes_other_length}
use Rattle.armcaps_alt.specs.Words.{callback_word_at, callback_word_of, new_word}
use Rattle.armcaps_alt.proofs.Accepting.{selected_accepted}

-- a callback that makes as many bytes as a site has makes words of 32 bits
callback_word_fits : (kind : CallbackKind) (index ctr : ℕ) (way : Conduit) (first orig len : ℕ) → orig < 2 ^ 32
    → makes_other_length kind len ≡ false → 4 * index < len → callback_word_of kind index ctr way first orig < 2 ^ 32
callback_word_fits callback.Nops index ctr way first orig len fits right less = lit< tt
callback_word_fits callback.FinalCtr index ctr way first orig len fits right less =
    let four : len ≡ 16 = grind (arith, nat_tests, right) in
    let bits : ctr / 2 ^ (16 * index) % 2 ^ 16 < 2 ^ 16 = omega arith in
    elim (cases_Bool (index == 0)) [
      | inl begin ↦ rw begin (omega (arith, bits, four))
      | inr later ↦ rw later (omega (arith, bits, four))
    ]
callback_word_fits callback.Conduit index ctr conduit.None first orig len fits right less = fits
callback_word_fits callback.Conduit index ctr conduit.Hvc first orig len fits right less = lit< tt
callback_word_fits callback.Conduit index ctr conduit.Smc first orig len fits right less = lit< tt
callback_word_fits callback.Keep index ctr way first orig len fits right less = fits

module _ (features : Features) (image : List ℕ) (bytes : AreBytes image) (small : length image ≤ 2 ^ 29) where
  -- the new word of an accepted entry
  module _ (entry : Entry) (is : IsAccepted features.names image entry) (index : ℕ) (less : 4 * index < entry.orig_len) where
    called_word : entry.callback ≡ true
        → (new_word features image entry index < 2 ^ 32) × IsNewWord features image entry index (new_word features image entry index)
    called_word calls =
        let has : HasCallback features.names entry = is.called calls in
        let made : new_word features image entry index ≡ callback_word_at features image entry has.kind index = rw (calls, has.named) refl in
        let orig = word_fits image bytes (as_place entry.site + 4 * index) in
        let fits = callback_word_fits has.kind index features.ctr features.names.conduit (word_in image (as_place entry.site)) (word_in image (as_place entry.site + 4 * index)) entry.orig_len orig has.makes less in (
          rw made fits,
          record {
            replaced = λ moves. absurd (false≢true (sym moves ∙ calls));
            called = λ kind again named.
                let both : Some has.kind ≡ Some kind = sym has.named ∙ named in
                let same : has.kind ≡ kind = cc in
                made ∙ ap (λ (k : CallbackKind). callback_word_at features image entry k index) same;
          },
        )

    moved_word : entry.callback ≡ false
        → (new_word features image entry index < 2 ^ 32) × IsNewWord features image entry index (new_word features image entry index)
    moved_word stands =
        let has : HasReplacement image entry = is.replaced stands in
        let from : ℕ = replacement_place entry index in
        let low : ℕ = as_place entry.repl in
        let high : ℕ = as_place entry.repl + entry.orig_len in
        let moved = has.moves index less in
        let made : new_word features image entry index ≡ moved.0 = rw (stands, moved.1) refl in
        let fits = word_fits image bytes from in
        let move : IsMove from (site_place entry index) low high = record {
          leaves = record { aligned = omega (arith, has.aligned); below = omega (arith, has.within, small) };
          arrives = record { aligned = omega (arith, is.aligned); below = omega (arith, is.within, small) };
          first = record { aligned = has.aligned; below = omega (arith, has.within, small) };
          last = record { aligned = omega (arith, has.aligned, is.words); below = omega (arith, has.within, small) };
          begins = omega arith;
          ends = omega arith;
        } in
        let comes : StaysOrMoves (word_in image from) from moved.0 (site_place entry index) low high =
        moves (word_in image from) from (site_place entry index) low high moved.0 move fits moved.1 in
        let below : moved.0 < 2 ^ 32 = elim (cases_Bool (is_kept (word_in image from) from low high)) [
          | inl kept ↦ rw (comes.stays kept) fits
          | inr goes ↦ (comes.moves goes).fits
        ] in (
          rw made below,
          record {
            replaced = λ again. rw made comes;
            called = λ kind calls named. absurd (false≢true (sym stands ∙ calls));
          },
        )

    pub new_word_is : (new_word features image entry index < 2 ^ 32) × IsNewWord features image entry index (new_word features image entry index)
    new_word_is = elim (cases_Bool entry.callback) [ inl calls ↦ called_word calls | inr stands ↦ moved_word stands ]

  module _ (layout : Layout) (none : first_refusal features image layout ≡ None) where
    abbrev at : ℕ → Entry
    at number = entry_at image layout number

    accepted_at : (number : ℕ) → number < layout.count → is_selected features (at number) ≡ true → IsAccepted features.names image (at number)
    accepted_at number within selected = selected_accepted features image layout number none within selected

    -- the last selected entry that covers a place
    last_selected : (place : ℕ) → last_that (covers place) (selected_of features image layout)
        ≡ option_map at (last_that (λ number. is_selected features (at number) && covers place (at number)) (range_with_len 0 layout.count))
    last_selected place =
        last_that-filter (is_selected features) (covers place) (entries_of image layout)
        ∙ last_that-map at (λ entry. is_selected features entry && covers place entry) (range_with_len 0 layout.count)

    found : (place number : ℕ) → IsLastThere features image layout place number
        → last_that (covers place) (selected_of features image layout) ≡ Some (at number)
    found place number is =
        last_selected place ∙ ap (option_map at) (last_that-range _ layout.count number is.within (and_from _ _ is.selected is.covered) (λ later after before.
        elim (cases_Bool (is_selected features (at later))) [
          | inl selected ↦ rw (selected, is.last later after before selected) refl
          | inr passed ↦ rw passed refl
        ]))

    -- a site covers all four bytes of a word or none
    covers_word : (place i number : ℕ) → number < layout.count → is_selected features (at number) ≡ true → place % 4 ≡ 0 → i < 4
        → covers (place + i) (at number) ≡ covers place (at number)
    covers_word place i number within selected aligned low =
        let is = accepted_at number within selected in
        let site = is.aligned in
        let len = is.words in
        grind (arith, nat_tests)

    -- the last entry of a word is the last of each of its bytes
    last_byte : (place i number : ℕ) → IsLastThere features image layout place number → place % 4 ≡ 0 → i < 4
        → IsLastThere features image layout (place + i) number
    last_byte place i number is aligned low = record {
      within = is.within;
      selected = is.selected;
      covered = covers_word place i number is.within is.selected aligned low ∙ is.covered;
      last = λ later after before selected. covers_word place i later before selected aligned low ∙ is.last later after before selected;
    }

    -- a word of a site is the new word of the last entry there
    site_word : (number index : ℕ) → IsLastThere features image layout (site_place (at number) index) number
        → IsNewWord features image (at number) index (word_in (patched_image features image layout) (site_place (at number) index))
    site_word number index is =
        let entry : Entry = at number in
        let place : ℕ = site_place entry index in
        let own = accepted_at number is.within is.selected in
        let site = own.aligned in
        let end = own.within in
        let covered = is.covered in
        let less : 4 * index < entry.orig_len = grind (arith, nat_tests, covered) in
        let aligned : place % 4 ≡ 0 = omega arith in
        let new = new_word_is entry own index less in
        let read = word_of_bytes (patched_image features image layout) place (new_word features image entry index) new.0 (λ i low.
        let inside : place + i < length image = omega (arith, own.words) in
        let count : (place + i - as_place entry.site) / 4 ≡ index = omega arith in
        let byte : (place + i) % 4 ≡ i = omega arith in
        let whose = found (place + i) number (last_byte place i number is aligned low) in
        get_or-map-range_with_len (patched_byte features image (selected_of features image layout)) 0 (length image) (place + i) (place + i) 0 inside (zero-add (place + i))
        ∙ rw (whose, count, byte) refl) in
        subst (λ (w : ℕ). IsNewWord features image entry index w) (sym read) new.1

    -- no other byte changes
    other_byte : (place : ℕ) → place < length image → IsUncovered features image layout place
        → get_or (patched_image features image layout) place 0 ≡ get_or image place 0
    other_byte place inside uncovered =
        let fails = last_that-none (λ number. is_selected features (at number) && covers place (at number)) (range_with_len 0 layout.count) (λ k d within.
        let short : k < layout.count = omega (arith, length-range_with_len 0 layout.count) in
        let here : get_or (range_with_len 0 layout.count) k d ≡ k = get_or-range_with_len 0 layout.count k d short ∙ zero-add k in
        let past : (is_selected features (at k) && covers place (at k)) ≡ false = elim (cases_Bool (is_selected features (at k))) [
          | inl selected ↦ rw (selected, uncovered k short selected) refl
          | inr passed ↦ rw passed refl
        ] in
        rw here past) in
        let last : last_that (covers place) (selected_of features image layout) ≡ None = last_selected place ∙ ap (option_map at) fails in
        get_or-map-range_with_len (patched_byte features image (selected_of features image layout)) 0 (length image) place place 0 inside (zero-add place)
        ∙ rw last refl

    pub replaces_sites : ReplacesSites features image layout (patched_image features image layout)
    replaces_sites = record {
      size = length-map-range_with_len (patched_byte features image (selected_of features image layout)) 0 (length image);
      others = other_byte;
      sites = site_word;
    }
