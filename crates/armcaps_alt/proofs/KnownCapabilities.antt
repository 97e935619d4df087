-- Only the capabilities that a table's numbers can name count.
use Rattle.std.proofs.Common.{◌≡◌, ℕ, ◌+◌, ◌<◌, ◌==◌, Bool, false, cond, List, [], ◌∷◌, Some, filter, length, map, refl, ap, ◌∙◌, inl, inr}
use Rattle.std.specs.List.{All, range_with_len}
use Rattle.std.specs.Option.{option_map, option_or}
use Rattle.std.specs.Prelude.{unwrap_or}
use Rattle.std.proofs.lemmas.Bool.{cases_Bool}
use Rattle.std.proofs.lemmas.List.Elements.{All-head, All-tail}
use Rattle.armcaps_alt.specs.declared.named_number.Named.{Named}
use Rattle.armcaps_alt.specs.declared.named_number.Named.TheVariants.{Cap, Given}
use Rattle.armcaps_alt.specs.declared.table_entry.Entry.{Entry}
use Rattle.armcaps_alt.specs.declared.table_place.Layout.{Layout}
use Rattle.armcaps_alt.specs.Entries.{entries_of, is_selected, is_there, selection}
use Rattle.armcaps_alt.specs.Names.{IsKnown, NameLists, value_at}
use Rattle.armcaps_alt.specs.Patched.{patched_byte, patched_image}
use Rattle.armcaps_alt.specs.Refusals.{first_refusal, first_refusal_from, refusal_by}

module _ (one other : ℕ → Bool) (agree : (number : ℕ) → number < 53 → one number ≡ other number) where
  there_same : (named : Named) → IsKnown named → is_there one named ≡ is_there other named
  there_same (Cap number) known = agree number known
  there_same (Given on) known = refl

  -- what a number stands for is there on both
  named_same : (numbers : List (ℕ × Named)) (key : ℕ) → All (λ e. IsKnown e.1) numbers
      → option_map (is_there one) (value_at numbers key) ≡ option_map (is_there other) (value_at numbers key)
  named_same [] key known = refl
  named_same (e ∷ numbers) key known = elim (cases_Bool (e.0 == key)) [
    | inl here ↦ rw here (ap Some (there_same e.1 (All-head (λ (n : ℕ × Named). IsKnown n.1) e numbers known)))
    | inr past ↦ rw past (named_same numbers key (All-tail (λ (n : ℕ × Named). IsKnown n.1) e numbers known))
  ]

  module _ (names : NameLists) (known : All (λ e. IsKnown e.1) names.numbers) (ctr : ℕ) (image : List ℕ) where
    selection_same : (entry : Entry) → selection names one entry ≡ selection names other entry
    selection_same entry = named_same names.numbers entry.number known

    refusals_same : (index : ℕ) (entries : List Entry)
        → first_refusal_from index (record { names = names; enabled = one; ctr = ctr }) image entries
        ≡ first_refusal_from index (record { names = names; enabled = other; ctr = ctr }) image entries
    refusals_same index [] = refl
    refusals_same index (entry ∷ entries) =
        ap (λ chosen. option_or (option_map (λ kind. record { entry = index; kind = kind })
        (refusal_by chosen names image entry))
        (first_refusal_from (index + 1) (record { names = names; enabled = one; ctr = ctr }) image entries))
        (selection_same entry)
        ∙ ap (option_or (option_map (λ kind. record { entry = index; kind = kind })
        (refusal_by (selection names other entry) names image entry))) (refusals_same (index + 1) entries)

    selected_same : (entries : List Entry)
        → filter (is_selected (record { names = names; enabled = one; ctr = ctr })) entries
        ≡ filter (is_selected (record { names = names; enabled = other; ctr = ctr })) entries
    selected_same [] = refl
    selected_same (entry ∷ entries) =
        ap (λ chosen. cond (unwrap_or chosen false)
        (entry ∷ filter (is_selected (record { names = names; enabled = one; ctr = ctr })) entries)
        (filter (is_selected (record { names = names; enabled = one; ctr = ctr })) entries)) (selection_same entry)
        ∙ ap (λ es. cond (unwrap_or (selection names other entry) false) (entry ∷ es) es) (selected_same entries)

    pub refused_alike : (layout : Layout)
        → first_refusal (record { names = names; enabled = one; ctr = ctr }) image layout
        ≡ first_refusal (record { names = names; enabled = other; ctr = ctr }) image layout
    refused_alike layout = refusals_same 0 (entries_of image layout)

    pub patched_alike : (layout : Layout)
        → patched_image (record { names = names; enabled = one; ctr = ctr }) image layout
        ≡ patched_image (record { names = names; enabled = other; ctr = ctr }) image layout
    patched_alike layout =
        ap (λ es. map (patched_byte (record { names = names; enabled = one; ctr = ctr }) image es)
        (range_with_len 0 (length image))) (selected_same (entries_of image layout))
