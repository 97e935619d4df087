-- What is kept of the entries of a table, one after the other.
use Rattle.std.proofs.Common.{◌≡◌, ◌+◌, ◌≤◌, ◌∷◌, ◌++◌, ℕ, Bool, List, [], Option, None, Some, IfSome, ap, append-nil, arith, cond, drop, get_or, length, length-append, map, refl, replicate, subst, sym, take, zero-add, ◌∙◌, inl, inr}
use Rattle.std.specs.List.{All, filter, range_with_len}
use Rattle.std.specs.Option.{option_to_list}
use Rattle.std.proofs.lemmas.Bool.{cases_Bool}
use Rattle.std.proofs.Math.ListN.{drop_of_length-le}
use Rattle.std.proofs.lemmas.List.{get_or-replicate, length-replicate, map-append, take_all}
use Rattle.std.proofs.lemmas.List.Elements.{All-push}
use Rattle.std.proofs.lemmas.List.FromFn.{filter_of_map_range_with_len_more}
use Rattle.armcaps_alt.specs.declared.table_entry.Entry.{Entry}
use Rattle.armcaps_alt.specs.declared.table_place.Layout.{Layout}
use Rattle.armcaps_alt.specs.Entries.{Features, entry_at, is_selected}
use Rattle.armcaps_alt.specs.Names.{NameLists}
use Rattle.armcaps_patch.specs.Choices.{AreChoices}
use Rattle.armcaps_patch.specs.declared.choice.Choice.{Choice}
use Rattle.armcaps_patch.specs.declared.choice.Choice.TheVariants.{Unasked}
use Rattle.armcaps_patch.specs.declared.kept.Kept.{Kept}
use Rattle.armcaps_patch.specs.Kept.{IsKept, kept_of}

-- what is kept of one entry, as a list
found_list : (features : Features) (entry : Entry) → option_to_list (cond (is_selected features entry) (Some (kept_of features.names entry)) None) ≡ map (kept_of features.names) (cond (is_selected features entry) (entry ∷ []) [])
found_list features entry = elim (cases_Bool (is_selected features entry)) [ inl is ↦ rw is refl | inr not ↦ rw not refl ]

pub kept_more : (features : Features) (image : List ℕ) (layout : Layout) (k : ℕ) (old new : List Kept) (found : Option Kept)
    → old ≡ map (kept_of features.names) (filter (is_selected features) (map (entry_at image layout) (range_with_len 0 k))) → new ≡ old ++ option_to_list found
    → found ≡ cond (is_selected features (entry_at image layout k)) (Some (kept_of features.names (entry_at image layout k))) None
    → new ≡ map (kept_of features.names) (filter (is_selected features) (map (entry_at image layout) (range_with_len 0 (k + 1))))
kept_more features image layout k old new found before grown is =
    let more = filter_of_map_range_with_len_more (is_selected features) (entry_at image layout) 0 k k (zero-add k) in
    let all = map-append (kept_of features.names) (filter (is_selected features) (map (entry_at image layout) (range_with_len 0 k))) (cond (is_selected features (entry_at image layout k)) (entry_at image layout k ∷ []) []) in
    rw (grown, more, all, before, is) (ap (λ xs. map (kept_of features.names) (filter (is_selected features) (map (entry_at image layout) (range_with_len 0 k))) ++ xs) (found_list features (entry_at image layout k)))

pub each_more : (size : ℕ) (old new : List Kept) (found : Option Kept) → All (IsKept size) old → new ≡ old ++ option_to_list found → IfSome found (IsKept size) → All (IsKept size) new
each_more size old new None before grown is = subst (All (IsKept size)) (sym (append-nil old) ∙ sym grown) before
each_more size old new (Some kept) before grown is = subst (All (IsKept size)) (sym grown) (All-push (IsKept size) old kept before is)

pub few_more : (old new : List Kept) (found : Option Kept) (k : ℕ) → length old ≤ k → new ≡ old ++ option_to_list found → length new ≤ k + 1
few_more old new None k before grown = omega (arith, ap length grown, length-append old [])
few_more old new (Some kept) k before grown = omega (arith, ap length grown, length-append old (kept ∷ []))

-- of no number anything is known at first
pub none_known : (names : NameLists) (enabled : ℕ → Bool) (count : ℕ) (choices : List Choice) → choices ≡ replicate count Unasked → AreChoices names enabled choices
none_known names enabled count choices is = rw is (λ number d within. (let none : get_or (replicate count Unasked) number d ≡ Unasked = get_or-replicate count number Unasked d (omega (arith, length-replicate count Unasked)) in rw none tt))

-- what is written over all of a list is what it becomes
pub written_over : {X : Type 0} (n : ℕ) (new old : List X) → length new ≡ n → length old ≡ n → take n (new ++ drop (length new) old) ≡ new
written_over n new old one other =
    let none : drop (length new) old ≡ [] = drop_of_length-le old (omega arith) in
    ap (λ xs. take n (new ++ xs)) none ∙ ap (take n) (append-nil new) ∙ take_all n new (omega arith)
