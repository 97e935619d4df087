-- The first entry of a table that is refused.
use Rattle.std.proofs.Common.{◌≡◌, ◌+◌, ◌<◌, ℕ, List, None, Some, add-zero, arith, map, refl, suc, zero, subst, zero-add}
use Rattle.std.specs.List.{range_with_len}
use Rattle.armcaps_alt.specs.declared.patch_kind.PatchKind.{PatchKind}
use Rattle.armcaps_alt.specs.declared.table_entry.Entry.{Entry}
use Rattle.armcaps_alt.specs.declared.table_place.Layout.{Layout}
use Rattle.armcaps_alt.specs.Entries.{Features, entry_at}
use Rattle.armcaps_alt.specs.Refusals.{first_refusal, first_refusal_from, refusal_of}

module _ (features : Features) (image : List ℕ) (of : ℕ → Entry) where
  -- none of these entries is refused
  none_from : (n a count : ℕ) → ((k : ℕ) → k < count → refusal_of features image (of (a + k)) ≡ None) → first_refusal_from n features image (map of (range_with_len a count)) ≡ None
  none_from n a zero accepted = refl
  none_from n a (suc count) accepted =
      let here : refusal_of features image (of a) ≡ None = rw add-zero at (accepted 0 (omega arith)) in
      let rest = none_from (n + 1) (a + 1) count (λ k within. subst (λ (m : ℕ). refusal_of features image (of m) ≡ None) (omega arith) (accepted (suc k) (omega arith))) in
      rw (here, rest) refl

  -- an entry behind some that are not refused is the first
  first_from : (n a count k : ℕ) (kind : PatchKind) → k < count → ((j : ℕ) → j < k → refusal_of features image (of (a + j)) ≡ None) → refusal_of features image (of (a + k)) ≡ Some kind → first_refusal_from n features image (map of (range_with_len a count)) ≡ Some (record { entry = n + k; kind = kind })
  first_from n a zero k kind within before refused = absurd (omega arith)
  first_from n a (suc count) zero kind within before refused =
      let here : refusal_of features image (of a) ≡ Some kind = rw add-zero at refused in
      rw (here, add-zero) refl
  first_from n a (suc count) (suc k) kind within before refused =
      let here : refusal_of features image (of a) ≡ None = rw add-zero at (before 0 (omega arith)) in
      let then : refusal_of features image (of (a + 1 + k)) ≡ Some kind = subst (λ (m : ℕ). refusal_of features image (of m) ≡ Some kind) (omega arith) refused in
      let rest = first_from (n + 1) (a + 1) count k kind (omega arith) (λ j less. subst (λ (m : ℕ). refusal_of features image (of m) ≡ None) (omega arith) (before (suc j) (omega arith))) then in
      let number : n + 1 + k ≡ n + suc k = omega arith in
      rw (here, rest, number) refl

pub none_refused : (features : Features) (image : List ℕ) (layout : Layout) → ((k : ℕ) → k < layout.count → refusal_of features image (entry_at image layout k) ≡ None) → first_refusal features image layout ≡ None
none_refused features image layout accepted = none_from features image (entry_at image layout) 0 0 layout.count (λ k within. rw zero-add (accepted k within))

pub first_refused : (features : Features) (image : List ℕ) (layout : Layout) (k : ℕ) (kind : PatchKind) → k < layout.count → ((j : ℕ) → j < k → refusal_of features image (entry_at image layout j) ≡ None) → refusal_of features image (entry_at image layout k) ≡ Some kind → first_refusal features image layout ≡ Some (record { entry = k; kind = kind })
first_refused features image layout k kind within before refused = rw zero-add at (first_from features image (entry_at image layout) 0 0 layout.count k kind within (λ j less. rw zero-add (before j less)) (rw zero-add refused))
