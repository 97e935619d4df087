-- What a binary search among pairs finds, where their keys rise.
use Rattle.std.proofs.Common.{◌≡◌, ◌<◌, ◌≤◌, ℕ, List, MatchResult, None, Ok, Err, Result, Some, arith, ap, get_or, length, map, refl, subst, sym, ◌==◌}
use Rattle.std.specs.List.Sorted.{IsBinarySearchResult, IsNonDecreasingBy, IsSearchInRange, IsStrictlyIncreasing}
use Rattle.std.specs.Ordering.{nat_cmp, ordering_index}
use Rattle.std.proofs.lemmas.Bool.Decides.{nat_tests}
use Rattle.std.proofs.lemmas.Cmp.{ranked}
use Rattle.std.proofs.lemmas.List.{get_or-map, length-map}
use Rattle.std.proofs.lemmas.Map.Keys.{below_from_sorted, sorted_from_strictly_increasing}
use Rattle.armcaps_logic.proofs.Searches.{find_absent, find_present}
use Rattle.armcaps_alt.specs.Names.{value_at}

module _ {V : Type 0} (xs : List (ℕ × V)) (rise : IsStrictlyIncreasing (map (λ e. e.0) xs)) (key : ℕ) where
  -- the keys rise from any place to any later one
  keys_rise : (i j : ℕ) (d : ℕ × V) → i < j → j < length xs → (get_or xs i d).0 < (get_or xs j d).0
  keys_rise i j d before within =
      let there : j < length (map (λ (e : ℕ × V). e.0) xs) = rw length-map within in
      let up = below_from_sorted (map (λ e. e.0) xs) i j 0 (sorted_from_strictly_increasing _ rise) before there in
      let inside : i < length xs = omega arith in
      let at_i = get_or-map (λ (e : ℕ × V). e.0) xs i d 0 inside in
      let at_j = get_or-map (λ (e : ℕ × V). e.0) xs j d 0 within in
      omega (arith, up, at_i, at_j)

  -- the comparisons with the key rise, as a binary search asks
  comparisons_rise : IsNonDecreasingBy (λ e. ordering_index (nat_cmp e.0 key)) xs
  comparisons_rise i j d le within =
      let keys : (get_or xs i d).0 ≤ (get_or xs j d).0 = grind (arith, keys_rise i j d, λ (same : i ≡ j). ap (λ k. (get_or xs k d).0) same) in
      grind (arith, nat_tests)

  -- a search in what holds these pairs answers the place of the key's pair, or that there is none
  pub value_searched : (ys : List (ℕ × V)) (r : Result ℕ ℕ) → ys ≡ xs → IsSearchInRange r (length ys) → IsBinarySearchResult (λ e. nat_cmp e.0 key) ys r → MatchResult r (λ i. (e : ℕ × V) → e ≡ get_or xs i e → Some e.1 ≡ value_at xs key) (λ i. None ≡ value_at xs key)
  value_searched ys (Ok i) same within equal = λ e is.
      let inside : i < length xs = rw (← same) within in
      let here : (get_or xs i e).0 ≡ key = rw (← same) (ranked _ key _ (sym (equal e))) in
      let found = find_present (λ e. e.0 == key) xs i e inside (λ k lt. let up = keys_rise k i e lt inside in grind (arith, nat_tests)) (grind (arith, nat_tests)) in
      rw (found, ← is) refl
  value_searched ys (Err i) same within parted =
      let sides = (subst (λ (zs : List (ℕ × V)). IsBinarySearchResult (λ e. nat_cmp e.0 key) zs (Err i)) same parted) comparisons_rise in
      let none = find_absent (λ e. e.0 == key) xs (λ k d lt.
      let below : k < i → (get_or xs k d).0 < key = λ before. ranked _ key _ (sym (sides.0 k d (omega arith) before)) in
      let above : i ≤ k → key < (get_or xs k d).0 = λ after. ranked _ key _ (sym (sides.1 k d after lt)) in
      grind (arith, nat_tests)) in
      rw none refl
