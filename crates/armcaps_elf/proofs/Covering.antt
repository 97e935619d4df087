-- Stretches that are added, and places that they cover.
use Rattle.std.proofs.Common.{◌≡◌, ◌⊎◌, ◌+◌, ◌-◌, ◌<◌, ◌≤◌, ◌&&◌, ◌||◌, ◌++◌, ℕ, Bool, List, [], ◌∷◌, ap, arith, false, get_or, inl, inr, length, length-append, max, nat_le, nat_lt, refl, suc, subst, sym, take, true, zero, ◌∙◌}
use Rattle.std.specs.List.{All, AllPairs, list_any}
use Rattle.std.specs.List.Sorted.{IsNonDecreasingBy, IsPartitionPoint}
use Rattle.std.proofs.lemmas.Bool.{cases_lt}
use Rattle.std.proofs.lemmas.Bool.Decides.{nat_tests}
use Rattle.std.proofs.lemmas.List.{get_or_append_left, get_or-append_right, get_or_default}
use Rattle.std.proofs.lemmas.List.Folds.{list_any-append, list_any_at, list_any_none}
use Rattle.std.proofs.lemmas.List.Quantifiers.{all_pairs_push}
use Rattle.armcaps_elf.specs.declared.stretch.Stretch.{Stretch}
use Rattle.armcaps_elf.specs.Stretches.{IsApart, in_stretch}

pub in_it : (n : ℕ) (s : Stretch) → s.begin ≤ n → n < s.end → in_stretch n s ≡ true
in_it n s low high = grind (arith, nat_tests)

out_of_it : (n : ℕ) (s : Stretch) → (n < s.begin) ⊎ (s.end ≤ n) → in_stretch n s ≡ false
out_of_it n s (inl low) = grind (arith, nat_tests)
out_of_it n s (inr high) = grind (arith, nat_tests)

-- stretches begin ever later
pub begins_rise : (xs : List Stretch) → IsApart xs → IsNonDecreasingBy (λ s. s.begin) xs
begins_rise xs apart i j d le within = elim (cases_lt i j) [
  | inl less ↦
      let some = apart.some i d (omega arith) in
      let next = apart.apart i j d less within in
      omega arith
  | inr same ↦
      let equal : i ≡ j = omega arith in
      let begins : (get_or xs i d).begin ≡ (get_or xs j d).begin = ap (λ k. (get_or xs k d).begin) equal in
      omega arith
]

-- places that the last one that begins before them covers
pub covered : (xs : List Stretch) (count start end : ℕ) (d : Stretch) → 0 < count → count ≤ length xs
    → (get_or xs (count - 1) d).begin ≤ start → end ≤ (get_or xs (count - 1) d).end
    → (n : ℕ) → start ≤ n → n < end → list_any (in_stretch n) xs ≡ true
covered xs count start end d some within low high n from to =
    list_any_at (in_stretch n) xs (count - 1) d (omega arith) (in_it n (get_or xs (count - 1) d) (omega arith) (omega arith))

-- a place that none covers, where none begins at the start or before it
pub none_begun : (xs : List Stretch) (start : ℕ) → ((k : ℕ) (d : Stretch) → k < length xs → start < (get_or xs k d).begin)
    → list_any (in_stretch start) xs ≡ false
none_begun xs start behind =
    list_any_none (in_stretch start) xs (λ k d within. out_of_it start (get_or xs k d) (inl (behind k d within)))

-- and one where the last one that begins there ends too early
pub ends_early : (xs : List Stretch) (count start : ℕ) → IsApart xs → 0 < count → count ≤ length xs
    → ((k : ℕ) (d : Stretch) → k < count → (get_or xs k d).begin ≤ start)
    → ((k : ℕ) (d : Stretch) → count ≤ k → k < length xs → start < (get_or xs k d).begin)
    → (e : Stretch) → list_any (in_stretch (max start (get_or xs (count - 1) e).end)) xs ≡ false
ends_early xs count start apart some within before behind e =
    let n = max start (get_or xs (count - 1) e).end in
    list_any_none (in_stretch n) xs (λ k d short. elim (cases_lt k count) [
      | inl low ↦ elim (cases_lt k (count - 1)) [
        | inl earlier ↦
            let next = apart.apart k (count - 1) d earlier (omega arith) in
            let begins = before (count - 1) d (omega arith) in
            out_of_it n (get_or xs k d) (inr (omega arith))
        | inr last ↦
            let same : count - 1 ≡ k = omega arith in
            let ends : (get_or xs (count - 1) e).end ≡ (get_or xs k d).end =
            ap (λ i. (get_or xs i e).end) same ∙ ap (λ s. s.end) (get_or_default xs k e d short) in
            out_of_it n (get_or xs k d) (inr (omega (arith, ends)))
      ]
      | inr high ↦
          let next = apart.apart (count - 1) k e (omega arith) short in
          let begins = behind k e high short in
          let same : (get_or xs k e).begin ≡ (get_or xs k d).begin = ap (λ s. s.begin) (get_or_default xs k e d short) in
          out_of_it n (get_or xs k d) (inl (omega (arith, next, begins, same)))
    ])

pub too_short : (n m : ℕ) → nat_le n m ≡ false → m < n
too_short n m fails = grind (arith, nat_tests)

-- the last of a list
at_end : (xs : List Stretch) (y : Stretch) (k : ℕ) (d : Stretch) → length xs ≤ k → k < length (xs ++ y ∷ []) → get_or (xs ++ y ∷ []) k d ≡ y
at_end xs y k d low high =
    let zero_left : k - length xs ≡ 0 = omega (arith, length-append xs (y ∷ [])) in
    get_or-append_right xs (y ∷ []) (length xs) k d refl low ∙ ap (λ i. get_or (y ∷ []) i d) zero_left

-- what stands before the last one
front_end : (xs : List Stretch) (y : Stretch) (k : ℕ) (d : Stretch) → IsApart (xs ++ y ∷ []) → k < length xs → (get_or xs k d).end < y.begin
front_end xs y k d apart low =
    let size = length-append xs (y ∷ []) in
    let next = apart.apart k (length xs) d low (omega (arith, size)) in
    let left : (get_or (xs ++ y ∷ []) k d).end ≡ (get_or xs k d).end = ap (λ s. s.end) (get_or_append_left xs (y ∷ []) d k low) in
    let right : (get_or (xs ++ y ∷ []) (length xs) d).begin ≡ y.begin =
    ap (λ s. s.begin) (at_end xs y (length xs) d (omega arith) (omega (arith, size))) in
    omega (arith, next, left, right)

front_some : (xs : List Stretch) (y : Stretch) → IsApart (xs ++ y ∷ []) → All (λ (s : Stretch). s.begin < s.end) xs
front_some xs y apart k d low =
    let here = apart.some k d (omega (arith, length-append xs (y ∷ []))) in
    subst (λ (s : Stretch). s.begin < s.end) (get_or_append_left xs (y ∷ []) d k low) here

front_apart : (xs : List Stretch) (y : Stretch) → IsApart (xs ++ y ∷ []) → AllPairs (λ (s t : Stretch). s.end < t.begin) xs
front_apart xs y apart i j d less within =
    let here = apart.apart i j d less (omega (arith, length-append xs (y ∷ []))) in
    subst (λ (t : Stretch). (get_or xs i d).end < t.begin) (get_or_append_left xs (y ∷ []) d j within)
    (subst (λ (s : Stretch). s.end < (get_or (xs ++ y ∷ []) j d).begin) (get_or_append_left xs (y ∷ []) d i (omega arith)) here)

last_some : (xs : List Stretch) (y : Stretch) → IsApart (xs ++ y ∷ []) → y.begin < y.end
last_some xs y apart =
    let size = length-append xs (y ∷ []) in
    subst (λ (s : Stretch). s.begin < s.end) (at_end xs y (length xs) y (omega arith) (omega (arith, size)))
    (apart.some (length xs) y (omega (arith, size)))

push_apart : (xs : List Stretch) (y : Stretch) → All (λ (s : Stretch). s.begin < s.end) xs → AllPairs (λ (s t : Stretch). s.end < t.begin) xs
    → y.begin < y.end → ((k : ℕ) (d : Stretch) → k < length xs → (get_or xs k d).end < y.begin) → IsApart (xs ++ y ∷ [])
push_apart xs y some apart new behind = record {
  some = λ k d within. elim (cases_lt k (length xs)) [
    | inl low ↦ subst (λ (s : Stretch). s.begin < s.end) (sym (get_or_append_left xs (y ∷ []) d k low)) (some k d low)
    | inr high ↦ subst (λ (s : Stretch). s.begin < s.end) (sym (at_end xs y k d high within)) new
  ];
  apart = all_pairs_push (λ (s t : Stretch). s.end < t.begin) xs y apart behind;
}

-- the last one goes on
pub goes_on : (xs : List Stretch) (last more : Stretch) → IsApart (xs ++ last ∷ []) → last.end ≡ more.begin → more.begin < more.end
    → IsApart (xs ++ (record { begin = last.begin; end = more.end }) ∷ [])
goes_on xs last more apart touch some =
    let own = last_some xs last apart in
    push_apart xs (record { begin = last.begin; end = more.end }) (front_some xs last apart) (front_apart xs last apart) (omega arith)
    (λ k d low. front_end xs last k d apart low)

-- one more behind a gap
pub one_more : (xs : List Stretch) (last more : Stretch) → IsApart (xs ++ last ∷ []) → All (λ (s : Stretch). s.end ≤ more.begin) (xs ++ last ∷ [])
    → (last.end ≡ more.begin → ⊥) → more.begin < more.end → IsApart ((xs ++ last ∷ []) ++ more ∷ [])
one_more xs last more apart behind gap some =
    let size = length-append xs (last ∷ []) in
    let own = last_some xs last apart in
    let end : last.end ≤ more.begin = subst (λ (s : Stretch). s.end ≤ more.begin) (at_end xs last (length xs) last (omega arith) (omega (arith, size)))
    (behind (length xs) last (omega (arith, size))) in
    push_apart (xs ++ last ∷ []) more apart.some apart.apart some (λ k d within. elim (cases_lt k (length xs)) [
      | inl low ↦
          let before = front_end xs last k d apart low in
          subst (λ (s : Stretch). s.end < more.begin) (sym (get_or_append_left xs (last ∷ []) d k low)) (omega arith)
      | inr high ↦ subst (λ (s : Stretch). s.end < more.begin) (sym (at_end xs last k d high within)) (omega arith)
    ])

-- a section's stretch has the places of the addresses that the section holds
pub same_bytes : (address size base n : ℕ) → base ≤ address
    → (nat_le (address - base) n && nat_lt n (address - base + size)) ≡ (nat_le address (base + n) && nat_lt (base + n) (address + size))
same_bytes address size base n above = elim (cases_lt n (address - base)) [
  | inl low ↦ outside (address - base) size n (inl low) ∙ sym (outside address size (base + n) (inl (omega arith)))
  | inr high ↦ elim (cases_lt n (address - base + size)) [
    | inl short ↦ inside (address - base) size n high short ∙ sym (inside address size (base + n) (omega arith) (omega arith))
    | inr long ↦ outside (address - base) size n (inr long) ∙ sym (outside address size (base + n) (inr (omega arith)))
  ]
]
  where
    inside : (begins size n : ℕ) → begins ≤ n → n < begins + size → (nat_le begins n && nat_lt n (begins + size)) ≡ true
    inside begins size n low high = grind (arith, nat_tests)

    outside : (begins size n : ℕ) → (n < begins) ⊎ (begins + size ≤ n) → (nat_le begins n && nat_lt n (begins + size)) ≡ false
    outside begins size n (inl low) = grind (arith, nat_tests)
    outside begins size n (inr high) = grind (arith, nat_tests)
