-- The entries of the program's maps, as maps.
use Rattle.std.proofs.Common.{◌≡◌, ℕ, T, true, cond, List, [], ◌∷◌, map, Some, is_some, refl, sym, ap, subst, ◌∙◌}
use Rattle.std.specs.BTreeMap.{insert_entry, is_at}
use Rattle.std.specs.List.{AllByRecursion}
use Rattle.std.specs.List.Sorted.{IsStrictlySortedBy, IsStrictlyIncreasing}
use Rattle.std.specs.Map.{lookup, keys_of}
use Rattle.std.specs.Cmp.{nat_cmp_total}
use Rattle.std.specs.FinMap.{find, put, from_entries, insert, entries, contains_key, get-from_entries, get-from_sorted, entries-from_sorted, from_sorted, is_sorted, get-insert, same_map, nat_cmp-IsAntisymmetric}
use Rattle.std.specs.FinMap.Entries.{find-put, below_all}
use Rattle.std.proofs.lemmas.Map.Keys.{IsStrictlyIncreasing-from_sorted}
use Rattle.std.specs.Ordering.{nat_cmp, is_eq, eq_by_cmp}
use Rattle.std.specs.declared.cmp.Ordering.{Ordering}
use Rattle.std.specs.declared.cmp.Ordering.TheVariants.{Less, Equal, Greater}

-- where an entry goes
insert_entry-put : {V : Type 0} (es : List (ℕ × V)) (key : ℕ) (value : V) → insert_entry nat_cmp es key value ≡ put nat_cmp key value es
insert_entry-put [] key value = refl
insert_entry-put {V} (e ∷ es) key value = by_order (nat_cmp key e.0) refl (insert_entry-put es key value)
  where
    by_order : (order : Ordering) → nat_cmp key e.0 ≡ order → insert_entry nat_cmp es key value ≡ put nat_cmp key value es → insert_entry nat_cmp (e ∷ es) key value ≡ put nat_cmp key value (e ∷ es)
    by_order Less h ih = rw h refl
    by_order Equal h ih = rw h refl
    by_order Greater h ih = rw h (ap (λ (more : List (ℕ × V)). e ∷ more) ih)

-- one more entry
pub put_entry : {V : Type 0} (old new : List (ℕ × V)) (key : ℕ) (value : V) → new ≡ insert_entry nat_cmp old key value → from_entries {R = nat_cmp} new ≡ insert (from_entries old) key value
put_entry {V} old new key value h =
    same_map nat_cmp_total nat_cmp-IsAntisymmetric _ _ (λ q.
    get-from_entries nat_cmp_total new q
    ∙ ap (find nat_cmp q) (h ∙ insert_entry-put old key value)
    ∙ find-put nat_cmp nat_cmp_total q key value old
    ∙ sym (get-insert nat_cmp_total (from_entries old) key value q ∙ ap (cond (eq_by_cmp nat_cmp q key) (Some value)) (get-from_entries nat_cmp_total old q)))

-- what stands at a key
lookup-find : {V : Type 0} (key : ℕ) (es : List (ℕ × V)) → lookup (is_at (nat_cmp key)) es ≡ find nat_cmp key es
lookup-find key [] = refl
lookup-find {V} key (e ∷ es) = ap (cond (is_eq (nat_cmp key e.0)) (Some e.1)) (lookup-find key es)

pub looked_up : {V : Type 0} (es : List (ℕ × V)) (key : ℕ) → is_some (lookup (is_at (nat_cmp key)) es) ≡ contains_key (from_entries {R = nat_cmp} es) key
looked_up es key = ap is_some (lookup-find key es ∙ sym (get-from_entries nat_cmp_total es key))

-- keys that rise, as a map tests it
below_each : {V : Type 0} (key : ℕ) (es : List (ℕ × V)) → AllByRecursion (λ other. nat_cmp key other ≡ Less) (keys_of es) → below_all nat_cmp key es ≡ true
below_each key [] h = refl
below_each key (e ∷ es) h = rw h.0 (below_each key es h.1)

rise_tested : {V : Type 0} (es : List (ℕ × V)) → IsStrictlySortedBy nat_cmp (keys_of es) → is_sorted nat_cmp es ≡ true
unfolding IsStrictlySortedBy
rise_tested [] h = refl
rise_tested (e ∷ es) h = rw (below_each e.0 es h.0) (rise_tested es h.1)

-- the entries of a map whose keys rise
pub sorted_entries : {V : Type 0} (es : List (ℕ × V)) → IsStrictlySortedBy nat_cmp (keys_of es) → entries (from_entries {R = nat_cmp} es) ≡ es
sorted_entries {V} es h =
    let sorted : T (is_sorted nat_cmp es) = subst T (sym (rise_tested es h)) tt in
    let same : from_entries {R = nat_cmp} es ≡ from_sorted es = same_map nat_cmp_total nat_cmp-IsAntisymmetric _ _ (λ q. get-from_entries nat_cmp_total es q ∙ sym (get-from_sorted nat_cmp es q sorted)) in
    ap entries same ∙ entries-from_sorted nat_cmp es sorted

-- their numbers rise
pub rising : {V : Type 0} (es : List (ℕ × V)) → IsStrictlySortedBy nat_cmp (keys_of es) → IsStrictlyIncreasing (map (λ e. e.0) es)
rising es h = IsStrictlyIncreasing-from_sorted (keys_of es) h
