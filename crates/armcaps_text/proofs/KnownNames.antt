-- A number that a text names as a capability is one of the capabilities.
use Rattle.std.proofs.Common.{◌≡◌, ℕ, zero, suc, ◌<◌, ◌&&◌, Bool, true, false, nat_lt, List, [], ◌∷◌, length, map, filter_map, reverse, Option, Some, None, refl, sym, ap, ◌∙◌, arith, get_or}
use Rattle.std.specs.FinMap.Entries.{by_order}
use Rattle.std.specs.FinMap.{from_entries, entries, empty, put, entries-insert, len-entries, len-empty}
use Rattle.std.specs.List.{All, list_all, cons_option}
use Rattle.std.specs.Option.{option_map_or}
use Rattle.std.specs.Ordering.{nat_cmp}
use Rattle.std.specs.Cmp.{nat_cmp_total}
use Rattle.std.specs.declared.cmp.Ordering.{Ordering}
use Rattle.std.specs.declared.cmp.Ordering.TheVariants.{Less, Equal, Greater}
use Rattle.std.proofs.lemmas.Bool.{false≢true}
use Rattle.std.proofs.lemmas.Bool.Decides.{nat_tests}
use Rattle.std.proofs.lemmas.List.Folds.{list_all-append}
use Rattle.std.proofs.lemmas.List.{reverse-append}
use Rattle.armcaps_alt.specs.Names.{IsKnown}
use Rattle.armcaps_alt.specs.declared.named_number.Named.{Named}
use Rattle.armcaps_alt.specs.declared.named_number.Named.TheVariants as named
use Rattle.armcaps_text.specs.Before.{before, name_given}
use Rattle.armcaps_text.specs.Meaning.{line_of}
use Rattle.armcaps_text.specs.declared.format.Format.{Format}
use Rattle.armcaps_text.specs.declared.line.Line.{Line}
use Rattle.armcaps_text.specs.declared.line.Line.TheVariants as line
use Rattle.armcaps_text.proofs.MadeLines.{is_ranged, line_ranged}
use Rattle.std.proofs.lemmas.Bool.{and_parts}

-- what a number stands for is known
abbrev is_known : Named → Bool
is_known (named.Cap number) = nat_lt number 53
is_known (named.Given on) = true

abbrev known_entry : ℕ × Named → Bool
known_entry entry = is_known entry.1

-- so is what a line names
abbrev known_name : Line (List ℕ) → Bool
known_name given = option_map_or known_entry (name_given given) true

-- by the range of the capability
name_ranged : (most : ℕ) (given : Line (List ℕ)) → is_ranged most given ≡ true → known_name given ≡ true
name_ranged most (line.Number number capability) h = h
name_ranged most given h = refl

line_known : (format : Format) (text : List ℕ) → known_name (line_of format text) ≡ true
line_known format text = name_ranged format.image (line_of format text) (line_ranged format text)

-- the names of lines
names_known : (format : Format) (texts : List (List ℕ)) → list_all known_entry (filter_map name_given (map (line_of format) texts)) ≡ true
names_known format [] = refl
names_known format (text ∷ texts) = by_name (name_given (line_of format text)) (line_known format text) (names_known format texts)
  where
    by_name : (found : Option (ℕ × Named)) → option_map_or known_entry found true ≡ true → list_all known_entry (filter_map name_given (map (line_of format) texts)) ≡ true → list_all known_entry (cons_option found (filter_map name_given (map (line_of format) texts))) ≡ true
    by_name None h more = more
    by_name (Some entry) h more = rw h more

-- the same from the back
known_reversed : (es : List (ℕ × Named)) → list_all known_entry es ≡ true → list_all known_entry (reverse es) ≡ true
known_reversed [] h = refl
known_reversed (e ∷ es) h =
    let first = (and_parts (known_entry e) (list_all known_entry es) h).0 in
    let more = known_reversed es ((and_parts (known_entry e) (list_all known_entry es) h).1) in
    ap (list_all known_entry) (reverse-append (e ∷ []) es) ∙ list_all-append known_entry (reverse es) (e ∷ []) ∙ rw (more, first) refl

-- an entry put among others
known_put : (es : List (ℕ × Named)) (key : ℕ) (value : Named) → is_known value ≡ true → list_all known_entry es ≡ true → list_all known_entry (put nat_cmp key value es) ≡ true
known_put [] key value h k = rw h refl
known_put (e ∷ es) key value h k = by_first (is_known e.1) refl k (known_put es key value h)
  where
    placed : (order : Ordering) → is_known e.1 ≡ true → list_all known_entry es ≡ true → list_all known_entry (put nat_cmp key value es) ≡ true → list_all known_entry (by_order order ((key, value) ∷ e ∷ es) ((e.0, value) ∷ es) (e ∷ put nat_cmp key value es)) ≡ true
    placed Less first k more = rw (h, first) k
    placed Equal first k more = rw h k
    placed Greater first k more = rw first more

    by_first : (first : Bool) → is_known e.1 ≡ first → (first && list_all known_entry es) ≡ true → (list_all known_entry es ≡ true → list_all known_entry (put nat_cmp key value es) ≡ true) → list_all known_entry (put nat_cmp key value (e ∷ es)) ≡ true
    by_first false first k more = absurd (false≢true k)
    by_first true first k more = placed (nat_cmp key e.0) first k (more k)

nothing : {X : Type 0} (xs : List X) → length xs ≡ 0 → xs ≡ []
nothing [] h = refl
nothing (x ∷ xs) h = absurd (omega arith)

-- all entries of a map
known_map : (es : List (ℕ × Named)) → list_all known_entry es ≡ true → list_all known_entry (entries (from_entries {R = nat_cmp} es)) ≡ true
known_map [] h =
    let none : entries (empty {X = Named} {R = nat_cmp}) ≡ [] = nothing (entries empty) (sym (len-entries empty) ∙ len-empty nat_cmp Named) in
    rw none refl
known_map (e ∷ es) h = by_first (is_known e.1) refl h (known_map es)
  where
    by_first : (first : Bool) → is_known e.1 ≡ first → (first && list_all known_entry es) ≡ true → (list_all known_entry es ≡ true → list_all known_entry (entries (from_entries {R = nat_cmp} es)) ≡ true) → list_all known_entry (entries (from_entries {R = nat_cmp} (e ∷ es))) ≡ true
    by_first false first k more = absurd (false≢true k)
    by_first true first k more = rw (entries-insert nat_cmp_total (from_entries es) e.0 e.1) (known_put (entries (from_entries es)) e.0 e.1 first (more k))

-- what a test says of a value
known_value : (value : Named) → is_known value ≡ true → IsKnown value
known_value (named.Cap number) h = grind (arith, nat_tests)
known_value (named.Given on) h = tt

known_all : (es : List (ℕ × Named)) → list_all known_entry es ≡ true → (k : ℕ) (d : ℕ × Named) → k < length es → IsKnown (get_or es k d).1
known_all [] h k d lt = absurd (omega arith)
known_all (e ∷ es) h zero d lt = known_value e.1 ((and_parts (known_entry e) (list_all known_entry es) h).0)
known_all (e ∷ es) h (suc k) d lt = known_all es ((and_parts (known_entry e) (list_all known_entry es) h).1) k d (omega arith)

-- the numbers that lines name
pub numbers_known : (format : Format) (texts : List (List ℕ)) → All (λ e. IsKnown e.1) (entries (before (map (line_of format) texts)).numbers)
unfolding before
numbers_known format texts =
    let names : List (ℕ × Named) = filter_map name_given (map (line_of format) texts) in
    known_all (entries (from_entries (reverse names))) (known_map (reverse names) (known_reversed names (names_known format texts)))
