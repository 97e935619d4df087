-- A file with its own flat image in it, and with another one.
use Rattle.std.proofs.Common.{◌≡◌, ◌≢◌, ◌+◌, ◌-◌, ◌%◌, ◌^◌, ◌<◌, ◌≤◌, ◌&&◌, ◌||◌, ℕ, Bool, List, None, Option, Some, [], ◌∷◌, ap, arith, cond, count_by, false, find, get_or, inl, inr, length, map, max, min, nat_le, nat_lt, refl, suc, subst, sym, true, zero, ◌∙◌}
use Rattle.std.specs.List.{All, Contains, fold, range_with_len}
use Rattle.std.specs.Option.{option_map_or}
use Rattle.std.proofs.lemmas.Bool.{cases_lt}
use Rattle.std.proofs.lemmas.Bool.Decides.{nat_tests}
use Rattle.std.proofs.lemmas.Grind.{same_number_lists}
use Rattle.std.proofs.lemmas.List.{get_or_default}
use Rattle.std.proofs.lemmas.List.Folds.{list_any_at}
use Rattle.std.proofs.lemmas.List.FromFn.{get_or-map-range_with_len, length-map-range_with_len}
use Rattle.armcaps_elf.specs.declared.section.Section.{Section}
use Rattle.armcaps_elf.specs.Headers.{sections_of}
use Rattle.armcaps_elf.specs.Images.{byte_at, flat_image, flat_place, put_byte, put_image}
use Rattle.armcaps_elf.specs.Sections.{base_of, greatest_end, holds, least_address, overlap, shares, span_of}
use Rattle.armcaps_elf.proofs.Holding.{find_unique}
use Rattle.armcaps_elf.proofs.Sharing.{count-two}

abbrev address_of : Section → ℕ
address_of section = section.address

abbrev place_of : Section → ℕ
place_of section = section.place

-- what is found is there and passes
found_more : {X : Type 0} (p : X → Bool) (b : Bool) (y x : X) (ys : List X) → p y ≡ b → cond b (Some y) (find p ys) ≡ Some x
    → (find p ys ≡ Some x → Contains ys x × (p x ≡ true)) → Contains (y ∷ ys) x × (p x ≡ true)
found_more p true y x ys passes is later =
    let same : y ≡ x = cc in
    ((0, omega arith, same), ap p (sym same) ∙ passes)
found_more p false y x ys fails is later =
    let there = later is in
    ((suc there.0.0, omega (arith, there.0.1), there.0.2), there.1)

pub found_there : {X : Type 0} (p : X → Bool) (xs : List X) (x : X) → find p xs ≡ Some x → Contains xs x × (p x ≡ true)
found_there p [] x is = let never : ⊥ = cc in absurd never
found_there p (y ∷ ys) x is = found_more p (p y) y x ys refl is (found_there p ys x)

-- a fold by max is above each, and one by min below each
max_from : (xs : List Section) (a : ℕ) → a ≤ fold (λ m s. max m (s.address + s.size)) a xs
max_from [] a = omega arith
max_from (x ∷ xs) a = let rest = max_from xs (max a (x.address + x.size)) in omega (arith, rest)

max_each : (xs : List Section) (a k : ℕ) (d : Section) → k < length xs
    → (get_or xs k d).address + (get_or xs k d).size ≤ fold (λ m s. max m (s.address + s.size)) a xs
max_each [] a k d within = absurd (omega arith)
max_each (x ∷ xs) a zero d within = let rest = max_from xs (max a (x.address + x.size)) in omega (arith, rest)
max_each (x ∷ xs) a (suc k) d within = max_each xs (max a (x.address + x.size)) k d (omega arith)

min_from : (xs : List Section) (a : ℕ) → fold (λ m s. min m s.address) a xs ≤ a
min_from [] a = omega arith
min_from (x ∷ xs) a = let rest = min_from xs (min a x.address) in omega (arith, rest)

min_each : (xs : List Section) (a k : ℕ) (d : Section) → k < length xs → fold (λ m s. min m s.address) a xs ≤ (get_or xs k d).address
min_each [] a k d within = absurd (omega arith)
min_each (x ∷ xs) a zero d within = let rest = min_from xs (min a x.address) in omega (arith, rest)
min_each (x ∷ xs) a (suc k) d within = min_each xs (min a x.address) k d (omega arith)

rounded : (n : ℕ) → n - n % 4096 ≤ n
rounded n = omega arith

base_below : (ss : List Section) (k : ℕ) (d : Section) → k < length ss → base_of ss ≤ (get_or ss k d).address
base_below ss k d within =
    let low = min_each ss (2 ^ 64 - 1) k d within in
    let round = rounded (least_address ss) in
    omega (arith, low, round)

end_within : (ss : List Section) (k : ℕ) (d : Section) → k < length ss
    → (get_or ss k d).address + (get_or ss k d).size ≤ base_of ss + span_of ss
end_within ss k d within =
    let high = max_each ss 0 k d within in
    let low = base_below ss k d within in
    omega (arith, high, low)

-- a section that holds an address isn't empty, and shares with each that holds the address
both_hold : (begin : Section → ℕ) (a : ℕ) (s t : Section) → holds begin a s ≡ true → holds begin a t ≡ true → shares begin s t ≡ true
both_hold begin a s t one other = grind (arith, nat_tests)

two_at_least : (n : ℕ) → 2 ≤ n → nat_le 2 n ≡ true
two_at_least n many = grind (arith, nat_tests)

-- where none overlap, no two hold an address
one_holds : (begin : Section → ℕ) (a : ℕ) (ss : List Section) (i j : ℕ) (d : Section) → overlap begin ss ≡ false → i < j → j < length ss
    → holds begin a (get_or ss i d) ≡ true → holds begin a (get_or ss j d) ≡ true → ⊥
one_holds begin a ss i j d none less within one other =
    let s = get_or ss i d in
    let two = count-two (shares begin s) ss i j d less within (both_hold begin a s s one one) (both_hold begin a s (get_or ss j d) one other) in
    let some = list_any_at (λ t. nat_le 2 (count_by (shares begin t) ss)) ss i d (omega arith) (two_at_least _ two) in
    let never : true ≡ false = sym some ∙ none in
    cc

find_only : (begin : Section → ℕ) (a : ℕ) (ss : List Section) (s : Section) → overlap begin ss ≡ false → Contains ss s
    → holds begin a s ≡ true → find (holds begin a) ss ≡ Some s
find_only begin a ss s none there is =
    let k = there.0 in
    let here : holds begin a (get_or ss k s) ≡ true = ap (holds begin a) there.2 ∙ is in
    find_unique (holds begin a) ss s k there.1 there.2 is (λ i d short pass.
    let other : holds begin a (get_or ss i s) ≡ true = ap (holds begin a) (get_or_default ss i s d short) ∙ pass in
    elim (cases_lt i k) [
      | inl before ↦ absurd (one_holds begin a ss i k s none before there.1 other here)
      | inr after ↦ elim (cases_lt k i) [
        | inl behind ↦ absurd (one_holds begin a ss k i s none behind short here other)
        | inr same ↦
            let equal : i ≡ k = omega arith in
            get_or_default ss i d s short ∙ (ap (λ n. get_or ss n s) equal ∙ there.2)
      ]
    ])

moved : (begins place size number : ℕ) → (nat_le place number && nat_lt number (place + size)) ≡ true
    → (nat_le begins (begins + (number - place)) && nat_lt (begins + (number - place)) (begins + size)) ≡ true
moved begins place size number is = grind (arith, nat_tests)

bounds_of : (place size number : ℕ) → (nat_le place number && nat_lt number (place + size)) ≡ true → (place ≤ number) × (number < place + size)
bounds_of place size number is = (grind (arith, nat_tests), grind (arith, nat_tests))

-- the flat image has at a loaded byte's address that byte
pub own_byte : (file : List ℕ) (s : Section) (place : ℕ) → overlap address_of (sections_of file) ≡ false → Contains (sections_of file) s
    → holds place_of place s ≡ true → get_or (flat_image file) (flat_place (sections_of file) s place) 0 ≡ get_or file place 0
own_byte file s place none there is =
    let ss = sections_of file in
    let inside = bounds_of s.place s.size place is in
    let low : base_of ss ≤ s.address = subst (λ (t : Section). base_of ss ≤ t.address) there.2 (base_below ss there.0 s there.1) in
    let high : s.address + s.size ≤ base_of ss + span_of ss =
    subst (λ (t : Section). t.address + t.size ≤ base_of ss + span_of ss) there.2 (end_within ss there.0 s there.1) in
    let address = s.address + (place - s.place) in
    let at : base_of ss + flat_place ss s place ≡ address = omega (arith, low) in
    let short : flat_place ss s place < span_of ss = omega (arith, low, high, inside) in
    let found = find_only address_of address ss s none there (moved s.address s.place s.size place is) in
    let back : s.place + (address - s.address) ≡ place = omega (arith, inside) in
    get_or-map-range_with_len (byte_at ss file) (base_of ss) (span_of ss) (flat_place ss s place) address 0 short at
    ∙ (ap (λ (t : Option Section). option_map_or (λ x. get_or file (x.place + (address - x.address)) 0) t 0) found ∙ ap (λ p. get_or file p 0) back)

put_own : (file : List ℕ) (place : ℕ) (f : Option Section) → overlap address_of (sections_of file) ≡ false
    → find (holds place_of place) (sections_of file) ≡ f
    → put_byte (sections_of file) (base_of (sections_of file)) file (flat_image file) place ≡ get_or file place 0
put_own file place None none is =
    ap (λ (t : Option Section). option_map_or (λ s. get_or (flat_image file) (flat_place (sections_of file) s place) 0) t (get_or file place 0)) is
put_own file place (Some s) none is =
    let there = found_there (holds place_of place) (sections_of file) s is in
    ap (λ (t : Option Section). option_map_or (λ s. get_or (flat_image file) (flat_place (sections_of file) s place) 0) t (get_or file place 0)) is
    ∙ own_byte file s place none there.0 there.1

pub own_image : (file : List ℕ) → overlap address_of (sections_of file) ≡ false → put_image file (flat_image file) ≡ file
own_image file none =
    let ss = sections_of file in
    let byte = put_byte ss (base_of ss) file (flat_image file) in
    let size = length-map-range_with_len byte 0 (length file) in
    same_number_lists (put_image file (flat_image file)) file size (λ k within.
    get_or-map-range_with_len byte 0 (length file) k k 0 (omega (arith, size)) (omega arith) ∙ put_own file k _ none refl)

-- a byte that differs is a loaded one
changed_by : (file flat : List ℕ) (place : ℕ) (f : Option Section) → overlap address_of (sections_of file) ≡ false
    → find (holds place_of place) (sections_of file) ≡ f
    → (put_byte (sections_of file) (base_of (sections_of file)) file flat place ≡ get_or file place 0 → ⊥)
    → (s : Section) × Contains (sections_of file) s × (holds place_of place s ≡ true)
    × (get_or flat (flat_place (sections_of file) s place) 0 ≢ get_or (flat_image file) (flat_place (sections_of file) s place) 0)
changed_by file flat place None none is differs =
    absurd (differs (ap (λ (t : Option Section). option_map_or (λ s. get_or flat (flat_place (sections_of file) s place) 0) t (get_or file place 0)) is))
changed_by file flat place (Some s) none is differs =
    let there = found_there (holds place_of place) (sections_of file) s is in
    let put = ap (λ (t : Option Section). option_map_or (λ s. get_or flat (flat_place (sections_of file) s place) 0) t (get_or file place 0)) is in
    (s, there.0, there.1, λ same. differs (put ∙ (same ∙ own_byte file s place none there.0 there.1)))

pub changed_byte : (file flat : List ℕ) (place : ℕ) → overlap address_of (sections_of file) ≡ false → place < length file
    → get_or (put_image file flat) place 0 ≢ get_or file place 0
    → (s : Section) × Contains (sections_of file) s × (holds place_of place s ≡ true)
    × (get_or flat (flat_place (sections_of file) s place) 0 ≢ get_or (flat_image file) (flat_place (sections_of file) s place) 0)
changed_byte file flat place none within differs =
    let ss = sections_of file in
    let byte = put_byte ss (base_of ss) file flat in
    changed_by file flat place _ none refl (λ same.
    differs (get_or-map-range_with_len byte 0 (length file) place place 0 within (omega arith) ∙ same))
