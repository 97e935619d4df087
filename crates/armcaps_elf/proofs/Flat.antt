-- The flat image, section by section.
use Rattle.std.proofs.Common.{◌≡◌, ◌⊎◌, ◌+◌, ◌-◌, ◌<◌, ◌≤◌, ◌&&◌, ◌++◌, ℕ, Bool, List, Option, ap, arith, cond, drop, false, get_or, inl, inr, length, length-take, map, nat_le, nat_lt, refl, subst, sym, take, true, ◌∙◌, if◌then◌else◌}
use Rattle.std.specs.List.{All, AllPairs, list_any, range_with_len}
use Rattle.std.specs.Option.{option_map_or}
use Rattle.std.proofs.lemmas.Bool.{cases_lt}
use Rattle.std.proofs.lemmas.Bool.Decides.{nat_tests}
use Rattle.std.proofs.lemmas.List.{get_or_append_left, get_or-append_right, get_or-drop, get_or-take}
use Rattle.std.proofs.lemmas.List.Folds.{Any-from_list_any}
use Rattle.std.proofs.lemmas.List.Sorted.{IsPermutation-refl}
use borrow.Rule.Slice.PartMut.{put_mid}
use Rattle.armcaps_io.proofs.Sent.{piece_bytes}
use Rattle.armcaps_elf.specs.declared.section.Section.{Section}
use Rattle.armcaps_elf.specs.Headers.{sections_of}
use Rattle.armcaps_elf.specs.Images.{byte_at, flat_image}
use Rattle.armcaps_elf.specs.Sections.{Follows, base_of, holds}
use Rattle.armcaps_elf.specs.Standing.{Loaded, StandsFor}
use Rattle.armcaps_elf.proofs.Holding.{find_held, find_none, find_same, none_hold, one_holds}

abbrev begin : Section → ℕ
begin section = section.address

-- the file's byte at an address that a section holds
abbrev pub byte_of_file : List ℕ → Section → ℕ → ℕ
byte_of_file file section address = get_or file (section.place + (address - section.address)) 0

-- of the first n sections the bytes are in the image, and it has zeros elsewhere
pub record HasFirst (sections : List Section) (base : ℕ) (file flat : List ℕ) (n : ℕ) : Type 0 where
  pub put : (k j : ℕ) (d : Section) → k < n → holds begin (base + j) (get_or sections k d) ≡ true
      → get_or flat j 0 ≡ byte_of_file file (get_or sections k d) (base + j)
  pub zeros : (j : ℕ) → ((k : ℕ) (d : Section) → k < n → holds begin (base + j) (get_or sections k d) ≡ false) → get_or flat j 0 ≡ 0

-- one section more
pub first_more : (sections : List Section) (base : ℕ) (file old new : List ℕ) (n : ℕ) (x : Section) → AllPairs (Follows begin) sections
    → n < length sections → ((d : Section) → get_or sections n d ≡ x)
    → ((j : ℕ) → get_or new j 0 ≡ (if holds begin (base + j) x then byte_of_file file x (base + j) else get_or old j 0))
    → HasFirst sections base file old n → HasFirst sections base file new (n + 1)
first_more sections base file old new n x follow within is put before = record {
  put = λ k j d low there. elim (cases_lt k n) [
    | inl earlier ↦
        let other : holds begin (base + j) x ≡ false =
        subst (λ s. holds begin (base + j) s ≡ false) (is d) (one_holds begin (base + j) (get_or sections k d) (get_or sections n d) (follow k n d earlier within) there) in
        put j ∙ (ap (λ b. cond b (byte_of_file file x (base + j)) (get_or old j 0)) other ∙ before.put k j d earlier there)
    | inr last ↦
        let same : k ≡ n = omega arith in
        let here : get_or sections k d ≡ x = ap (λ i. get_or sections i d) same ∙ is d in
        let yes : holds begin (base + j) x ≡ true = ap (holds begin (base + j)) (sym here) ∙ there in
        put j ∙ (ap (λ b. cond b (byte_of_file file x (base + j)) (get_or old j 0)) yes ∙ ap (λ s. byte_of_file file s (base + j)) (sym here))
  ];
  zeros = λ j none.
      let other : holds begin (base + j) x ≡ false = ap (holds begin (base + j)) (sym (is x)) ∙ none n x (omega arith) in
      put j ∙ (ap (λ b. cond b (byte_of_file file x (base + j)) (get_or old j 0)) other ∙ before.zeros j (λ k d low. none k d (omega arith)));
}

-- with all sections the byte is that of the definition
byte_by : (ys : List Section) (base : ℕ) (file flat : List ℕ) (j : ℕ) (b : Bool) → AllPairs (Follows begin) ys
    → HasFirst ys base file flat (length ys) → list_any (holds begin (base + j)) ys ≡ b → get_or flat j 0 ≡ byte_at ys file (base + j)
byte_by ys base file flat j true follow all some =
    let any = Any-from_list_any (holds begin (base + j)) ys some in
    let there : holds begin (base + j) (get_or ys any.0 any.1) ≡ true = ap (holds begin (base + j)) any.3 ∙ any.4 in
    let find = find_held begin (base + j) ys ys any.0 any.1 (IsPermutation-refl ys) follow any.2 there in
    all.put any.0 j any.1 any.2 there
    ∙ sym (ap (λ (found : Option Section). option_map_or (λ s. byte_of_file file s (base + j)) found 0) find)
byte_by ys base file flat j false follow all none =
    let fail : All (λ y. holds begin (base + j) y ≡ false) ys = none_hold begin (base + j) ys none in
    let find = find_none begin (base + j) ys ys (IsPermutation-refl ys) fail in
    all.zeros j (λ k d within. fail k d within)
    ∙ sym (ap (λ (found : Option Section). option_map_or (λ s. byte_of_file file s (base + j)) found 0) find)

pub byte_is : (ys : List Section) (base : ℕ) (file flat : List ℕ) (j : ℕ) → AllPairs (Follows begin) ys
    → HasFirst ys base file flat (length ys) → get_or flat j 0 ≡ byte_at ys file (base + j)
byte_is ys base file flat j follow all = byte_by ys base file flat j _ follow all refl

-- an image with those bytes is the flat image
pub flat_is : (loaded : Loaded) (file flat : List ℕ) → StandsFor loaded file → length flat ≡ loaded.span
    → ((j : ℕ) → get_or flat j 0 ≡ byte_at loaded.sections file (loaded.base + j)) → flat ≡ flat_image file
flat_is loaded file flat stands size each =
    let ss = sections_of file in
    let whole = piece_bytes (byte_at ss file) loaded.base loaded.span flat size (λ j within.
    each j ∙ ap (λ (found : Option Section). option_map_or (λ s. byte_of_file file s (loaded.base + j)) found 0)
    (find_same begin (loaded.base + j) ss loaded.sections stands.sections stands.rise)) in
    whole ∙ (ap (λ b. map (byte_at ss file) (range_with_len b loaded.span)) stands.base
    ∙ ap (λ n. map (byte_at ss file) (range_with_len (base_of ss) n)) stands.span)

is_held : (begins size number : ℕ) → begins ≤ number → number < begins + size → (nat_le begins number && nat_lt number (begins + size)) ≡ true
is_held begins size number low high = grind (arith, nat_tests)

not_held : (begins size number : ℕ) → (number < begins) ⊎ (begins + size ≤ number) → (nat_le begins number && nat_lt number (begins + size)) ≡ false
not_held begins size number (inl low) = grind (arith, nat_tests)
not_held begins size number (inr high) = grind (arith, nat_tests)

-- a part of a list that is written over
pub put_is : (flat file ys : List ℕ) (base : ℕ) (s : Section) (a k j : ℕ) → a ≡ s.address - base → k ≡ s.size → base ≤ s.address
    → s.address + s.size ≤ base + length flat → length ys ≡ k → ((i : ℕ) → i < k → get_or ys i 0 ≡ get_or file (s.place + i) 0)
    → get_or (put_mid a k flat ys) j 0 ≡ cond (holds begin (base + j) s) (byte_of_file file s (base + j)) (get_or flat j 0)
put_is flat file ys base s a k j at size above below len each =
    let front : length (take a flat) ≡ a = omega (arith, length-take a flat) in
    elim (cases_lt j a) [
      | inl before ↦
          let out : holds begin (base + j) s ≡ false = not_held s.address s.size (base + j) (inl (omega arith)) in
          get_or_append_left (take a flat) (ys ++ drop k (drop a flat)) 0 j (omega (arith, front))
          ∙ (get_or-take a flat j 0 before ∙ sym (ap (λ b. cond b (byte_of_file file s (base + j)) (get_or flat j 0)) out))
      | inr behind ↦
          let tail = get_or-append_right (take a flat) (ys ++ drop k (drop a flat)) a j 0 front behind in
          elim (cases_lt (j - a) k) [
            | inl inside ↦
                let yes : holds begin (base + j) s ≡ true = is_held s.address s.size (base + j) (omega arith) (omega arith) in
                let at_i : base + j - s.address ≡ j - a = omega arith in
                tail ∙ (get_or_append_left ys (drop k (drop a flat)) 0 (j - a) (omega (arith, len))
                ∙ (each (j - a) inside ∙ (ap (λ i. get_or file (s.place + i) 0) (sym at_i)
                ∙ sym (ap (λ b. cond b (byte_of_file file s (base + j)) (get_or flat j 0)) yes))))
            | inr outside ↦
                let out : holds begin (base + j) s ≡ false = not_held s.address s.size (base + j) (inr (omega arith)) in
                let at_j : a + (k + (j - a - k)) ≡ j = omega arith in
                tail ∙ (get_or-append_right ys (drop k (drop a flat)) k (j - a) 0 len outside
                ∙ (get_or-drop k (drop a flat) (j - a - k) 0 ∙ (get_or-drop a flat (k + (j - a - k)) 0
                ∙ (ap (λ i. get_or flat i 0) at_j
                ∙ sym (ap (λ b. cond b (byte_of_file file s (base + j)) (get_or flat j 0)) out)))))
          ]
    ]
