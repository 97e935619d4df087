-- The file with a flat image in it, piece after piece.
use Rattle.std.proofs.Common.{◌≡◌, ◌⊎◌, ◌+◌, ◌-◌, ◌<◌, ◌≤◌, ◌&&◌, ◌++◌, ℕ, Err, List, Ok, OnErr, OnOk, Option, Result, Some, [], ◌∷◌, ap, append_assoc, arith, drop, false, get_or, inl, inr, length, length-drop, length-take, map, nat_le, nat_lt, refl, subst, sym, take, true, ◌∙◌}
use Rattle.std.specs.List.{All, AllPairs, range_with_len}
use Rattle.std.specs.List.Sorted.{IsPermutation}
use Rattle.std.specs.Option.{option_map_or}
use Rattle.std.proofs.lemmas.Bool.{cases_lt}
use Rattle.std.proofs.lemmas.Bool.Decides.{nat_tests}
use Rattle.std.proofs.lemmas.List.{get_or-drop, get_or-take, get_or_default}
use Rattle.std.proofs.lemmas.List.Sorted.{IsPermutation-refl, IsPermutation-trans}
use Rattle.armcaps_io.proofs.StreamLemmas.{Appends-trans}
use Rattle.armcaps_io.proofs.Sent.{piece_bytes, pieces_join, prefix_behind, sent_more}
use Rattle.armcaps_io.specs.Pieces.{bytes_from}
use Rattle.armcaps_io.specs.Streams.{Appends, AppendsPrefix}
use Rattle.armcaps_elf.specs.declared.section.Section.{Section}
use Rattle.armcaps_elf.specs.Headers.{sections_of}
use Rattle.armcaps_elf.specs.Images.{put_byte, put_image}
use Rattle.armcaps_elf.specs.Sections.{Follows, holds}
use Rattle.armcaps_elf.specs.Standing.{Loaded, StandsFor}
use Rattle.armcaps_elf.proofs.Holding.{find_held, find_none, find_same}

-- a first part of two pieces is one of the first piece, or the first piece and a first part of the second
pub prefix_of_first : (a b : Option (List ℕ)) (xs ys : List ℕ) → AppendsPrefix a b xs → AppendsPrefix a b (xs ++ ys)
prefix_of_first a b xs ys sent = record {
  part = sent.part;
  rest = sent.rest ++ ys;
  whole = sym (append_assoc sent.part sent.rest ys) ∙ ap (λ zs. zs ++ ys) sent.whole;
  appended = sent.appended;
}

pub prefix_of_second : (a b c : Option (List ℕ)) (xs ys : List ℕ) → Appends a b xs → AppendsPrefix b c ys → AppendsPrefix a c (xs ++ ys)
prefix_of_second a b c xs ys first sent = record {
  part = xs ++ sent.part;
  rest = sent.rest;
  whole = append_assoc xs sent.part sent.rest ∙ ap (λ zs. xs ++ zs) sent.whole;
  appended = Appends-trans a b c xs sent.part first sent.appended;
}

-- what follows where a call answered so
pub on_err : {T E P Q : Type 0} (r : Result T E) → (P → Q) → OnErr r P → OnErr r Q
on_err (Ok x) follows holds = holds
on_err (Err e) follows holds = follows holds

pub on_ok : {T E P Q : Type 0} (r : Result T E) → (P → Q) → OnOk r P → OnOk r Q
on_ok (Ok x) follows holds = follows holds
on_ok (Err e) follows holds = holds

-- a piece behind what was sent before it, which is all below its begin
pub sent_piece : (a b c : Option (List ℕ)) (f : ℕ → ℕ) (done n end : ℕ) (xs : List ℕ) → xs ≡ bytes_from f done n → done + n ≡ end
    → Appends a b (bytes_from f 0 done) → Appends b c xs → Appends a c (bytes_from f 0 end)
sent_piece a b c f done n end xs piece is before more =
    subst (λ m. Appends a c (bytes_from f 0 m)) is
    (sent_more a b c f 0 done done n (omega arith) before (subst (Appends b c) piece more))

pub prefix_piece : (a b c : Option (List ℕ)) (f : ℕ → ℕ) (done n all : ℕ) (xs : List ℕ) → xs ≡ bytes_from f done n → done + n ≤ all
    → Appends a b (bytes_from f 0 done) → AppendsPrefix b c xs → AppendsPrefix a c (bytes_from f 0 all)
prefix_piece a b c f done n all xs piece within before more =
    prefix_behind a b c f 0 done done n all (omega arith) within before (subst (AppendsPrefix b c) piece more)

abbrev place_of : Section → ℕ
place_of section = section.place

module _ (ys : List Section) (base : ℕ) (file flat : List ℕ) where
  abbrev byte : ℕ → ℕ
  byte = put_byte ys base file flat

  -- where no section is, the bytes are the file's own
  pub gap_is : (from n : ℕ) → from + n ≤ length file
      → ((j : ℕ) → j < n → All (λ y. holds place_of (from + j) y ≡ false) ys) → take n (drop from file) ≡ bytes_from byte from n
  gap_is from n within none =
      let size : length (take n (drop from file)) ≡ n = omega (arith, length-take n (drop from file), length-drop from file) in
      piece_bytes byte from n (take n (drop from file)) size (λ j inside.
      let low : j < n = omega (arith, size) in
      let nowhere = find_none place_of (from + j) ys ys (IsPermutation-refl ys) (none j low) in
      get_or-take n (drop from file) j 0 low ∙ (get_or-drop from file j 0
      ∙ sym (ap (λ (found : Option Section). option_map_or (λ s. get_or flat (s.address + (from + j - s.place) - base) 0) found (get_or file (from + j) 0)) nowhere)))

  -- a section's bytes are the flat image's
  pub body_is : (k : ℕ) (x : Section) → AllPairs (Follows place_of) ys → k < length ys → get_or ys k x ≡ x → base ≤ x.address
      → x.address + x.size ≤ base + length flat → take x.size (drop (x.address - base) flat) ≡ bytes_from byte x.place x.size
  body_is k x follow within is above below =
      let from = x.address - base in
      let size : length (take x.size (drop from flat)) ≡ x.size = omega (arith, length-take x.size (drop from flat), length-drop from flat) in
      piece_bytes byte x.place x.size (take x.size (drop from flat)) size (λ j inside.
      let low : j < x.size = omega (arith, size) in
      let there : holds place_of (x.place + j) (get_or ys k x) ≡ true = ap (holds place_of (x.place + j)) is ∙ is_held x.place x.size j low in
      let found = find_held place_of (x.place + j) ys ys k x (IsPermutation-refl ys) follow within there ∙ ap Some is in
      let index : from + j ≡ x.address + (x.place + j - x.place) - base = omega arith in
      get_or-take x.size (drop from flat) j 0 low ∙ (get_or-drop from flat j 0 ∙ (ap (λ i. get_or flat i 0) index
      ∙ sym (ap (λ (found : Option Section). option_map_or (λ s. get_or flat (s.address + (x.place + j - s.place) - base) 0) found (get_or file (x.place + j) 0)) found))))
    where
      is_held : (begins size j : ℕ) → j < size → (nat_le begins (begins + j) && nat_lt (begins + j) (begins + size)) ≡ true
      is_held begins size j low = grind (arith, nat_tests)

  -- what was written before a section ends where those before it end, and those from it on begin behind that
  pub record IsBetween (done index : ℕ) : Type 0 where
    pub before : (i : ℕ) (d : Section) → i < index → i < length ys → (get_or ys i d).place + (get_or ys i d).size ≤ done
    pub behind : (i : ℕ) (d : Section) → index ≤ i → i < length ys → done ≤ (get_or ys i d).place

  pub between_more : (done index : ℕ) (x : Section) → AllPairs (Follows place_of) ys → index < length ys
      → ((d : Section) → get_or ys index d ≡ x) → IsBetween done index → IsBetween (x.place + x.size) (index + 1)
  between_more done index x follow within is so = record {
    before = λ i d low short. elim (cases_lt i index) [
      | inl earlier ↦
          let end = so.before i d earlier short in
          let start : done ≤ x.place = subst (λ (s : Section). done ≤ s.place) (is d) (so.behind index d (omega arith) within) in
          omega (arith, end, start)
      | inr last ↦
          let same : i ≡ index = omega arith in
          let here : get_or ys i d ≡ x = ap (λ k. get_or ys k d) same ∙ is d in
          subst (λ (s : Section). s.place + s.size ≤ x.place + x.size) (sym here) (omega arith)
    ];
    behind = λ i d high short.
        subst (λ (s : Section). s.place + s.size ≤ (get_or ys i d).place) (is d) (follow index i d (omega arith) short);
  }

  not_held : (s : Section) (number : ℕ) → (number < s.place) ⊎ (s.place + s.size ≤ number) → holds place_of number s ≡ false
  not_held s number (inl low) = grind (arith, nat_tests)
  not_held s number (inr high) = grind (arith, nat_tests)

  -- no section holds a place between them
  pub none_between : (done index place : ℕ) → IsBetween done index → done ≤ place
      → ((d : Section) → index < length ys → place < (get_or ys index d).place) → AllPairs (Follows place_of) ys
      → All (λ y. holds place_of place y ≡ false) ys
  none_between done index place so low high follow = λ i d short. elim (cases_lt i index) [
    | inl earlier ↦ not_held (get_or ys i d) place (inr (omega (arith, so.before i d earlier short)))
    | inr later ↦ elim (cases_lt index i) [
      | inl more ↦ not_held (get_or ys i d) place (inl (omega (arith, high d (omega arith), follow index i d more short)))
      | inr here ↦
          let same : index ≡ i = omega arith in
          not_held (get_or ys i d) place (inl (subst (λ k. place < (get_or ys k d).place) same (high d (omega arith))))
    ]
  ]

  -- the bytes to a section's begin, and the section's own
  pub piece_is : (done index : ℕ) (x : Section) → AllPairs (Follows place_of) ys → index < length ys
      → ((d : Section) → get_or ys index d ≡ x) → IsBetween done index → x.place + x.size ≤ length file → base ≤ x.address
      → x.address + x.size ≤ base + length flat
      → take (x.place - done) (drop done file) ++ take x.size (drop (x.address - base) flat) ≡ bytes_from byte done (x.place + x.size - done)
  piece_is done index x follow within is so inside above below =
      let start : done ≤ x.place = subst (λ (s : Section). done ≤ s.place) (is x) (so.behind index x (omega arith) within) in
      let gap = gap_is done (x.place - done) (omega arith) (λ j low. none_between done index (done + j) so (omega arith)
      (λ d short. subst (λ (s : Section). done + j < s.place) (sym (is d)) (omega arith)) follow) in
      let body = body_is index x follow within (is x) above below in
      let at : done + (x.place - done) ≡ x.place = omega arith in
      let size : x.place - done + x.size ≡ x.place + x.size - done = omega arith in
      ap (λ zs. zs ++ take x.size (drop (x.address - base) flat)) gap
      ∙ (ap (λ zs. bytes_from byte done (x.place - done) ++ zs) (body ∙ ap (λ p. bytes_from byte p x.size) (sym at))
      ∙ (pieces_join byte done (x.place - done) x.size ∙ ap (bytes_from byte done) size))

  -- the rest of the file, where the last section ends before it
  pub rest_is : (done index : ℕ) → length ys ≤ index → done ≤ length file → IsBetween done index → AllPairs (Follows place_of) ys
      → take (length file - done) (drop done file) ≡ bytes_from byte done (length file - done)
  rest_is done index all within so follow =
      gap_is done (length file - done) (omega arith) (λ j low. none_between done index (done + j) so (omega arith)
      (λ d short. absurd (omega arith)) follow)

  -- what is written before the next section, and with it
  pub record IsNext (done index : ℕ) (x : Section) : Type 0 where
    pub start : done ≤ x.place
    pub inside : x.place + x.size ≤ length file
    pub piece : take (x.place - done) (drop done file) ++ take x.size (drop (x.address - base) flat) ≡ bytes_from byte done (x.place + x.size - done)
    pub between : IsBetween (x.place + x.size) (index + 1)

  pub next_is : (done index : ℕ) (d : Section) → AllPairs (Follows place_of) ys → All (λ y. y.place + y.size ≤ length file) ys
      → All (λ y. base ≤ y.address) ys → All (λ y. y.address + y.size ≤ base + length flat) ys → IsBetween done index → index < length ys
      → IsNext done index (get_or ys index d)
  next_is done index d follow inside above below so within =
      let x = get_or ys index d in
      let same : (e : Section) → get_or ys index e ≡ x = λ e. get_or_default ys index e d within in record {
        start = so.behind index d (omega arith) within;
        inside = inside index d within;
        piece = piece_is done index x follow within same so (inside index d within) (above index d within) (below index d within);
        between = between_more done index x follow within same so;
      }

  -- the rest of the file behind the last section
  module _ {T E : Type 0} (sent : Result T E) (a b c : Option (List ℕ)) (done index : ℕ) (all : length ys ≤ index) (within : done ≤ length file) (so : IsBetween done index)
      (follow : AllPairs (Follows place_of) ys) (before : Appends a b (bytes_from byte 0 done)) where
    abbrev rest : List ℕ
    rest = take (length file - done) (drop done file)

    pub last_sent : OnOk sent (Appends b c rest) → OnOk sent (Appends a c (bytes_from byte 0 (length file)))
    last_sent more = on_ok sent (sent_piece a b c byte done (length file - done) (length file) rest (rest_is done index all within so follow)
        (omega (arith, within)) before) more

    pub last_cut : OnErr sent (AppendsPrefix b c rest) → OnErr sent (AppendsPrefix a c (bytes_from byte 0 (length file)))
    last_cut more = on_err sent (prefix_piece a b c byte done (length file - done) (length file) rest (rest_is done index all within so follow)
        (omega (arith, within)) before) more

map_same : {X Y : Type 0} (f g : X → Y) (xs : List X) → ((x : X) → f x ≡ g x) → map f xs ≡ map g xs
map_same f g [] same = refl
map_same f g (x ∷ xs) same = rw (same x, map_same f g xs same) refl

-- the order of the sections doesn't matter
pub put_same : (xs ys : List Section) (base : ℕ) (file flat places : List ℕ) → IsPermutation xs ys → AllPairs (Follows place_of) ys
    → map (put_byte ys base file flat) places ≡ map (put_byte xs base file flat) places
put_same xs ys base file flat places moved follow =
    map_same (put_byte ys base file flat) (put_byte xs base file flat) places (λ place.
    ap (λ (found : Option Section). option_map_or (λ s. get_or flat (s.address + (place - s.place) - base) 0) found (get_or file place 0))
    (find_same place_of place xs ys moved follow))

-- what is written of the sections in the order of their places is the file with the flat image in it
pub put_is : (loaded : Loaded) (ys : List Section) (base : ℕ) (file flat : List ℕ) → StandsFor loaded file → IsPermutation loaded.sections ys
    → AllPairs (Follows place_of) ys → base ≡ loaded.base → map (put_byte ys base file flat) (range_with_len 0 (length file)) ≡ put_image file flat
put_is loaded ys base file flat stands moved follow same =
    let places = range_with_len 0 (length file) in
    put_same (sections_of file) ys base file flat places (IsPermutation-trans _ _ _ stands.sections moved) follow
    ∙ ap (λ b. map (put_byte (sections_of file) b file flat) places) (same ∙ stands.base)
