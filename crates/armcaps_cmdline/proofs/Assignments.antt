-- What one assignment, and one list after another, do to the overrides.
use Rattle.std.proofs.Common.{◌≡◌, ◌≢◌, ℕ, ◌+◌, ◌*◌, ◌%◌, ◌^◌, ◌<◌, ◌≤◌, ◌==◌, ◌⊎◌, ℤ, true, false, List, [], ◌∷◌, ◌++◌, length, map, reverse, find, Option, Some, None, slice_get, slice_index_or, codes, refl, sym, ap, subst, ◌∙◌, inl, inr, arith}
use Rattle.std.specs.Option.{option_map, option_and_then, option_or, option_map_or}
use Rattle.std.specs.List.{position, position_or_len, range_with_len, flat_map}
use Rattle.std.proofs.lemmas.Bool.{eq-eqb}
use Rattle.std.proofs.lemmas.Bool.Decides.{nat_tests, eqb_tells}
use Rattle.std.proofs.lemmas.Option.{slice_get_cases, slice_get_past}
use Rattle.std.proofs.lemmas.List.FromFn.{map-range_with_len_more}
use Rattle.std.proofs.Math.Pow.{pow-lt}
use Rattle.std.proofs.lemmas.List.{reverse-append}
use Rattle.std.proofs.lemmas.List.Folds.{find-append, find_at}
use Rattle.armcaps_logic.proofs.Options.{option_or-assoc}
use Rattle.armcaps_enc.specs.declared.register.SysReg.{SysReg}
use Rattle.armcaps_enc.specs.declared.register.SysReg.TheVariants.{IdAa64Pfr0El1, IdAa64Pfr1El1, IdAa64Zfr0El1, IdAa64Smfr0El1}
use Rattle.armcaps_enc.specs.Registers.{place_of}
use Rattle.armcaps_tables.specs.Facts.{has_name}
use Rattle.armcaps_tables.specs.Row.{Row}
use Rattle.armcaps_tables.specs.Rows.{rows_of}
use Rattle.armcaps_tables.specs.Overriding.{FieldOverrides, IsWhole, override_of, cut_value}
use Rattle.armcaps_enc.proofs.Places.{one_register}
use Rattle.armcaps_cmdline.specs.Assignments.{Assignment, Setting, assigned, zeros_for, is_field, dependents, is_cut_to_zero, assignments_to}
use Rattle.armcaps_cmdline.specs.Overrides.{is_to, last_number, given_override, Assigns}

-- the last of two lists that assigns a row decides
pub last_number-append : (xs ys : List Assignment) (register : SysReg) (index : ℕ)
    → last_number (xs ++ ys) register index ≡ option_or (last_number ys register index) (last_number xs register index)
last_number-append xs ys register index =
    ap (option_map (λ (a : Assignment). a.number))
    (ap (find (is_to register index)) (reverse-append xs ys)
    ∙ find-append (is_to register index) (reverse ys) (reverse xs))
    ∙ either (find (is_to register index) (reverse ys)) (find (is_to register index) (reverse xs))
  where
    either : (a b : Option Assignment)
        → option_map (λ (a : Assignment). a.number) (option_or a b)
        ≡ option_or (option_map (λ (a : Assignment). a.number) a) (option_map (λ (a : Assignment). a.number) b)
    either None b = refl
    either (Some a) b = refl

-- the same of the overrides that they give
pub given_override-append : (xs ys : List Assignment) (register : SysReg) (index : ℕ)
    → given_override (xs ++ ys) register index
    ≡ option_or (given_override ys register index) (given_override xs register index)
given_override-append xs ys register index =
    by_row (slice_get (rows_of register) index) (last_number (xs ++ ys) register index)
    (last_number ys register index) (last_number xs register index) (last_number-append xs ys register index)
  where
    by_row : (row : Option Row) (both later earlier : Option ℕ) → both ≡ option_or later earlier
        → option_and_then (λ (row : Row). option_map (λ number. cut_value row number) both) row
        ≡ option_or (option_and_then (λ (row : Row). option_map (λ number. cut_value row number) later) row)
        (option_and_then (λ (row : Row). option_map (λ number. cut_value row number) earlier) row)
    by_row None both later earlier e = refl
    by_row (Some row) both None earlier e = rw e refl
    by_row (Some row) both (Some number) earlier e = rw e refl

-- nothing to assign
pub no_override : (register : SysReg) (index : ℕ) → given_override [] register index ≡ None
no_override register index = by_row (slice_get (rows_of register) index)
  where
    by_row : (row : Option Row)
        → option_and_then (λ (row : Row). option_map (λ number. cut_value row number) None) row ≡ None
    by_row None = refl
    by_row (Some row) = refl

pub assigns_nothing : (old : FieldOverrides) → Assigns [] old old
assigns_nothing old = record { each = λ register index. rw no_override refl; whole = λ h. h }

-- one list after another
pub assigns_append : (xs ys : List Assignment) (old middle new : FieldOverrides) → Assigns xs old middle
    → Assigns ys middle new → Assigns (xs ++ ys) old new
assigns_append xs ys old middle new first second = record {
  each = λ register index.
      second.each register index
      ∙ ap (option_or (given_override ys register index)) (first.each register index)
      ∙ option_or-assoc (given_override ys register index) (given_override xs register index)
      (override_of old register index)
      ∙ ap (λ (o : Option ℤ). option_or o (override_of old register index))
      (sym (given_override-append xs ys register index));
  whole = λ h. second.whole (first.whole h);
}

-- the row of one assignment has its number
at_itself : (register : SysReg) (index number : ℕ) (old new : FieldOverrides) → index < length (rows_of register)
    → override_of new register index
    ≡ option_map (λ (row : Row). cut_value row number) (slice_get (rows_of register) index)
    → override_of new register index
    ≡ option_or (given_override (record { register = register; index = index; number = number } ∷ []) register index)
    (override_of old register index)
at_itself register index number old new within here =
    let same : (place_of register == place_of register) ≡ true = eq-eqb (place_of register) (place_of register) refl in
    let itself : (index == index) ≡ true = eq-eqb index index refl in
    rw (same, itself) (by_row (slice_get_cases (rows_of register) index).1)
  where
    by_row : ((row : Row) × (index < length (rows_of register)) × (slice_get (rows_of register) index ≡ Some row) ×
        (slice_index_or (rows_of register) index row ≡ row)) ⊎
        ((length (rows_of register) ≤ index) × (slice_get (rows_of register) index ≡ None))
        → override_of new register index
        ≡ option_or (option_and_then (λ (row : Row). option_map (λ n. cut_value row n) (Some number))
        (slice_get (rows_of register) index)) (override_of old register index)
    by_row (inl (row, lt, e, f)) = here ∙ rw e refl
    by_row (inr (far, e)) = absurd (omega arith)

-- the others keep theirs
elsewhere : (register other : SysReg) (index place number : ℕ) (old new : FieldOverrides)
    → is_to other place (record { register = register; index = index; number = number }) ≡ false
    → override_of new other place ≡ override_of old other place → override_of new other place
    ≡ option_or (given_override (record { register = register; index = index; number = number } ∷ []) other place)
    (override_of old other place)
elsewhere register other index place number old new apart kept =
    rw apart (kept ∙ sym (ap (λ (o : Option ℤ). option_or o (override_of old other place)) (no_override other place)))

-- one assignment
pub assigns_one : (register : SysReg) (index number : ℕ) (old new : FieldOverrides)
    → index < length (rows_of register) → override_of new register index
    ≡ option_map (λ (row : Row). cut_value row number) (slice_get (rows_of register) index)
    → ((other : SysReg) (place : ℕ) → (other ≢ register) ⊎ (place ≢ index) → override_of new other place
    ≡ override_of old other place) → IsWhole new
    → Assigns (record { register = register; index = index; number = number } ∷ []) old new
assigns_one register index number old new within here others all = record {
  each = λ other place. by_place other place (eqb_tells (place_of register) (place_of other)) (eqb_tells index place);
  whole = λ h. all;
}
  where
    Has : SysReg → ℕ → Type 0
    Has other place =
        override_of new other place ≡ option_or (given_override
        (record { register = register; index = index; number = number } ∷ []) other place) (override_of old other place)

    by_place : (other : SysReg) (place : ℕ)
        → (((place_of register == place_of other) ≡ true) × (place_of register ≡ place_of other)) ⊎
        (((place_of register == place_of other) ≡ false) × (place_of register ≢ place_of other))
        → (((index == place) ≡ true) × (index ≡ place)) ⊎ (((index == place) ≡ false) × (index ≢ place))
        → Has other place
    by_place other place (inl (t, e)) (inl (u, f)) =
        subst (λ (r : SysReg). Has r place) (one_register register other e)
        (subst (λ (i : ℕ). Has register i) f (at_itself register index number old new within here))
    by_place other place (inl (t, e)) (inr (u, f)) =
        elsewhere register other index place number old new (rw (t, u) refl) (others other place (inr (λ g. f (sym g))))
    by_place other place (inr (t, e)) k =
        elsewhere register other index place number old new (rw t refl)
        (others other place (inl (λ g. e (sym (ap place_of g)))))

-- 0 for the first rows of a register
abbrev pub first_zeros : SysReg → ℕ → List Assignment
first_zeros register count =
    map (λ index. record { register = register; index = index; number = 0 }) (range_with_len 0 count)

-- and for one more
pub zeros_more : (register : SysReg) (index : ℕ) (old middle new : FieldOverrides)
    → Assigns (first_zeros register index) old middle → index < length (rows_of register)
    → override_of new register index
    ≡ option_map (λ (row : Row). cut_value row 0) (slice_get (rows_of register) index)
    → ((other : SysReg) (place : ℕ) → (other ≢ register) ⊎ (place ≢ index) → override_of new other place
    ≡ override_of middle other place) → IsWhole new → Assigns (first_zeros register (index + 1)) old new
zeros_more register index old middle new first within here others all =
    let more : first_zeros register (index + 1)
    ≡ first_zeros register index ++ record { register = register; index = index; number = 0 } ∷ [] =
    map-range_with_len_more (λ place. record { register = register; index = place; number = 0 }) 0 index index
    (omega arith) in
    rw more (assigns_append (first_zeros register index)
    (record { register = register; index = index; number = 0 } ∷ []) old middle new first
    (assigns_one register index 0 middle new within here others all))

-- whether a number is 0 for the row that has a name, by the row's place
pub cut_at : (register : SysReg) (field : List ℕ) (index number width : ℕ)
    → position (has_name field) (rows_of register) ≡ Some index
    → option_map (λ (row : Row). row.width) (slice_get (rows_of register) index) ≡ Some width
    → (number % 2 ^ width == 0) ≡ is_cut_to_zero register field number
cut_at register field index number width h e =
    let place : index ≡ position_or_len (has_name field) (rows_of register) = grind (arith, nat_tests) in
    let found : find (has_name field) (rows_of register) ≡ slice_get (rows_of register) index =
    find_at (has_name field) (rows_of register) ∙ ap (slice_get (rows_of register)) (sym place) in
    rw found (by_row (slice_get (rows_of register) index) e)
  where
    by_row : (row : Option Row) → option_map (λ (row : Row). row.width) row ≡ Some width
        → (number % 2 ^ width == 0) ≡ option_map_or (λ (row : Row). number % 2 ^ row.width == 0) row false
    by_row None e = cc
    by_row (Some row) e = let same : row.width ≡ width = cc in rw same refl

-- and where no row has it
pub cut_nowhere : (register : SysReg) (field : List ℕ) (number : ℕ)
    → position (has_name field) (rows_of register) ≡ None → false ≡ is_cut_to_zero register field number
cut_nowhere register field number h =
    let far : length (rows_of register) ≤ position_or_len (has_name field) (rows_of register) =
    grind (arith, nat_tests) in
    let none : find (has_name field) (rows_of register) ≡ None =
    find_at (has_name field) (rows_of register)
    ∙ slice_get_past (rows_of register) (position_or_len (has_name field) (rows_of register)) far in
    rw none refl

-- the low bits of a number, by a shifted 1
pub low_bits : (number width : ℕ) → width < 64 → number % (1 * 2 ^ width % 18446744073709551616) ≡ number % 2 ^ width
low_bits number width h =
    let small : 2 ^ width < 2 ^ 64 = pow-lt h in
    ap (λ (n : ℕ). number % n) (omega (arith, small))

-- what SVE at 0 sets to 0 as well, in three steps
pub sve_dependents : (register : SysReg) (field : List ℕ) (old one two new : FieldOverrides)
    → is_field register field IdAa64Pfr0El1 (codes "sve") ≡ true → Assigns (zeros_for IdAa64Zfr0El1) old one
    → Assigns (assigned IdAa64Pfr1El1 (codes "sme") 0) one two → Assigns (zeros_for IdAa64Smfr0El1) two new
    → Assigns (dependents register field) old new
sve_dependents register field old one two new h z m s =
    rw h (assigns_append (zeros_for IdAa64Zfr0El1)
    (assigned IdAa64Pfr1El1 (codes "sme") 0 ++ zeros_for IdAa64Smfr0El1) old one new z
    (assigns_append (assigned IdAa64Pfr1El1 (codes "sme") 0) (zeros_for IdAa64Smfr0El1) one two new m s))

-- a setting that makes its field 0, in two steps
pub setting_with_dependents : (register : SysReg) (field : List ℕ) (number : ℕ) (old middle new : FieldOverrides)
    → Assigns (assigned register field number) old middle → is_cut_to_zero register field number ≡ true
    → Assigns (dependents register field) middle new
    → Assigns (assignments_to (record { register = register; field = field; number = number })) old new
setting_with_dependents register field number old middle new first h second =
    rw h (assigns_append (assigned register field number) (dependents register field) old middle new first second)

-- six settings, one after the other
pub six_settings : (a b c d e f : Setting) (first two three four five six last : FieldOverrides)
    → Assigns (assignments_to a) first two → Assigns (assignments_to b) two three
    → Assigns (assignments_to c) three four → Assigns (assignments_to d) four five
    → Assigns (assignments_to e) five six → Assigns (assignments_to f) six last
    → Assigns (flat_map assignments_to (a ∷ b ∷ c ∷ d ∷ e ∷ f ∷ [])) first last
six_settings a b c d e f first two three four five six last p q r s t u =
    more a (b ∷ c ∷ d ∷ e ∷ f ∷ []) first two last p
    (more b (c ∷ d ∷ e ∷ f ∷ []) two three last q
    (more c (d ∷ e ∷ f ∷ []) three four last r
    (more d (e ∷ f ∷ []) four five last s
    (more e (f ∷ []) five six last t (more f [] six last last u (assigns_nothing last))))))
  where
    more : (setting : Setting) (settings : List Setting) (old middle new : FieldOverrides)
        → Assigns (assignments_to setting) old middle → Assigns (flat_map assignments_to settings) middle new
        → Assigns (flat_map assignments_to (setting ∷ settings)) old new
    more setting settings old middle new h k =
        assigns_append (assignments_to setting) (flat_map assignments_to settings) old middle new h k
