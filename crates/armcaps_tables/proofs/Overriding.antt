-- Overrides by register and field: what a change of one leaves of the others.
use Rattle.std.proofs.Common.{◌≡◌, ◌≢◌, ℕ, ℤ, ◌%◌, ◌^◌, ◌<◌, ◌≤◌, ◌⊎◌, IsTrue, List, [], length, get_or, set, map, Option, Some, None, slice_get, sym, zero-add, ◌∙◌, ap, inl, inr, arith}
use Rattle.std.specs.List.{range_with_len}
use Rattle.std.proofs.lemmas.Bool.{cases_eq, cases_lt}
use Rattle.std.proofs.lemmas.List.{ext_get_or, get_or_past, get_or-set_other, get_or-set_same, length-set}
use Rattle.std.proofs.lemmas.List.FromFn.{get_or-map-range_with_len, length-map-range_with_len}
use Rattle.std.proofs.lemmas.Simd.{map-map}
use Rattle.std.proofs.Math.Nat.{mod-lt}
use Rattle.std.proofs.Math.Path.{fun_ext}
use Rattle.std.proofs.lemmas.Nat.{pow_pos}
use Rattle.armcaps_bits.proofs.Signs.{number_fits}
use Rattle.armcaps_enc.specs.declared.register.SysReg.{SysReg}
use Rattle.armcaps_enc.specs.Registers.{place_of, registers}
use Rattle.armcaps_enc.proofs.Places.{one_register, place_within, value_at}
use Rattle.armcaps_tables.specs.Row.{Row}
use Rattle.armcaps_tables.specs.Rows.{rows_of}
use Rattle.armcaps_tables.proofs.Places.{row_in_word}
use Rattle.armcaps_tables.specs.Overriding.{AllFit, FieldOverrides, IsWhole, AreSound, cut_value, no_overrides, override_fits, override_of, overrides_by}

-- a list is the list of what it has at its places
list_by_places : {X : Type 0} (d : X) (xs : List X) (n : ℕ) → length xs ≡ n
    → xs ≡ map (λ k. get_or xs k d) (range_with_len 0 n)
list_by_places d xs n long =
    ext_get_or d xs (map (λ k. get_or xs k d) (range_with_len 0 n))
    (long ∙ sym (length-map-range_with_len (λ k. get_or xs k d) 0 n))
    (λ k within. sym (get_or-map-range_with_len (λ (k : ℕ). get_or xs k d) 0 n k k d (omega arith) (zero-add k)))

-- what a function's list has at a register
by_register : (f : SysReg → ℕ → Option ℤ) (reg : SysReg)
    → get_or (overrides_by f) (place_of reg) [] ≡ map (f reg) (range_with_len 0 16)
unfolding overrides_by
by_register f reg = value_at (λ (register : SysReg). map (f register) (range_with_len 0 16)) reg []

-- and at a field
pub override_by : (f : SysReg → ℕ → Option ℤ) (reg : SysReg) (index : ℕ) → index < 16
    → override_of (overrides_by f) reg index ≡ f reg index
override_by f reg index within =
    ap (λ (values : List (Option ℤ)). get_or values index None) (by_register f reg)
    ∙ get_or-map-range_with_len (f reg) 0 16 index index None within (zero-add index)

-- no register has more than 16 places
pub override_past : (f : SysReg → ℕ → Option ℤ) (reg : SysReg) (index : ℕ) → 16 ≤ index
    → override_of (overrides_by f) reg index ≡ None
override_past f reg index past =
    let long : length (map (f reg) (range_with_len 0 16)) ≡ 16 = length-map-range_with_len (f reg) 0 16 in
    ap (λ (values : List (Option ℤ)). get_or values index None) (by_register f reg)
    ∙ get_or_past (map (f reg) (range_with_len 0 16)) index None (omega arith)

-- where no value is listed, none is found
pub none_at : (reg : SysReg) (index : ℕ) → override_of no_overrides reg index ≡ None
none_at reg index =
    elim (cases_lt index 16) [
      | inl within ↦ override_by (λ _ _. None) reg index within
      | inr past ↦ override_past (λ _ _. None) reg index past
    ]

-- functions with the same values have the same list
pub by-same : (f g : SysReg → ℕ → Option ℤ) → ((reg : SysReg) (index : ℕ) → f reg index ≡ g reg index)
    → overrides_by f ≡ overrides_by g
by-same f g same = ap overrides_by (fun_ext (λ reg. fun_ext (same reg)))

-- whole overrides have 17 registers, and 16 places each
pub whole_registers : (overrides : FieldOverrides) → IsWhole overrides → length overrides ≡ 17
unfolding overrides_by
whole_registers overrides whole = ap length whole

pub whole_fields : (overrides : FieldOverrides) (reg : SysReg) → IsWhole overrides
    → length (get_or overrides (place_of reg) []) ≡ 16
whole_fields overrides reg whole =
    ap (λ (all : FieldOverrides). length (get_or all (place_of reg) [])) whole
    ∙ ap length (by_register (override_of overrides) reg)
    ∙ length-map-range_with_len (override_of overrides reg) 0 16

-- and overrides with so many places are whole
pub whole_from : (overrides : FieldOverrides) → length overrides ≡ 17
    → ((reg : SysReg) → length (get_or overrides (place_of reg) []) ≡ 16) → IsWhole overrides
unfolding overrides_by
whole_from overrides registers_long fields_long =
    let all : overrides ≡ map (λ (reg : SysReg). get_or overrides (place_of reg) []) registers =
    list_by_places [] overrides 17 registers_long ∙ map-map (λ (k : ℕ). get_or overrides k []) place_of registers in
    let each : (reg : SysReg) → get_or overrides (place_of reg) []
    ≡ map (override_of overrides reg) (range_with_len 0 16) =
    λ reg. list_by_places None (get_or overrides (place_of reg) []) 16 (fields_long reg) in
    all ∙ ap (λ (f : SysReg → List (Option ℤ)). map f registers) (fun_ext each)

-- the overrides with another one at a place
abbrev pub changed : FieldOverrides → SysReg → ℕ → Option ℤ → FieldOverrides
changed overrides reg index value = set overrides (place_of reg) (set (get_or overrides (place_of reg) []) index value)

-- a change leaves the other registers as they were
other_register : (overrides : FieldOverrides) (reg other : SysReg) (index : ℕ) (value : Option ℤ)
    → place_of other ≢ place_of reg
    → get_or (changed overrides reg index value) (place_of other) [] ≡ get_or overrides (place_of other) []
other_register overrides reg other index value apart =
    get_or-set_other overrides (place_of reg) (place_of other) (set (get_or overrides (place_of reg) []) index value)
    [] apart

same_register : (overrides : FieldOverrides) (reg : SysReg) (index : ℕ) (value : Option ℤ) → IsWhole overrides
    → get_or (changed overrides reg index value) (place_of reg) []
    ≡ set (get_or overrides (place_of reg) []) index value
same_register overrides reg index value whole =
    let long : length overrides ≡ 17 = whole_registers overrides whole in
    let within : place_of reg < 17 = place_within reg in
    get_or-set_same overrides (place_of reg) (set (get_or overrides (place_of reg) []) index value) [] (omega arith)

-- what is found where it was made
pub changed_here : (overrides : FieldOverrides) (reg : SysReg) (index : ℕ) (value : Option ℤ) → IsWhole overrides
    → index < 16
    → override_of (changed overrides reg index value) reg index ≡ value
changed_here overrides reg index value whole within =
    let long : length (get_or overrides (place_of reg) []) ≡ 16 = whole_fields overrides reg whole in
    ap (λ (values : List (Option ℤ)). get_or values index None) (same_register overrides reg index value whole)
    ∙ get_or-set_same (get_or overrides (place_of reg) []) index value None (omega arith)

-- and everywhere else
pub changed_elsewhere : (overrides : FieldOverrides) (reg other : SysReg) (index place : ℕ) (value : Option ℤ)
    → IsWhole overrides
    → (other ≢ reg) ⊎ (place ≢ index) → override_of (changed overrides reg index value) other place
    ≡ override_of overrides other place
changed_elsewhere overrides reg other index place value whole apart =
    elim (cases_eq (place_of other) (place_of reg)) [
      | inl same ↦
          let one : other ≡ reg = one_register other reg same in
          let away : place ≢ index = elim apart [ inl another ↦ absurd (another one) | inr away ↦ away ] in
          let Same : SysReg → Type 0 =
          λ r. override_of (changed overrides reg index value) r place ≡ override_of overrides r place in
          rw one (ap (λ (values : List (Option ℤ)). get_or values place None)
          (same_register overrides reg index value whole)
          ∙ get_or-set_other (get_or overrides (place_of reg) []) index place value None away)
      | inr away ↦ ap (λ (values : List (Option ℤ)). get_or values place None)
          (other_register overrides reg other index value away)
    ]

-- a change keeps overrides whole
pub changed_whole : (overrides : FieldOverrides) (reg : SysReg) (index : ℕ) (value : Option ℤ) → IsWhole overrides
    → IsWhole (changed overrides reg index value)
changed_whole overrides reg index value whole =
    whole_from (changed overrides reg index value)
    (length-set overrides (place_of reg) (set (get_or overrides (place_of reg) []) index value)
    ∙ whole_registers overrides whole)
    (λ other. elim (cases_eq (place_of other) (place_of reg)) [
      | inl same ↦
          rw (one_register other reg same) (ap length (same_register overrides reg index value whole)
          ∙ length-set (get_or overrides (place_of reg) []) index value ∙ whole_fields overrides reg whole)
      | inr away ↦ ap length (other_register overrides reg other index value away) ∙ whole_fields overrides other whole
    ])

-- a value that fits its row keeps all fitting
pub changed_fits : (overrides : FieldOverrides) (reg : SysReg) (index : ℕ) (value : Option ℤ) → IsWhole overrides
    → index < 16 → AllFit overrides
    → ((row : Row) → slice_get (rows_of reg) index ≡ Some row → IsTrue (override_fits row value))
    → AllFit (changed overrides reg index value)
changed_fits overrides reg index value whole within fit here other place row at =
    elim (cases_eq (place_of other) (place_of reg)) [
      | inl same ↦ elim (cases_eq place index) [
        | inl equal ↦
            let one : other ≡ reg = one_register other reg same in
            let there : slice_get (rows_of reg) index ≡ Some row =
            ap (λ (register : SysReg). slice_get (rows_of register) index) (sym one)
            ∙ ap (slice_get (rows_of other)) (sym equal) ∙ at in
            let new : FieldOverrides = changed overrides reg index value in
            let read : override_of new other place ≡ value =
            ap (λ (register : SysReg). override_of new register place) one ∙ ap (override_of new reg) equal
            ∙ changed_here overrides reg index value whole within in
            rw read (here row there)
        | inr away ↦ rw (changed_elsewhere overrides reg other index place value whole (inr away))
            (fit other place row at)
      ]
      | inr away ↦ rw (changed_elsewhere overrides reg other index place value whole
          (inl (λ same. away (ap place_of same)))) (fit other place row at)
    ]

-- nothing that is listed is more than its row can have
pub none_sound : AreSound no_overrides
none_sound = record {
  fit = λ reg index row at. rw (none_at reg index);
  whole = by-same (λ _ _. None) (override_of no_overrides) (λ reg index. sym (none_at reg index));
}

-- a number cut to a row's width is a value of the row
pub cut_fits : (reg : SysReg) (index : ℕ) (row : Row) (number : ℕ) → slice_get (rows_of reg) index ≡ Some row
    → IsTrue (override_fits row (Some (cut_value row number)))
cut_fits reg index row number at =
    number_fits row.signed row.width (number % 2 ^ row.width) (row_in_word reg index row at).0
    (mod-lt number (pow_pos row.width))
