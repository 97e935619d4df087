-- The value over the machines passed, and the first with which it is the value over all.
use Rattle.std.proofs.Common.{Fits, ◌≡◌, ℕ, ◌+◌, ◌-◌, ◌<◌, ◌≤◌, false, List, [], ◌∷◌, ◌++◌, Option, Some, None, length, take, get_or, slice_get, refl, sym, ap, ◌∙◌, arith, w64, of_z, to_z, inl, inr}
use Rattle.std.specs.Prelude.{ℤ}
use Rattle.std.specs.Option.{option_map}
use Rattle.std.specs.Ordering.{int_eq}
use Rattle.std.proofs.lemmas.Bool.{cases_eq}
use Rattle.std.proofs.lemmas.Int.{to_z-of_z}
use Rattle.std.proofs.Math.Facts.{of_z-to_z}
use Rattle.std.proofs.lemmas.List.{length-map, length-take, map-append, take_all, take_more}
use Rattle.std.proofs.lemmas.Option.{slice_get_within}
use mir.Val.{SFits}
use Rattle.armcaps_rule.specs.declared.rule.Rule.{Rule}
use Rattle.armcaps_rule.specs.Rule.{fold_of, merged}
use Rattle.armcaps_rule.proofs.Leading.{int_eq_self}
use Rattle.armcaps_rule.proofs.Merging.{fold_one, fold_push, int_eq_not}
use Rattle.armcaps_enc.specs.declared.register.SysReg.{SysReg}
use Rattle.armcaps_tables.specs.Core.{word_at}
use Rattle.armcaps_tables.specs.Fields.{field_in}
use Rattle.armcaps_tables.specs.Row.{Row}
use Rattle.armcaps_tables.specs.Rows.{rows_of}
use Rattle.armcaps_baseline.specs.Baselines.{baseline_field, baseline_words, is_reached, limiting_machine, machine_values}
use Rattle.armcaps_baseline.proofs.Baselines.{field_is}
use Rattle.armcaps_baseline.proofs.Firsts.{first_is_found}

-- a value that a row gives is the row's
pub value_at_row : {X : Type 0} (f : Row → X) (listed : Option Row) (v : X) (row : Row) → option_map f listed ≡ Some v
    → listed ≡ Some row → v ≡ f row
value_at_row f listed v row is at = let there = (rw at at is) in cc

-- a value that is read back from its bits
pub held_value : (v w : ℤ) → SFits w64 v → v ≡ w → to_z w64 (of_z w64 v) ≡ w
held_value v w fits is = to_z-of_z w64 v fits ∙ is

-- the value over the first machine
pub value_first : (machines : List (List ℕ)) (first : List ℕ) (reg : SysReg) (row : Row) → 0 < length machines
    → first ≡ get_or machines 0 first → field_in row (word_at first reg) ≡ baseline_field (take 1 machines) reg row
value_first [] first reg row some is = absurd (omega arith)
value_first (machine ∷ machines) first reg row some is =
    ap (λ (m : List ℕ). field_in row (word_at m reg)) is
    ∙ sym (fold_one row.rule row.safe (field_in row (word_at machine reg)))

-- and over one more
pub value_more : (machines : List (List ℕ)) (number : ℕ) (machine : List ℕ) (reg : SysReg) (row : Row) (so_far new here : ℤ)
    → 1 ≤ number → number < length machines → machine ≡ get_or machines number machine
    → so_far ≡ baseline_field (take number machines) reg row → here ≡ field_in row (word_at machine reg)
    → new ≡ merged row.rule row.safe so_far here
    → new ≡ baseline_field (take (number + 1) machines) reg row
value_more machines number machine reg row so_far new here some within is so has merges =
    let value : List ℕ → ℤ = λ (m : List ℕ). field_in row (word_at m reg) in
    let more : take (number + 1) machines ≡ take number machines ++ machine ∷ [] =
    take_more machines number machine within ∙ ap (λ m. take number machines ++ m ∷ []) (sym is) in
    let values : machine_values (take (number + 1) machines) reg row
    ≡ machine_values (take number machines) reg row ++ field_in row (word_at machine reg) ∷ [] =
    ap (λ ms. machine_values ms reg row) more
    ∙ map-append (λ (m : List ℕ). field_in row (word_at m reg)) (take number machines) (machine ∷ []) in
    let long : 0 < length (machine_values (take number machines) reg row) =
    omega (arith, length-map (take number machines) (λ (m : List ℕ). field_in row (word_at m reg)), length-take number machines) in
    merges ∙ ap (λ v. merged row.rule row.safe v here) so
    ∙ ap (merged row.rule row.safe (baseline_field (take number machines) reg row)) has
    ∙ sym (fold_push row.rule row.safe (machine_values (take number machines) reg row) (field_in row (word_at machine reg)) long)
    ∙ ap (fold_of row.rule row.safe) (sym values)

-- the machines passed don't give the whole's value
pub not_reached : (machines : List (List ℕ)) (number : ℕ) (reg : SysReg) (row : Row) (so_far whole : ℤ) → 1 ≤ number
    → so_far ≡ baseline_field (take number machines) reg row → whole ≡ baseline_field machines reg row
    → (so_far ≡ whole → ⊥)
    → ((before : ℕ) → before + 1 < number → is_reached machines reg row before ≡ false)
    → (before : ℕ) → before + 1 < number + 1 → is_reached machines reg row before ≡ false
not_reached machines number reg row so_far whole some so is differ earlier before within =
    elim (cases_eq (before + 1) number) [
      | inl same ↦
          (let value : baseline_field (take (before + 1) machines) reg row ≡ so_far =
          ap (λ n. baseline_field (take n machines) reg row) same ∙ sym so in
          ap (λ v. int_eq v (baseline_field machines reg row)) value ∙ ap (int_eq so_far) (sym is)
          ∙ int_eq_not so_far whole differ)
      | inr other ↦ earlier before (omega arith)
    ]

-- the machines passed give it, and those before them don't
pub limited_at : (machines : List (List ℕ)) (number : ℕ) (reg : SysReg) (row : Row) (so_far whole : ℤ) → 1 ≤ number
    → number ≤ length machines
    → so_far ≡ baseline_field (take number machines) reg row → whole ≡ baseline_field machines reg row → so_far ≡ whole
    → ((before : ℕ) → before + 1 < number → is_reached machines reg row before ≡ false)
    → limiting_machine machines reg row ≡ Some (number - 1)
unfolding limiting_machine
limited_at machines number reg row so_far whole some within so is same earlier =
    let at : number - 1 + 1 ≡ number = omega arith in
    let value : baseline_field (take (number - 1 + 1) machines) reg row ≡ baseline_field machines reg row =
    ap (λ n. baseline_field (take n machines) reg row) at ∙ sym so ∙ same ∙ is in
    first_is_found (is_reached machines reg row) 0 (length machines) (number - 1) (record {
      low = omega arith;
      high = omega arith;
      passes = ap (λ v. int_eq v (baseline_field machines reg row)) value ∙ int_eq_self (baseline_field machines reg row);
      before = λ before from below. earlier before (omega arith);
    })

-- the last machine limits where none before it does
pub limited_last : (machines : List (List ℕ)) (number : ℕ) (reg : SysReg) (row : Row) → 1 ≤ number
    → length machines ≤ number → number ≤ length machines
    → ((before : ℕ) → before + 1 < number → is_reached machines reg row before ≡ false)
    → limiting_machine machines reg row ≡ Some (length machines - 1)
limited_last machines number reg row some past within earlier =
    let same : number ≡ length machines = omega arith in
    let at = limited_at machines number reg row (baseline_field (take number machines) reg row)
    (baseline_field machines reg row) some within refl refl
    (ap (λ ms. baseline_field ms reg row) (take_all number machines past)) earlier in
    at ∙ ap (λ n. Some (n - 1)) same

-- the value that is kept of a field is the baseline's
pub kept_value : (machines : List (List ℕ)) (kept : List ℕ) (reg : SysReg) (index : ℕ) (row : Row) (value : ℤ)
    → 0 < length machines → kept ≡ baseline_words machines
    → option_map (λ row. field_in row (word_at kept reg)) (slice_get (rows_of reg) index) ≡ Some value
    → slice_get (rows_of reg) index ≡ Some row → value ≡ baseline_field machines reg row
kept_value machines kept reg index row value some is held at =
    value_at_row (λ row. field_in row (word_at kept reg)) (slice_get (rows_of reg) index) value row held at
    ∙ ap (λ words. field_in row (word_at words reg)) is ∙ field_is machines reg index row some at

-- where the register has the field, a value that is the field's is told of the list
pub told_value : (machines : List (List ℕ)) (reg : SysReg) (index : ℕ) (listed : Option Row) (f : Row → ℤ) (value : ℤ)
    → slice_get (rows_of reg) index ≡ listed → option_map f listed ≡ Some value
    → ((row : Row) → listed ≡ Some row → value ≡ baseline_field machines reg row)
    → option_map (baseline_field machines reg) listed ≡ Some value
told_value machines reg index None f value at held is = cc
told_value machines reg index (Some row) f value at held is = ap Some (sym (is row refl))

-- a merged value, with the numbers as the code holds them
pub merged_bits : (rule : Rule) (safe so_far here new : ℤ) → SFits w64 safe → SFits w64 here
    → new ≡ merged rule (to_z w64 (of_z w64 safe)) so_far (to_z w64 (of_z w64 here)) → new ≡ merged rule safe so_far here
merged_bits rule safe so_far here new safe_fits here_fits is =
    is ∙ ap (λ s. merged rule s so_far (to_z w64 (of_z w64 here))) (to_z-of_z w64 safe safe_fits)
    ∙ ap (merged rule safe so_far) (to_z-of_z w64 here here_fits)

-- a place that has an item is within the list
pub index_within : (rows : List Row) (index : ℕ) (row : Row) → slice_get rows index ≡ Some row → index < length rows
index_within rows index row at = slice_get_within rows index row at

-- a number that is read from bits has them
pub same_whole : (bits : ℕ) (whole : ℤ) → Fits w64 bits → to_z w64 bits ≡ whole → bits ≡ of_z w64 whole
same_whole bits whole fits same = sym (of_z-to_z fits) ∙ ap (of_z w64) same
