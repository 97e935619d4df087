-- The machine that limits a field, where a baseline stands for the first of the machines.
use Rattle.std.proofs.Common.{◌≡◌, ℕ, zero, suc, ◌+◌, ◌-◌, ◌<◌, ◌≤◌, true, false, List, [], ◌∷◌, ◌++◌, Some, length, take, get_or, slice_get, sym, ap, ◌∙◌, inl, inr, arith, length-append}
use Rattle.std.specs.Prelude.{ℤ}
use Rattle.std.specs.Ordering.{int_eq}
use Rattle.std.proofs.lemmas.Bool.{cases_lt, false_from_ne_true, false≢true}
use Rattle.std.proofs.lemmas.List.{append-nil, get_or-map, length-map, length-take, map-append, take-append-le, take_all, take_more}
use Rattle.armcaps_rule.specs.declared.rule.Rule.{Rule}
use Rattle.armcaps_rule.specs.Rule.{fold_of, merged}
use Rattle.armcaps_rule.proofs.Leading.{int_eq_self, int_eq_true}
use Rattle.armcaps_rule.proofs.Merging.{fold_front, fold_one, fold_push, merged_commutes}
use Rattle.armcaps_enc.specs.declared.register.SysReg.{SysReg}
use Rattle.armcaps_tables.specs.Core.{word_at}
use Rattle.armcaps_tables.specs.Fields.{field_in}
use Rattle.armcaps_tables.specs.Row.{Row}
use Rattle.armcaps_tables.specs.Rows.{rows_of}
use Rattle.armcaps_baseline.specs.Baselines.{baseline_field, baseline_words, is_reached, limiting_machine, machine_values}
use Rattle.armcaps_baseline.proofs.Baselines.{field_is, limits}
use Rattle.armcaps_baseline.proofs.Firsts.{first_is_found, found_is_first}
use Rattle.armcaps_baseline.proofs.Folds.{fold_accepted, fold_append}

-- the one value for some values and others, by the one for the first
fold_joined : (rule : Rule) (safe : ℤ) (xs ys : List ℤ) → 0 < length xs
    → fold_of rule safe (fold_of rule safe xs ∷ ys) ≡ fold_of rule safe (xs ++ ys)
fold_joined rule safe xs [] some = fold_one rule safe (fold_of rule safe xs) ∙ ap (fold_of rule safe) (sym (append-nil xs))
fold_joined rule safe xs (y ∷ ys) some =
    fold_front rule safe (y ∷ ys) (fold_of rule safe xs) (omega arith)
    ∙ merged_commutes rule safe (fold_of rule safe (y ∷ ys)) (fold_of rule safe xs)
    ∙ sym (fold_append rule safe xs (y ∷ ys) some (omega arith))

-- what is taken of some and others, beyond the first
take_beyond : (before after : List (List ℕ)) (n : ℕ) → take (length before + n) (before ++ after) ≡ before ++ take n after
take_beyond [] after n = ap (λ k. take k after) (let e : 0 + n ≡ n = omega arith in e)
take_beyond (x ∷ before) after n =
    let step : length (x ∷ before) + n ≡ suc (length before + n) = omega arith in
    ap (λ k. take k (x ∷ (before ++ after))) step ∙ ap (λ xs. x ∷ xs) (take_beyond before after n)

module _ (before after : List (List ℕ)) (reg : SysReg) (index : ℕ) (row : Row) (some : 0 < length before)
    (at : slice_get (rows_of reg) index ≡ Some row) where
  abbrev value : List ℕ → ℤ
  value machine = field_in row (word_at machine reg)

  -- the value with a baseline in place of the first machines
  field_beyond : (n : ℕ) → baseline_field (take (n + 1) (baseline_words before ∷ after)) reg row
      ≡ baseline_field (take (length before + n) (before ++ after)) reg row
  field_beyond n =
      let step : n + 1 ≡ suc n = omega arith in
      ap (λ k. baseline_field (take k (baseline_words before ∷ after)) reg row) step
      ∙ ap (λ v. fold_of row.rule row.safe (v ∷ machine_values (take n after) reg row)) (field_is before reg index row some at)
      ∙ fold_joined row.rule row.safe (machine_values before reg row) (machine_values (take n after) reg row)
      (omega (arith, length-map before (λ (machine : List ℕ). field_in row (word_at machine reg))))
      ∙ ap (fold_of row.rule row.safe)
      (sym (map-append (λ (machine : List ℕ). field_in row (word_at machine reg)) before (take n after)))
      ∙ ap (λ ms. baseline_field ms reg row) (sym (take_beyond before after n))

  field_whole : baseline_field (baseline_words before ∷ after) reg row ≡ baseline_field (before ++ after) reg row
  field_whole =
      let all : length after ≤ length after = omega arith in
      ap (λ ms. baseline_field ms reg row)
      (sym (take_all (length after + 1) (baseline_words before ∷ after) (omega arith)))
      ∙ field_beyond (length after)
      ∙ ap (λ ms. baseline_field ms reg row)
      (take_all (length before + length after) (before ++ after) (omega (arith, length-append before after)))

  reached_beyond : (n number : ℕ) → number + 1 ≡ length before + n
      → is_reached (baseline_words before ∷ after) reg row n ≡ is_reached (before ++ after) reg row number
  reached_beyond n number is =
      ap (λ v. int_eq v (baseline_field (baseline_words before ∷ after) reg row)) (field_beyond n)
      ∙ ap (int_eq (baseline_field (take (length before + n) (before ++ after)) reg row)) field_whole
      ∙ ap (λ k. int_eq (baseline_field (take k (before ++ after)) reg row) (baseline_field (before ++ after) reg row)) (sym is)

-- where the whole's value is reached, it stays
reached_next : (machines : List (List ℕ)) (reg : SysReg) (row : Row) (number : ℕ)
    → is_reached machines reg row number ≡ true → is_reached machines reg row (number + 1) ≡ true
reached_next machines reg row number reached = elim (cases_lt (number + 1) (length machines)) [
  | inr past ↦
      ap (λ ms. int_eq (baseline_field ms reg row) (baseline_field machines reg row))
      (take_all (number + 1 + 1) machines (omega arith))
      ∙ int_eq_self (baseline_field machines reg row)
  | inl inside ↦ (
      let next : List ℕ = get_or machines (number + 1) [] in
      let value : List ℕ → ℤ = λ (machine : List ℕ). field_in row (word_at machine reg) in
      let more : take (number + 1 + 1) machines ≡ take (number + 1) machines ++ get_or machines (number + 1) [] ∷ [] =
      take_more machines (number + 1) [] inside in
      let long : 0 < length (machine_values (take (number + 1) machines) reg row) =
      omega (
        arith,
        length-map (take (number + 1) machines) (λ (machine : List ℕ). field_in row (word_at machine reg)),
        length-take (number + 1) machines,
      ) in
      let here : baseline_field (take (number + 1 + 1) machines) reg row
      ≡ merged row.rule row.safe (baseline_field (take (number + 1) machines) reg row)
      (field_in row (word_at (get_or machines (number + 1) []) reg)) =
      ap (λ ms. baseline_field ms reg row) more
      ∙ ap (fold_of row.rule row.safe) (map-append (λ (machine : List ℕ). field_in row (word_at machine reg))
      (take (number + 1) machines) (get_or machines (number + 1) [] ∷ []))
      ∙ fold_push row.rule row.safe (machine_values (take (number + 1) machines) reg row)
      (field_in row (word_at (get_or machines (number + 1) []) reg)) long in
      let whole : baseline_field (take (number + 1) machines) reg row ≡ baseline_field machines reg row =
      int_eq_true _ _ reached in
      let accepted = fold_accepted row.rule row.safe (machine_values machines reg row) (number + 1)
      (field_in row (word_at [] reg))
      (omega (arith, length-map machines (λ (machine : List ℕ). field_in row (word_at machine reg)))) in
      let item : get_or (machine_values machines reg row) (number + 1) (field_in row (word_at [] reg))
      ≡ field_in row (word_at (get_or machines (number + 1) []) reg) =
      get_or-map (λ (machine : List ℕ). field_in row (word_at machine reg)) machines (number + 1) []
      (field_in row (word_at [] reg)) inside in
      let stays : baseline_field (take (number + 1 + 1) machines) reg row ≡ baseline_field machines reg row =
      here ∙ ap (λ v. merged row.rule row.safe v (field_in row (word_at (get_or machines (number + 1) []) reg))) whole
      ∙ ap (merged row.rule row.safe (baseline_field machines reg row)) (sym item) ∙ accepted in
      ap (λ v. int_eq v (baseline_field machines reg row)) stays ∙ int_eq_self (baseline_field machines reg row))
]

reached_later : (machines : List (List ℕ)) (reg : SysReg) (row : Row) (number steps : ℕ)
    → is_reached machines reg row number ≡ true → is_reached machines reg row (steps + number) ≡ true
reached_later machines reg row number zero reached =
    (let same : 0 + number ≡ number = omega arith in ap (is_reached machines reg row) same ∙ reached)
reached_later machines reg row number (suc steps) reached =
    (let same : suc steps + number ≡ steps + number + 1 = omega arith in
    ap (is_reached machines reg row) same
    ∙ reached_next machines reg row (steps + number) (reached_later machines reg row number steps reached))

not_earlier : (machines : List (List ℕ)) (reg : SysReg) (row : Row) (number later : ℕ) → number ≤ later
    → is_reached machines reg row later ≡ false → is_reached machines reg row number ≡ false
not_earlier machines reg row number later before fails = false_from_ne_true (is_reached machines reg row number) (λ reached.
    let same : later - number + number ≡ later = omega arith in
    absurd (false≢true (sym fails ∙ ap (is_reached machines reg row) (sym same)
    ∙ reached_later machines reg row number (later - number) reached)))

-- a machine behind the first ones limits the field
pub limit_beyond : (before after : List (List ℕ)) (reg : SysReg) (index : ℕ) (row : Row) (number : ℕ) → 0 < length before
    → slice_get (rows_of reg) index ≡ Some row
    → limiting_machine (baseline_words before ∷ after) reg row ≡ Some (number + 1)
    → limiting_machine (before ++ after) reg row ≡ Some (length before + number)
unfolding limiting_machine
limit_beyond before after reg index row number some at found =
    let first = found_is_first (is_reached (baseline_words before ∷ after) reg row) 0 (length (baseline_words before ∷ after))
    (number + 1) found in
    let high = first.high in
    first_is_found (is_reached (before ++ after) reg row) 0 (length (before ++ after)) (length before + number) (record {
      low = omega arith;
      high = omega (arith, length-append before after);
      passes = sym (reached_beyond before after reg index row some at (number + 1) (length before + number) (omega arith))
          ∙ first.passes;
      before = λ earlier from below. elim (cases_lt earlier (length before)) [
        | inl inside ↦
            not_earlier (before ++ after) reg row earlier (length before - 1) (omega arith)
            (sym (reached_beyond before after reg index row some at 0 (length before - 1) (omega arith))
            ∙ first.before 0 (omega arith) (omega arith))
        | inr behind ↦
            (sym (reached_beyond before after reg index row some at (earlier + 1 - length before) earlier (omega arith))
            ∙ first.before (earlier + 1 - length before) (omega arith) (omega arith))
      ];
    })

-- the first ones limit the field as before
pub limit_within : (before after : List (List ℕ)) (reg : SysReg) (index : ℕ) (row : Row) → 0 < length before
    → slice_get (rows_of reg) index ≡ Some row
    → limiting_machine (baseline_words before ∷ after) reg row ≡ Some 0
    → limiting_machine (before ++ after) reg row ≡ limiting_machine before reg row
unfolding limiting_machine
limit_within before after reg index row some at found =
    let first = found_is_first (is_reached (baseline_words before ∷ after) reg row) 0 (length (baseline_words before ∷ after))
    0 found in
    let front : (n : ℕ) → n < length before → take (n + 1) (before ++ after) ≡ take (n + 1) before =
    λ n inside. take-append-le (n + 1) before after (omega arith) in
    let last : length before - 1 + 1 ≡ length before = omega arith in
    let whole : baseline_field before reg row ≡ baseline_field (before ++ after) reg row =
    ap (λ ms. baseline_field ms reg row)
    (sym (front (length before - 1) (omega arith) ∙ ap (λ n. take n before) last
    ∙ take_all (length before) before (omega arith)))
    ∙ int_eq_true _ _ (sym (reached_beyond before after reg index row some at 0 (length before - 1) (omega arith)) ∙ first.passes) in
    let same : (n : ℕ) → n < length before → is_reached (before ++ after) reg row n ≡ is_reached before reg row n =
    λ n inside. ap (λ ms. int_eq (baseline_field ms reg row) (baseline_field (before ++ after) reg row)) (front n inside)
    ∙ ap (int_eq (baseline_field (take (n + 1) before) reg row)) (sym whole) in
    let own = limits before reg row some in
    let least = found_is_first (is_reached before reg row) 0 (length before) own.0 own.1.0 in
    let high = least.high in
    first_is_found (is_reached (before ++ after) reg row) 0 (length (before ++ after)) own.0 (record {
      low = omega arith;
      high = omega (arith, length-append before after);
      passes = same own.0 (omega arith) ∙ least.passes;
      before = λ earlier from below. same earlier (omega arith) ∙ least.before earlier from below;
    })
    ∙ sym own.1.0
