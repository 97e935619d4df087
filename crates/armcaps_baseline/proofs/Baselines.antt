-- The baseline of some machines: that its words are those over cores with the machines' words, and what holds of it.
use Rattle.std.proofs.Common.{◌≡◌, ℕ, zero, suc, ◌+◌, ◌-◌, ◌<◌, ◌≤◌, true, List, [], ◌∷◌, ◌++◌, Some, length, map, get_or, slice_get, refl, sym, ap, subst, ◌∙◌, arith}
use Rattle.std.specs.Prelude.{ℤ}
use Rattle.std.specs.List.{All, flat_map}
use Rattle.std.specs.Ordering.{int_eq}
use Rattle.std.proofs.lemmas.Bool.{false≢true}
use Rattle.std.proofs.lemmas.List.{length-map, map-append, take_all}
use Rattle.std.proofs.lemmas.List.Elements.{All-head, All-tail}
use Rattle.std.proofs.lemmas.Simd.{map-map}
use Rattle.armcaps_logic.proofs.Lists.{map_agree}
use Rattle.armcaps_rule.specs.Rule.{fold_of, forced_of, merged}
use Rattle.armcaps_rule.proofs.Leading.{int_eq_self, int_eq_true}
use Rattle.armcaps_rule.proofs.Overrides.{forced_none}
use Rattle.armcaps_enc.specs.declared.register.SysReg.{SysReg}
use Rattle.armcaps_enc.specs.Registers.{registers}
use Rattle.armcaps_enc.proofs.Places.{value_at}
use Rattle.armcaps_tables.specs.Core.{Core, core_word, word_at}
use Rattle.armcaps_tables.specs.Fields.{field_in}
use Rattle.armcaps_tables.specs.Overriding.{no_overrides}
use Rattle.armcaps_tables.specs.Row.{Row}
use Rattle.armcaps_tables.specs.Rows.{rows_of}
use Rattle.armcaps_tables.proofs.FieldWords.{word_of-same}
use Rattle.armcaps_tables.proofs.Overriding.{none_at, none_sound}
use Rattle.armcaps_sanit.specs.System.{IsSystemOf, field_values, system_field, system_word, system_words}
use Rattle.armcaps_sanit.proofs.SystemWords.{system_field_at}
use Rattle.armcaps_baseline.specs.Baselines.{IsAcceptedByAll, IsAtMost, IsLimiting, as_core, baseline_field, baseline_word, baseline_words, is_reached, limiting_machine, machine_values}
use Rattle.armcaps_baseline.proofs.Firsts.{found_is_first, some_first}
use Rattle.armcaps_baseline.proofs.Folds.{accepted_by_fold, fold_accepted, fold_groups}

-- the word of a core that has a machine's words
as_core_word : (words : List ℕ) (reg : SysReg) → core_word (as_core words) reg ≡ word_at words reg
as_core_word words reg = value_at (word_at words) reg 0

-- the values of such cores are those of the machines
values_as_cores : (machines : List (List ℕ)) (reg : SysReg) (row : Row)
    → field_values (map as_core machines) reg row ≡ machine_values machines reg row
values_as_cores machines reg row =
    map-map (λ (core : Core). field_in row (core_word core reg)) as_core machines
    ∙ map_agree (λ (machine : List ℕ). field_in row (core_word (as_core machine) reg))
    (λ machine. field_in row (word_at machine reg))
    (λ machine. ap (field_in row) (as_core_word machine reg)) machines

-- the baseline's field, word and words are those over the cores
field_as_system : (machines : List (List ℕ)) (reg : SysReg) (index : ℕ) (row : Row)
    → system_field no_overrides (map as_core machines) reg index row ≡ baseline_field machines reg row
field_as_system machines reg index row =
    ap (λ override. forced_of row.rule row.safe override (field_values (map as_core machines) reg row)) (none_at reg index)
    ∙ forced_none row.rule row.safe (field_values (map as_core machines) reg row)
    ∙ ap (fold_of row.rule row.safe) (values_as_cores machines reg row)

word_as_system : (machines : List (List ℕ)) (reg : SysReg)
    → system_word no_overrides (map as_core machines) reg ≡ baseline_word machines reg
unfolding system_word baseline_word
word_as_system machines reg =
    word_of-same (system_field no_overrides (map as_core machines) reg) (λ index row. baseline_field machines reg row)
    (rows_of reg) (λ index row at. field_as_system machines reg index row)

words_as_system : (machines : List (List ℕ)) → system_words no_overrides (map as_core machines) ≡ baseline_words machines
unfolding system_words baseline_words
words_as_system machines =
    map_agree (system_word no_overrides (map as_core machines)) (baseline_word machines) (word_as_system machines) registers

pub from_system : (machines : List (List ℕ)) (words : List ℕ) → IsSystemOf no_overrides (map as_core machines) words
    → words ≡ baseline_words machines
from_system machines words stands = stands.words ∙ words_as_system machines

pub to_system : (machines : List (List ℕ)) (words : List ℕ) → 0 < length machines → words ≡ baseline_words machines
    → IsSystemOf no_overrides (map as_core machines) words
to_system machines words some is = record {
  fit = none_sound.fit;
  some = omega (arith, length-map machines as_core);
  words = is ∙ sym (words_as_system machines);
}

-- the words that the code keeps have the baseline's word and fields
pub word_is : (machines : List (List ℕ)) (reg : SysReg) → word_at (baseline_words machines) reg ≡ baseline_word machines reg
unfolding baseline_words
word_is machines reg = value_at (baseline_word machines) reg 0

pub field_is : (machines : List (List ℕ)) (reg : SysReg) (index : ℕ) (row : Row) → 0 < length machines
    → slice_get (rows_of reg) index ≡ Some row
    → field_in row (word_at (baseline_words machines) reg) ≡ baseline_field machines reg row
field_is machines reg index row some at =
    system_field_at no_overrides (map as_core machines) (baseline_words machines) reg index row
    (to_system machines (baseline_words machines) some refl) at
    ∙ field_as_system machines reg index row

-- what holds of each machine's value holds of the values
values_all : (P : ℤ → Type 0) (reg : SysReg) (row : Row) (machines : List (List ℕ))
    → All (λ machine. P (field_in row (word_at machine reg))) machines → All P (machine_values machines reg row)
values_all P reg row [] all k d within = absurd (omega arith)
values_all P reg row (machine ∷ machines) all zero d within =
    All-head (λ machine. P (field_in row (word_at machine reg))) machine machines all
values_all P reg row (machine ∷ machines) all (suc k) d within =
    values_all P reg row machines (All-tail (λ machine. P (field_in row (word_at machine reg))) machine machines all)
    k d (omega arith)

values_each : (P : ℤ → Type 0) (reg : SysReg) (row : Row) (machines : List (List ℕ))
    → All P (machine_values machines reg row) → All (λ machine. P (field_in row (word_at machine reg))) machines
values_each P reg row [] all k d within = absurd (omega arith)
values_each P reg row (machine ∷ machines) all zero d within =
    All-head P (field_in row (word_at machine reg)) (machine_values machines reg row) all
values_each P reg row (machine ∷ machines) all (suc k) d within =
    values_each P reg row machines (All-tail P (field_in row (word_at machine reg)) (machine_values machines reg row) all)
    k d (omega arith)

-- each machine accepts the baseline
pub all_accept : (machines : List (List ℕ)) → IsAcceptedByAll (baseline_words machines) machines
all_accept machines k d within reg index row at =
    let some : 0 < length machines = omega arith in
    let is = field_is machines reg index row some at in
    let P : ℤ → Type 0 = λ value.
    merged row.rule row.safe (baseline_field machines reg row) value ≡ baseline_field machines reg row in
    subst (λ (v : ℤ). merged row.rule row.safe v (field_in row (word_at (get_or machines k d) reg)) ≡ v) (sym is)
    (values_each P reg row machines (fold_accepted row.rule row.safe (machine_values machines reg row)) k d within)

-- a register set that each machine accepts is at most the baseline
pub none_better : (machines : List (List ℕ)) (words : List ℕ) → 0 < length machines → IsAcceptedByAll words machines
    → IsAtMost words (baseline_words machines)
none_better machines words some accepted reg index row at =
    let is = field_is machines reg index row some at in
    let value : ℤ = field_in row (word_at words reg) in
    let P : ℤ → Type 0 = λ other. merged row.rule row.safe (field_in row (word_at words reg)) other
    ≡ field_in row (word_at words reg) in
    let each : All P (machine_values machines reg row) =
    values_all P reg row machines (λ k d within. accepted k d within reg index row at) in
    ap (merged row.rule row.safe (field_in row (word_at words reg))) is
    ∙ accepted_by_fold row.rule row.safe (field_in row (word_at words reg)) (machine_values machines reg row)
    (omega (arith, length-map machines (λ (machine : List ℕ). field_in row (word_at machine reg)))) each

-- the machine that limits a field
reached_last : (machines : List (List ℕ)) (reg : SysReg) (row : Row) (number : ℕ) → length machines ≤ number + 1
    → is_reached machines reg row number ≡ true
reached_last machines reg row number last =
    ap (λ them. int_eq (baseline_field them reg row) (baseline_field machines reg row)) (take_all (number + 1) machines last)
    ∙ int_eq_self (baseline_field machines reg row)

pub limits : (machines : List (List ℕ)) (reg : SysReg) (row : Row) → 0 < length machines
    → (number : ℕ) × ((limiting_machine machines reg row ≡ Some number) × IsLimiting machines reg row number)
unfolding limiting_machine
limits machines reg row some =
    let found = some_first (is_reached machines reg row) 0 (length machines) (length machines - 1) (omega arith)
    (omega arith) (reached_last machines reg row (length machines - 1) (omega arith)) in
    let first = found_is_first (is_reached machines reg row) 0 (length machines) found.0 found.1 in (
      found.0,
      (
        found.1,
        record {
          there = (let high = first.high in omega arith);
          reached = int_eq_true _ _ first.passes;
          first = λ before earlier same.
              false≢true (sym (first.before before (omega arith) earlier)
              ∙ ap (λ v. int_eq v (baseline_field machines reg row)) same ∙ int_eq_self (baseline_field machines reg row));
        },
      ),
    )

-- the baseline of the baselines of groups
group_values : (groups : List (List (List ℕ))) (reg : SysReg) (index : ℕ) (row : Row)
    → All (λ group. 0 < length group) groups → slice_get (rows_of reg) index ≡ Some row
    → machine_values (map baseline_words groups) reg row
    ≡ map (fold_of row.rule row.safe) (map (λ group. machine_values group reg row) groups)
group_values [] reg index row all at = refl
group_values (g ∷ groups) reg index row all at =
    let here = field_is g reg index row (All-head (λ (group : List (List ℕ)). 0 < length group) g groups all) at in
    let later = group_values groups reg index row (All-tail (λ (group : List (List ℕ)). 0 < length group) g groups all) at in
    rw (here, later) refl

flat_values : (groups : List (List (List ℕ))) (reg : SysReg) (row : Row)
    → flat_map (λ values. values) (map (λ group. machine_values group reg row) groups)
    ≡ machine_values (flat_map (λ group. group) groups) reg row
flat_values [] reg row = refl
flat_values (g ∷ groups) reg row =
    ap (λ later. machine_values g reg row ++ later) (flat_values groups reg row)
    ∙ sym (map-append (λ (machine : List ℕ). field_in row (word_at machine reg)) g (flat_map (λ group. group) groups))

values_some : (groups : List (List (List ℕ))) (reg : SysReg) (row : Row) → All (λ group. 0 < length group) groups
    → All (λ values. 0 < length values) (map (λ group. machine_values group reg row) groups)
values_some [] reg row all k d within = absurd (omega arith)
values_some (g ∷ groups) reg row all zero d within =
    let some : 0 < length g = All-head (λ (group : List (List ℕ)). 0 < length group) g groups all in
    omega (arith, length-map g (λ (machine : List ℕ). field_in row (word_at machine reg)))
values_some (g ∷ groups) reg row all (suc k) d within =
    values_some groups reg row (All-tail (λ (group : List (List ℕ)). 0 < length group) g groups all) k d (omega arith)

group_field : (groups : List (List (List ℕ))) (reg : SysReg) (index : ℕ) (row : Row) → 0 < length groups
    → All (λ group. 0 < length group) groups → slice_get (rows_of reg) index ≡ Some row
    → baseline_field (map baseline_words groups) reg row ≡ baseline_field (flat_map (λ group. group) groups) reg row
group_field groups reg index row some all at =
    ap (fold_of row.rule row.safe) (group_values groups reg index row all at)
    ∙ fold_groups row.rule row.safe (map (λ group. machine_values group reg row) groups)
    (omega (arith, length-map groups (λ (group : List (List ℕ)). machine_values group reg row)))
    (values_some groups reg row all)
    ∙ ap (fold_of row.rule row.safe) (flat_values groups reg row)

pub groups_make_one : (groups : List (List (List ℕ))) → 0 < length groups → All (λ group. 0 < length group) groups
    → baseline_words (map baseline_words groups) ≡ baseline_words (flat_map (λ group. group) groups)
unfolding baseline_words baseline_word
groups_make_one groups some all =
    map_agree (baseline_word (map baseline_words groups)) (baseline_word (flat_map (λ group. group) groups))
    (λ reg. word_of-same (λ index row. baseline_field (map baseline_words groups) reg row)
    (λ index row. baseline_field (flat_map (λ group. group) groups) reg row) (rows_of reg)
    (λ index row at. group_field groups reg index row some all at)) registers
