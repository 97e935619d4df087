-- The best register set that each machine of a pool accepts, so that a guest which is shown it may move among them. A
-- machine is told by the words of its registers over all cores that it admitted, by the registers' places.
use Rattle.std.specs.Prelude.{ℕ, ℤ, ◌+◌, ◌<◌, ◌≤◌, ◌≡◌, ◌≢◌, Bool, List, Option, Some, find, length, map, slice_get, take}
use Rattle.std.specs.List.{All, range_with_len}
use Rattle.std.specs.Ordering.{int_eq}
use Rattle.armcaps_rule.specs.Rule.{fold_of, merged}
use Rattle.armcaps_enc.specs.declared.register.SysReg.{SysReg}
use Rattle.armcaps_enc.specs.Registers.{registers}
use Rattle.armcaps_tables.specs.Core.{Core, word_at}
use Rattle.armcaps_tables.specs.Fields.{field_in, word_of}
use Rattle.armcaps_tables.specs.Row.{Row}
use Rattle.armcaps_tables.specs.Rows.{rows_of}

-- a value of a field is accepted by another where the two, merged by the field's rule, give it back
abbrev pub IsAcceptedValue : Row → ℤ → ℤ → Type 0
IsAcceptedValue row value other = merged row.rule row.safe value other ≡ value

-- a register set is accepted by a machine where each field's value is accepted by the machine's
abbrev pub IsAcceptedBy : List ℕ → List ℕ → Type 0
IsAcceptedBy words machine = (reg : SysReg) (index : ℕ) (row : Row) → slice_get (rows_of reg) index ≡ Some row
    → IsAcceptedValue row (field_in row (word_at words reg)) (field_in row (word_at machine reg))

-- a register set is accepted by each machine
abbrev pub IsAcceptedByAll : List ℕ → List (List ℕ) → Type 0
IsAcceptedByAll words machines = All (λ machine. IsAcceptedBy words machine) machines

-- a register set is at most another where each field's value is accepted by the other's
abbrev pub IsAtMost : List ℕ → List ℕ → Type 0
IsAtMost words other = IsAcceptedBy words other

-- the values that machines have of a field, in their order
abbrev pub machine_values : List (List ℕ) → SysReg → Row → List ℤ
machine_values machines reg row = map (λ machine. field_in row (word_at machine reg)) machines

-- the baseline's value of a field: the one value, by the field's rule, for those that the machines have
abbrev pub baseline_field : List (List ℕ) → SysReg → Row → ℤ
baseline_field machines reg row = fold_of row.rule row.safe (machine_values machines reg row)

-- the baseline's word of a register: the fields at their places, and 0 in all other bits
unfoldable pub baseline_word : List (List ℕ) → SysReg → ℕ
baseline_word machines reg = word_of (λ index row. baseline_field machines reg row) (rows_of reg)

-- the baseline's words, by the registers' places
unfoldable pub baseline_words : List (List ℕ) → List ℕ
baseline_words machines = map (baseline_word machines) registers

-- the words are those of the baseline of some machines, 1 to 64
pub record IsOf (machines : List (List ℕ)) (kept : List ℕ) : Type 0 where
  pub some : 0 < length machines
  pub few : length machines ≤ 64
  pub words : kept ≡ baseline_words machines

-- a machine's words as those of a core that has no vector length
abbrev pub as_core : List ℕ → Core
as_core words = record { words = map (word_at words) registers; lengths = 0 }

-- whether the machines up to the one with this number, from 0, give a field the value that all of them give it
abbrev pub is_reached : List (List ℕ) → SysReg → Row → ℕ → Bool
is_reached machines reg row number =
    int_eq (baseline_field (take (number + 1) machines) reg row) (baseline_field machines reg row)

-- the machine that limits a field, by its number: the first that, with those before it, gives the baseline's value
unfoldable pub limiting_machine : List (List ℕ) → SysReg → Row → Option ℕ
limiting_machine machines reg row = find (is_reached machines reg row) (range_with_len 0 (length machines))

-- a machine limits a field: with those before it, it gives the baseline's value, and those before it give another
pub record IsLimiting (machines : List (List ℕ)) (reg : SysReg) (row : Row) (number : ℕ) : Type 0 where
  pub there : number < length machines
  pub reached : baseline_field (take (number + 1) machines) reg row ≡ baseline_field machines reg row
  pub first : (before : ℕ) → before < number
      → baseline_field (take (before + 1) machines) reg row ≢ baseline_field machines reg row
