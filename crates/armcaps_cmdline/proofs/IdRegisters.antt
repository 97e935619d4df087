-- A command line assigns to rows of ID registers alone.
use Rattle.std.proofs.Common.{◌≡◌, ℕ, ◌==◌, ◌&&◌, Bool, true, false, List, [], ◌∷◌, ◌++◌, slice_get, map, filter, find, length, cond, Option, Some, None, codes, refl, sym, ap, subst, ◌∙◌}
use Rattle.std.specs.Option.{option_map, option_map_or, option_and_then, option_or, option_to_list}
use Rattle.std.specs.Str.{bytes_eq}
use Rattle.std.specs.List.{list_all, flat_map, position, range_with_len}
use Rattle.std.proofs.lemmas.Bool.{eqb-true, false≢true, and_from}
use Rattle.armcaps_logic.proofs.Searches.{list_all-both}
use Rattle.armcaps_enc.specs.declared.register.SysReg.{SysReg}
use Rattle.armcaps_enc.specs.declared.register.SysReg.TheVariants.{IdAa64Pfr0El1, IdAa64Pfr1El1, IdAa64Zfr0El1, IdAa64Smfr0El1}
use Rattle.armcaps_enc.specs.Registers.{is_id_register, place_of, short_name_of, tracked}
use Rattle.armcaps_tables.specs.Facts.{has_name}
use Rattle.armcaps_tables.specs.Overriding.{cut_value}
use Rattle.armcaps_tables.specs.Row.{Row}
use Rattle.armcaps_tables.specs.Rows.{rows_of}
use Rattle.armcaps_enc.proofs.Places.{one_register}
use Rattle.armcaps_cmdline.specs.declared.alias.Alias.{Alias}
use Rattle.armcaps_cmdline.specs.declared.alias.Alias.TheVariants.{NoSve}
use Rattle.armcaps_lex.specs.Digits.{value_of}
use Rattle.armcaps_cmdline.specs.Words.{counted_words}
use Rattle.armcaps_cmdline.specs.Assignments.{Assignment, Setting, assigned, zeros_for, is_field, dependents, is_cut_to_zero, assignments_to, alias_settings, alias_named, register_of, register_part, field_part, value_part, setting_of, settings_of, assignments_of, assignments}
use Rattle.armcaps_cmdline.specs.Overrides.{last_number, command_line_override}
use Rattle.armcaps_cmdline.proofs.Assignments.{last_number-append}

-- whether an assignment, and a setting, is one to an ID register
abbrev to_id : Assignment → Bool
to_id assignment = is_id_register assignment.register

abbrev of_id : Setting → Bool
of_id setting = is_id_register setting.register

all_of_each : {X Y : Type 0} (p : Y → Bool) (q : X → Bool) (f : X → List Y)
    → ((x : X) → q x ≡ true → list_all p (f x) ≡ true) → (xs : List X) → list_all q xs ≡ true
    → list_all p (flat_map f xs) ≡ true
all_of_each p q f each [] h = refl
all_of_each p q f each (x ∷ xs) h = by_first (q x) (list_all q xs) refl refl h (all_of_each p q f each xs)
  where
    by_first : (a b : Bool) → q x ≡ a → list_all q xs ≡ b → (a && b) ≡ true
        → (list_all q xs ≡ true → list_all p (flat_map f xs) ≡ true) → list_all p (f x ++ flat_map f xs) ≡ true
    by_first false b e g h more = absurd (false≢true h)
    by_first true false e g h more = absurd (false≢true h)
    by_first true true e g h more = list_all-both p (f x) (flat_map f xs) (each x e) (more g)

all_true : {X : Type 0} (xs : List X) → list_all (λ _. true) xs ≡ true
all_true [] = refl
all_true (x ∷ xs) = all_true xs

-- the rows of an ID register
assigned_id : (register : SysReg) (field : List ℕ) (number : ℕ) → is_id_register register ≡ true
    → list_all to_id (assigned register field number) ≡ true
assigned_id register field number h = by_place (position (has_name field) (rows_of register))
  where
    by_place : (place : Option ℕ)
        → list_all to_id (option_map_or
        (λ index. record { register = register; index = index; number = number } ∷ []) place []) ≡ true
    by_place None = refl
    by_place (Some index) = rw h refl

zeros_id : (register : SysReg) (indices : List ℕ) → is_id_register register ≡ true
    → list_all to_id (map (λ index. record { register = register; index = index; number = 0 }) indices) ≡ true
zeros_id register [] h = refl
zeros_id register (index ∷ indices) h =
    and_from (is_id_register register) (list_all to_id
    (map (λ index. record { register = register; index = index; number = 0 }) indices)) h (zeros_id register indices h)

zeros_for_id : (register : SysReg) → is_id_register register ≡ true → list_all to_id (zeros_for register) ≡ true
zeros_for_id register h = zeros_id register (range_with_len 0 (length (rows_of register))) h

-- the dependents
dependents_id : (register : SysReg) (field : List ℕ) → list_all to_id (dependents register field) ≡ true
dependents_id register field =
    by_tests (is_field register field IdAa64Pfr0El1 (codes "sve")) (is_field register field IdAa64Pfr1El1 (codes "sme"))
  where
    by_tests : (sve sme : Bool)
        → list_all to_id (cond sve (zeros_for IdAa64Zfr0El1 ++
        (assigned IdAa64Pfr1El1 (codes "sme") 0 ++ zeros_for IdAa64Smfr0El1))
        (cond sme (zeros_for IdAa64Smfr0El1) [])) ≡ true
    by_tests true sme =
        list_all-both to_id (zeros_for IdAa64Zfr0El1)
        (assigned IdAa64Pfr1El1 (codes "sme") 0 ++ zeros_for IdAa64Smfr0El1) (zeros_for_id IdAa64Zfr0El1 refl)
        (list_all-both to_id (assigned IdAa64Pfr1El1 (codes "sme") 0) (zeros_for IdAa64Smfr0El1)
        (assigned_id IdAa64Pfr1El1 (codes "sme") 0 refl) (zeros_for_id IdAa64Smfr0El1 refl))
    by_tests false true = zeros_for_id IdAa64Smfr0El1 refl
    by_tests false false = refl

-- a setting
setting_id : (setting : Setting) → of_id setting ≡ true → list_all to_id (assignments_to setting) ≡ true
setting_id setting h =
    list_all-both to_id (assigned setting.register setting.field setting.number)
    (cond (is_cut_to_zero setting.register setting.field setting.number) (dependents setting.register setting.field) [])
    (assigned_id setting.register setting.field setting.number h)
    (by_test (is_cut_to_zero setting.register setting.field setting.number))
  where
    by_test : (zero : Bool) → list_all to_id (cond zero (dependents setting.register setting.field) []) ≡ true
    by_test true = dependents_id setting.register setting.field
    by_test false = refl

-- the settings of an alias
alias_id : (alias : Alias) → list_all of_id (alias_settings alias) ≡ true
alias_id NoSve = refl
alias_id other = refl

-- what a filtered list has passes the filter
found_passes : (p q : SysReg → Bool) (xs : List SysReg) (x : SysReg) → find p (filter q xs) ≡ Some x → q x ≡ true
found_passes p q [] x h = cc
found_passes p q (y ∷ ys) x h = by_filter (q y) refl h (found_passes p q ys x)
  where
    by_find : (b : Bool) → q y ≡ true → cond b (Some y) (find p (filter q ys)) ≡ Some x
        → (find p (filter q ys) ≡ Some x → q x ≡ true) → q x ≡ true
    by_find true e h more = let same : y ≡ x = cc in subst (λ (z : SysReg). q z ≡ true) same e
    by_find false e h more = more h

    by_filter : (b : Bool) → q y ≡ b → find p (cond b (y ∷ filter q ys) (filter q ys)) ≡ Some x
        → (find p (filter q ys) ≡ Some x → q x ≡ true) → q x ≡ true
    by_filter true e h more = by_find (p y) e h more
    by_filter false e h more = more h

register_of_id : (name : List ℕ) (register : SysReg) → register_of name ≡ Some register → is_id_register register ≡ true
unfolding register_of
register_of_id name register h =
    found_passes (λ register. bytes_eq (short_name_of register) name) is_id_register tracked register h

-- the setting of a word
setting_of_id : (word : List ℕ) → list_all of_id (option_to_list (setting_of word)) ≡ true
setting_of_id word =
    by_parts (register_of (register_part word)) (value_of (value_part word)) (register_of_id (register_part word))
  where
    by_parts : (register : Option SysReg) (number : Option ℕ)
        → ((it : SysReg) → register ≡ Some it → is_id_register it ≡ true)
        → list_all of_id (option_to_list
        (option_and_then (λ register. option_map
        (λ number. record { register = register; field = field_part word; number = number }) number) register)) ≡ true
    by_parts None number h = refl
    by_parts (Some register) None h = refl
    by_parts (Some register) (Some number) h = rw (h register refl) refl

settings_of_id : (word : List ℕ) → list_all of_id (settings_of word) ≡ true
settings_of_id word = by_alias (alias_named word)
  where
    by_alias : (alias : Option Alias)
        → list_all of_id (option_map_or alias_settings alias (option_to_list (setting_of word))) ≡ true
    by_alias None = setting_of_id word
    by_alias (Some alias) = alias_id alias

-- all of a command line
assignments_id : (text : List ℕ) → list_all to_id (assignments text) ≡ true
assignments_id text =
    all_of_each to_id (λ _. true) assignments_of
    (λ word h. all_of_each to_id of_id assignments_to setting_id (settings_of word) (settings_of_id word))
    (counted_words text) (all_true (counted_words text))

-- so it has none to a register that is no ID register
none_outside : (list : List Assignment) (register : SysReg) (index : ℕ) → is_id_register register ≡ false
    → list_all to_id list ≡ true → last_number list register index ≡ None
none_outside [] register index h k = refl
none_outside (assignment ∷ list) register index h k =
    by_first (to_id assignment) (list_all to_id list) refl refl k (none_outside list register index h)
  where
    by_place : (b : Bool) → (place_of assignment.register == place_of register) ≡ b → to_id assignment ≡ true
        → last_number (assignment ∷ []) register index ≡ None
    by_place true e t =
        absurd (false≢true (sym h ∙ ap is_id_register (sym (one_register assignment.register register (eqb-true
        (place_of assignment.register) (place_of register) e))) ∙ t))
    by_place false e t = rw e refl

    by_first : (a b : Bool) → to_id assignment ≡ a → list_all to_id list ≡ b → (a && b) ≡ true
        → (list_all to_id list ≡ true → last_number list register index ≡ None)
        → last_number (assignment ∷ list) register index ≡ None
    by_first false b e g k more = absurd (false≢true k)
    by_first true false e g k more = absurd (false≢true k)
    by_first true true e g k more =
        last_number-append (assignment ∷ []) list register index
        ∙ ap (λ (o : Option ℕ). option_or o (last_number (assignment ∷ []) register index)) (more g)
        ∙ by_place (place_of assignment.register == place_of register) refl e

pub outside : (text : List ℕ) (register : SysReg) (index : ℕ) → is_id_register register ≡ false
    → command_line_override text register index ≡ None
unfolding command_line_override
outside text register index h =
    by_row (slice_get (rows_of register) index) (last_number (assignments text) register index)
    (none_outside (assignments text) register index h (assignments_id text))
  where
    by_row : (row : Option Row) (number : Option ℕ) → number ≡ None
        → option_and_then (λ (row : Row). option_map (λ number. cut_value row number) number) row ≡ None
    by_row None number e = refl
    by_row (Some row) number e = rw e refl
