-- What one more line makes of what the lines before come to.
use Rattle.std.proofs.Common.{◌≡◌, ◌≢◌, ℕ, ◌-◌, ◌==◌, ◌||◌, max, Bool, true, false, List, [], ◌∷◌, ◌++◌, length, map, filter_map, reverse, Option, Some, None, unwrap_or, refl, sym, ap, subst, ◌∙◌, arith, set, append-nil}
use Rattle.std.specs.FinMap.{from_entries}
use Rattle.std.specs.List.{list_any}
use Rattle.std.specs.Option.{option_or, option_to_list}
use Rattle.std.specs.Ordering.{nat_cmp}
use Rattle.std.proofs.lemmas.Bool.Decides.{nat_tests}
use Rattle.std.proofs.lemmas.List.{reverse-append, map-append}
use Rattle.std.proofs.lemmas.List.Sums.{fold-append}
use Rattle.armcaps_enc.specs.declared.register.SysReg.{SysReg}
use Rattle.armcaps_enc.specs.Registers.{place_of, registers}
use Rattle.armcaps_tables.specs.Core.{Core}
use Rattle.armcaps_text.specs.Before.{is_core, register_given, word_given, lengths_given, is_lengths, boot_given, command_line_given, step_given, name_given, callback_given, conduit_given, layout_given, image_given, last_given, lines_by_core, register_word, core_told, greatest_section, before}
use Rattle.armcaps_text.specs.Learned.{zero_core, with_last, with_word, with_lengths, cores_after, named_after, measured_after, put_into, learned}
use Rattle.armcaps_text.specs.Meaning.{section_of}
use Rattle.armcaps_text.specs.declared.line.Line.{Line}
use Rattle.armcaps_text.specs.declared.line.Line.TheVariants.{Core as CoreLine, Register, VectorLengths}
use Rattle.armcaps_text.proofs.Groups.{onto_last, last_group, groups_push_yes, groups_push_no, last_group-push, last_group-onto_last}
use Rattle.armcaps_text.proofs.Pushes.{list_any-push, filter_map-push, map_onto_last-same, map_onto_last-set, map-last, map_range-set}
use Rattle.std.proofs.Math.Bool.{or-false, or-true}
use Rattle.armcaps_logic.proofs.Lists.{map_agree}

abbrev Texts : Type 0
Texts = Line (List ℕ)

-- what the last line gives
given-push : {A : Type 0} (of : Texts → Option A) (lines : List Texts) (line : Texts) → last_given of (lines ++ line ∷ []) ≡ option_or (of line) (last_given of lines)
given-push of lines line = fold-append (λ given one. option_or (of one) given) None lines (line ∷ [])

section-push : (lines : List Texts) (line : Texts) → greatest_section (lines ++ line ∷ []) ≡ max (greatest_section lines) (section_of line)
section-push lines line = fold-append (λ section one. max section (section_of one)) 0 lines (line ∷ [])

-- the entries of a map
entries-push : {V : Type 0} (of : Texts → Option (ℕ × V)) (lines : List Texts) (line : Texts) → from_entries {R = nat_cmp} (reverse (filter_map of (lines ++ line ∷ []))) ≡ put_into (from_entries (reverse (filter_map of lines))) (of line)
entries-push {V} of lines line = ap (λ (es : List (ℕ × V)). from_entries {R = nat_cmp} (reverse es)) (filter_map-push of lines line) ∙ by_entry (of line)
  where
    by_entry : (entry : Option (ℕ × V)) → from_entries {R = nat_cmp} (reverse (filter_map of lines ++ option_to_list entry)) ≡ put_into (from_entries (reverse (filter_map of lines))) entry
    by_entry None = ap (λ (es : List (ℕ × V)). from_entries {R = nat_cmp} (reverse es)) (append-nil (filter_map of lines))
    by_entry (Some entry) = ap (λ (es : List (ℕ × V)). from_entries {R = nat_cmp} es) (reverse-append (filter_map of lines) (entry ∷ []))

-- a word of a core's register
word-push : (place : ℕ) (lines : List Texts) (line : Texts) → register_word (lines ++ line ∷ []) place ≡ unwrap_or (option_or (word_given place line) (last_given (word_given place) lines)) 0
word-push place lines line = ap (λ (word : Option ℕ). unwrap_or word 0) (given-push (word_given place) lines line)

-- a line that tells nothing of a core
core_told-quiet : (line : Texts) → ((place : ℕ) → word_given place line ≡ None) → lengths_given line ≡ None → (lines : List Texts) → core_told (lines ++ line ∷ []) ≡ core_told lines
core_told-quiet line no_word no_lengths lines =
    let words : map (λ (reg : SysReg). register_word (lines ++ line ∷ []) (place_of reg)) registers ≡ map (λ (reg : SysReg). register_word lines (place_of reg)) registers = map_agree (λ (reg : SysReg). register_word (lines ++ line ∷ []) (place_of reg)) (λ (reg : SysReg). register_word lines (place_of reg)) (λ reg. word-push (place_of reg) lines line ∙ rw (no_word (place_of reg)) refl) registers in
    let same : last_given lengths_given (lines ++ line ∷ []) ≡ last_given lengths_given lines = given-push lengths_given lines line ∙ ap (λ (o : Option ℕ). option_or o (last_given lengths_given lines)) no_lengths in
    let lengths : unwrap_or (last_given lengths_given (lines ++ line ∷ [])) 0 ≡ unwrap_or (last_given lengths_given lines) 0 = ap (λ (o : Option ℕ). unwrap_or o 0) same in
    cc

-- a line that gives a register its word
core_told-word : (reg : SysReg) (word : ℕ) (lines : List Texts) → core_told (lines ++ Register reg word ∷ []) ≡ with_word reg word (core_told lines)
core_told-word reg word lines =
    let words = map_range-set (register_word lines) (register_word (lines ++ Register reg word ∷ [])) (place_of reg) word others here 17 0 (place_of reg) (omega arith) in
    let lengths : unwrap_or (last_given lengths_given (lines ++ Register reg word ∷ [])) 0 ≡ unwrap_or (last_given lengths_given lines) 0 = ap (λ (o : Option ℕ). unwrap_or o 0) (given-push lengths_given lines (Register reg word)) in
    cc
  where
    others : (other : ℕ) → other ≢ place_of reg → register_word (lines ++ Register reg word ∷ []) other ≡ register_word lines other
    others other apart = let no : (place_of reg == other) ≡ false = grind (arith, nat_tests) in word-push other lines (Register reg word) ∙ rw no refl

    here : register_word (lines ++ Register reg word ∷ []) (place_of reg) ≡ word
    here = let yes : (place_of reg == place_of reg) ≡ true = grind (arith, nat_tests) in word-push (place_of reg) lines (Register reg word) ∙ rw yes refl

-- a line that gives vector lengths
core_told-lengths : (lengths : ℕ) (lines : List Texts) → core_told (lines ++ VectorLengths lengths ∷ []) ≡ with_lengths lengths (core_told lines)
core_told-lengths lengths lines =
    let words : map (λ (reg : SysReg). register_word (lines ++ VectorLengths lengths ∷ []) (place_of reg)) registers ≡ map (λ (reg : SysReg). register_word lines (place_of reg)) registers = map_agree (λ (reg : SysReg). register_word (lines ++ VectorLengths lengths ∷ []) (place_of reg)) (λ (reg : SysReg). register_word lines (place_of reg)) (λ reg. word-push (place_of reg) lines (VectorLengths lengths)) registers in
    let here : unwrap_or (last_given lengths_given (lines ++ VectorLengths lengths ∷ [])) 0 ≡ lengths = ap (λ (o : Option ℕ). unwrap_or o 0) (given-push lengths_given lines (VectorLengths lengths)) in
    cc

-- the last core changed
cores-change : (change : Core → Core) (line : Texts) → ((lines : List Texts) → core_told (lines ++ line ∷ []) ≡ change (core_told lines)) → (groups : List (List Texts)) → map core_told (onto_last line groups) ≡ with_last change (map core_told groups)
cores-change change line h [] = refl
cores-change change line h (group ∷ groups) =
    let all : List (List Texts) = group ∷ groups in
    let last : ℕ = length (map core_told all) - 1 in
    map_onto_last-set core_told line all (omega arith)
    ∙ ap (λ (core : Core). set (map core_told all) last core) (h (last_group all) ∙ ap change (sym (map-last core_told all zero_core (omega arith))))

-- the cores, with one more line of the last one
cores-onto : (line : Texts) (groups : List (List Texts)) → is_core line ≡ false → map core_told (onto_last line groups) ≡ cores_after (map core_told groups) line
cores-onto (CoreLine core) groups h = cc
cores-onto (Register reg word) groups h = cores-change (with_word reg word) (Register reg word) (core_told-word reg word) groups
cores-onto (VectorLengths lengths) groups h = cores-change (with_lengths lengths) (VectorLengths lengths) (core_told-lengths lengths) groups
cores-onto line groups h = map_onto_last-same core_told line (core_told-quiet line (λ _. refl) refl) groups

-- what the lines of the last core come to, with one more
onto-group : {A : Type 0} (value : List Texts → A) (after : List Core → A → Texts → A) (line : Texts) (groups : List (List Texts)) → value [] ≡ after [] (value []) line
    → ((first : Core) (cores : List Core) (lines : List Texts) → value (lines ++ line ∷ []) ≡ after (first ∷ cores) (value lines) line) → value (last_group (onto_last line groups)) ≡ after (map core_told groups) (value (last_group groups)) line
onto-group value after line [] none some = none
onto-group value after line (group ∷ groups) none some = ap value (last_group-onto_last line (group ∷ groups) (omega arith)) ∙ some (core_told group) (map core_told groups) (last_group (group ∷ groups))

-- the registers named of the last core
named-onto : (line : Texts) (groups : List (List Texts)) → is_core line ≡ false → filter_map register_given (last_group (onto_last line groups)) ≡ named_after (map core_told groups) (filter_map register_given (last_group groups)) line
named-onto line groups h = onto-group (filter_map register_given) named_after line groups (none line) (λ first cores lines. filter_map-push register_given lines line ∙ some line h first cores (filter_map register_given lines))
  where
    none : (line : Texts) → [] ≡ named_after [] [] line
    none (CoreLine core) = refl
    none line = refl

    some : (line : Texts) → is_core line ≡ false → (first : Core) (cores : List Core) (named : List SysReg) → named ++ option_to_list (register_given line) ≡ named_after (first ∷ cores) named line
    some (CoreLine core) h first cores named = cc
    some (Register reg word) h first cores named = refl
    some line h first cores named = append-nil named

-- whether vector lengths were given to the last core
measured-onto : (line : Texts) (groups : List (List Texts)) → is_core line ≡ false → list_any is_lengths (last_group (onto_last line groups)) ≡ measured_after (map core_told groups) (list_any is_lengths (last_group groups)) line
measured-onto line groups h = onto-group (list_any is_lengths) measured_after line groups (none line) (λ first cores lines. list_any-push is_lengths lines line ∙ some line h first cores (list_any is_lengths lines))
  where
    none : (line : Texts) → false ≡ measured_after [] false line
    none (CoreLine core) = refl
    none line = refl

    some : (line : Texts) → is_core line ≡ false → (first : Core) (cores : List Core) (measured : Bool) → (measured || is_lengths line) ≡ measured_after (first ∷ cores) measured line
    some (CoreLine core) h first cores measured = cc
    some (VectorLengths lengths) h first cores measured = or-true measured
    some line h first cores measured = or-false measured

-- a line that begins a core is one
is_core_line : (line : Texts) → is_core line ≡ true → (core : ℕ) × (line ≡ CoreLine core)
is_core_line (CoreLine core) h = (core, refl)
is_core_line line h = cc

-- what is kept for each core
pub record CoresPushed (lines : List Texts) (line : Texts) : Type 0 where
  pub cores : map core_told (lines_by_core (lines ++ line ∷ [])) ≡ cores_after (map core_told (lines_by_core lines)) line
  pub named : filter_map register_given (last_group (lines_by_core (lines ++ line ∷ []))) ≡ named_after (map core_told (lines_by_core lines)) (filter_map register_given (last_group (lines_by_core lines))) line
  pub measured : list_any is_lengths (last_group (lines_by_core (lines ++ line ∷ []))) ≡ measured_after (map core_told (lines_by_core lines)) (list_any is_lengths (last_group (lines_by_core lines))) line

cores-push : (lines : List Texts) (line : Texts) → CoresPushed lines line
cores-push lines line = by_core (is_core line) refl
  where
    groups : List (List Texts)
    groups = lines_by_core lines

    begun : (core : ℕ) → CoresPushed lines (CoreLine core)
    begun core =
        let grown = groups_push_yes is_core lines (CoreLine core) refl in
        record {
          cores = ap (map core_told) grown ∙ map-append core_told groups ([] ∷ []);
          named = ap (λ (all : List (List Texts)). filter_map register_given (last_group all)) grown ∙ ap (filter_map register_given) (last_group-push groups []);
          measured = ap (λ (all : List (List Texts)). list_any is_lengths (last_group all)) grown ∙ ap (list_any is_lengths) (last_group-push groups []);
        }

    by_core : (core : Bool) → is_core line ≡ core → CoresPushed lines line
    by_core true h = let known = is_core_line line h in subst (λ (one : Texts). CoresPushed lines one) (sym known.1) (begun known.0)
    by_core false h =
        let grown = groups_push_no is_core lines line h in
        record {
          cores = ap (map core_told) grown ∙ cores-onto line groups h;
          named = ap (λ (all : List (List Texts)). filter_map register_given (last_group all)) grown ∙ named-onto line groups h;
          measured = ap (λ (all : List (List Texts)). list_any is_lengths (last_group all)) grown ∙ measured-onto line groups h;
        }

-- what lines come to, with one more
pub before-push : (lines : List Texts) (line : Texts) → before (lines ++ line ∷ []) ≡ learned (before lines) line
unfolding before learned
before-push lines line =
    let of_cores = cores-push lines line in
    let cores = of_cores.cores in
    let named = of_cores.named in
    let measured = of_cores.measured in
    let boot = given-push boot_given lines line in
    let command_line = given-push command_line_given lines line in
    let steps = filter_map-push step_given lines line in
    let numbers = entries-push name_given lines line in
    let callbacks = entries-push callback_given lines line in
    let conduit = given-push conduit_given lines line in
    let layout = given-push layout_given lines line in
    let image = given-push image_given lines line in
    let section = section-push lines line in
    cc
