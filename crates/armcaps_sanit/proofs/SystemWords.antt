-- The words over lists of cores, and what one more core changes.
use Rattle.std.proofs.Common.{◌≡◌, ℕ, ◌<◌, List, [], ◌∷◌, ◌++◌, Some, slice_get, length, map, get_or, set, ◌+◌, ◌≤◌, length-append, length-set, refl, sym, ◌∙◌, ap, subst, lit≤, ◌^◌, ◌%◌, arith}
use Rattle.std.proofs.Math.Nat.{div-one, mod-eq_of_lt}
use Rattle.std.proofs.lemmas.List.Edits.{fill_by_more}
use Rattle.std.proofs.lemmas.List.FromFn.{fill_by_all}
use Rattle.armcaps_tables.proofs.MergedWords.{merged_word_made}
use Rattle.armcaps_rule.specs.Rule.{merged}
use Rattle.armcaps_enc.specs.declared.register.SysReg.{SysReg}
use Rattle.armcaps_enc.specs.declared.register.SysReg.TheVariants.{MidrEl1}
use Rattle.armcaps_enc.specs.Registers.{registers}
use Rattle.armcaps_enc.proofs.Places.{value_at}
use Rattle.armcaps_tables.specs.Row.{Row}
use Rattle.armcaps_tables.specs.Rows.{rows_of}
use Rattle.armcaps_tables.specs.Core.{Core, core_word, word_at}
use Rattle.armcaps_tables.specs.Fields.{field_in, HasFieldsAlone, IsMadeOf}
use Rattle.armcaps_tables.specs.Merging.{merged_word}
use Rattle.armcaps_tables.specs.Overriding.{AllFit, FieldOverrides}
use Rattle.armcaps_tables.proofs.FieldWords.{made_of, word_of-same}
use Rattle.armcaps_sanit.specs.System.{system_field, system_word, system_words, merged_words, IsSystemOf}
use Rattle.armcaps_sanit.proofs.SystemFields.{system_field_fits, system_field_insert, system_field_again}

pub map_same : (f g : SysReg → ℕ) (xs : List SysReg) → ((reg : SysReg) → f reg ≡ g reg) → map f xs ≡ map g xs
map_same f g [] same = refl
map_same f g (x ∷ xs) same =
    let more = map_same f g xs same in
    let here = same x in rw (here, more)

-- seventeen words, of which those of the registers before one are a function's
pub record Filled (f : SysReg → ℕ) (end : ℕ) (words : List ℕ) : Type 0 where
  pub size : length words ≡ 17
  pub below : (place : ℕ) → place < end → get_or words place 0 ≡ f (get_or registers place MidrEl1)

pub filled_none : (f : SysReg → ℕ) (words : List ℕ) → length words ≡ 17 → Filled f 0 words
filled_none f words size = record { size = size; below = λ place h. absurd (omega arith) }

pub filled_more : (f : SysReg → ℕ) (end : ℕ) (words : List ℕ) (word : ℕ) → end < 17 → Filled f end words
    → word ≡ f (get_or registers end MidrEl1) → Filled f (end + 1) (set words end word)
filled_more f end words word within filled here = record {
  size = length-set words end word ∙ filled.size;
  below = subst (λ (w : ℕ). (place : ℕ) → place < end + 1 → get_or (set words end w) place 0 ≡ f (get_or registers place MidrEl1))
      (sym here)
      (fill_by_more (λ (place : ℕ). f (get_or registers place MidrEl1)) words end 0 (omega (arith, filled.size)) filled.below);
}

pub filled_all : (f : SysReg → ℕ) (end : ℕ) (words : List ℕ) → 17 ≤ end → Filled f end words → words ≡ map f registers
filled_all f end words whole filled =
    fill_by_all (λ (place : ℕ). f (get_or registers place MidrEl1)) words 17 0 filled.size
    (λ place h. filled.below place (omega arith))

-- a register's word over some cores is made of the values over them
pub system_word_made : (overrides : FieldOverrides) (cores : List Core) (reg : SysReg) → AllFit overrides → 0 < length cores
    → IsMadeOf (system_field overrides cores reg) (rows_of reg) (system_word overrides cores reg)
unfolding system_word
system_word_made overrides cores reg fit some =
    made_of reg (system_field overrides cores reg) (system_field_fits overrides fit cores some reg)

-- a register's word over some cores, after one more core, wherever it belongs
system_word_insert : (overrides : FieldOverrides) (before after : List Core) (core : Core) (reg : SysReg) → AllFit overrides
    → 0 < length (before ++ after)
    → merged_word reg (system_word overrides (before ++ after) reg) (core_word core reg)
    ≡ system_word overrides (before ++ core ∷ after) reg
unfolding merged_word system_word
system_word_insert overrides before after core reg fit some =
    let made = made_of reg (system_field overrides (before ++ after) reg) (system_field_fits overrides fit (before ++ after) some reg) in
    word_of-same _ _ (rows_of reg) (λ index row at.
    ap (λ v. merged row.rule row.safe v (field_in row (core_word core reg))) (made.fields index row at)
    ∙ sym (system_field_insert overrides before after core reg index row some))

-- and after one of the cores again
system_word_again : (overrides : FieldOverrides) (before after : List Core) (core : Core) (reg : SysReg) → AllFit overrides
    → merged_word reg (system_word overrides (before ++ core ∷ after) reg) (core_word core reg)
    ≡ system_word overrides (before ++ core ∷ after) reg
unfolding merged_word system_word
system_word_again overrides before after core reg fit =
    let some : 0 < length (before ++ core ∷ after) = omega (arith, length-append {A = Core}) in
    let made = made_of reg (system_field overrides (before ++ core ∷ after) reg)
    (system_field_fits overrides fit (before ++ core ∷ after) some reg) in
    word_of-same _ _ (rows_of reg) (λ index row at.
    ap (λ v. merged row.rule row.safe v (field_in row (core_word core reg))) (made.fields index row at)
    ∙ system_field_again overrides before after core reg index row)

-- a register's word, of those over some cores
pub system_word_at : (overrides : FieldOverrides) (cores : List Core) (words : List ℕ) (reg : SysReg)
    → IsSystemOf overrides cores words → word_at words reg ≡ system_word overrides cores reg
unfolding system_words
system_word_at overrides cores words reg stands =
    ap (λ (w : List ℕ). word_at w reg) stands.words ∙ value_at (system_word overrides cores) reg 0

-- the words over some cores have their fields alone
pub system_words_alone : (overrides : FieldOverrides) (cores : List Core) (words : List ℕ) → IsSystemOf overrides cores words
    → (reg : SysReg) → HasFieldsAlone (rows_of reg) (word_at words reg)
system_words_alone overrides cores words stands reg =
    subst (HasFieldsAlone (rows_of reg)) (sym (system_word_at overrides cores words reg stands))
    (system_word_made overrides cores reg stands.fit stands.some).others

-- and so have merged words
pub merged_words_alone : (words : List ℕ) (core : Core) (reg : SysReg)
    → HasFieldsAlone (rows_of reg) (word_at (merged_words words core) reg)
unfolding merged_words
merged_words_alone words core reg =
    subst (HasFieldsAlone (rows_of reg))
    (sym (value_at (λ (r : SysReg). merged_word r (word_at words r) (core_word core r)) reg 0))
    (merged_word_made reg (word_at words reg) (core_word core reg)).others

-- a word without fields, which has its fields alone, is 0
pub no_fields : (rows : List Row) (word : ℕ) → word < 2 ^ 64 → HasFieldsAlone rows word → rows ≡ [] → word ≡ 0
no_fields [] word small alone none =
    sym (mod-eq_of_lt small) ∙ ap (λ n. n % 2 ^ 64) (sym (div-one word)) ∙ alone 0 64 (lit≤ tt) (λ index row at. cc)
no_fields (row ∷ rows) word small alone none = cc

-- the words of one core alone
pub is_system_alone : (overrides : FieldOverrides) (core : Core) → AllFit overrides
    → IsSystemOf overrides (core ∷ []) (system_words overrides (core ∷ []))
is_system_alone overrides core fit = record { fit = fit; some = omega arith; words = refl }

-- the words over some cores, after one more core, wherever it belongs
pub is_system_insert : (overrides : FieldOverrides) (before after : List Core) (core : Core) (words : List ℕ)
    → IsSystemOf overrides (before ++ after) words → IsSystemOf overrides (before ++ core ∷ after) (merged_words words core)
unfolding merged_words system_words
is_system_insert overrides before after core words stands = record {
  fit = stands.fit;
  some = omega (arith, length-append {A = Core});
  words = map_same (λ reg. merged_word reg (word_at words reg) (core_word core reg))
      (system_word overrides (before ++ core ∷ after)) registers (λ reg.
      ap (λ n. merged_word reg n (core_word core reg)) (system_word_at overrides (before ++ after) words reg stands)
      ∙ system_word_insert overrides before after core reg stands.fit stands.some);
}

-- the words over some cores, after one of them again
pub is_system_again : (overrides : FieldOverrides) (before after : List Core) (core : Core) (words : List ℕ)
    → IsSystemOf overrides (before ++ core ∷ after) words → merged_words words core ≡ words
unfolding merged_words system_words
is_system_again overrides before after core words stands =
    map_same (λ reg. merged_word reg (word_at words reg) (core_word core reg))
    (system_word overrides (before ++ core ∷ after)) registers (λ reg.
    ap (λ n. merged_word reg n (core_word core reg)) (system_word_at overrides (before ++ core ∷ after) words reg stands)
    ∙ system_word_again overrides before after core reg stands.fit)
    ∙ sym stands.words

-- the fields of the words over some cores are the values over them
pub system_field_at : (overrides : FieldOverrides) (cores : List Core) (words : List ℕ) (reg : SysReg) (index : ℕ) (row : Row)
    → IsSystemOf overrides cores words → slice_get (rows_of reg) index ≡ Some row
    → field_in row (word_at words reg) ≡ system_field overrides cores reg index row
system_field_at overrides cores words reg index row stands at =
    ap (field_in row) (system_word_at overrides cores words reg stands)
    ∙ (system_word_made overrides cores reg stands.fit stands.some).fields index row at
