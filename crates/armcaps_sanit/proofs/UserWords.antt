-- The words that users see, over lists of cores.
use Rattle.std.proofs.Common.{◌≡◌, ℕ, ◌<◌, Bool, true, false, cond, IsTrue, List, length, ap}
use Rattle.std.specs.Prelude.{ℤ}
use Rattle.armcaps_enc.specs.declared.register.SysReg.{SysReg}
use Rattle.armcaps_tables.specs.Row.{Row}
use Rattle.armcaps_tables.specs.Rows.{rows_of}
use Rattle.armcaps_tables.specs.Core.{Core, word_at}
use Rattle.armcaps_tables.specs.Fields.{field_in, value_fits, IsMadeOf, ValuesFit}
use Rattle.armcaps_tables.specs.Overriding.{AllFit, FieldOverrides}
use Rattle.armcaps_tables.proofs.FieldWords.{made_of, word_of-same}
use Rattle.armcaps_tables.proofs.Places.{row_safe, row_in_word}
use Rattle.armcaps_sanit.specs.System.{system_field, IsSystemOf}
use Rattle.armcaps_sanit.specs.Users.{shown, user_field, user_word, shown_word}
use Rattle.armcaps_sanit.proofs.SystemFields.{system_field_fits}
use Rattle.armcaps_tables.proofs.MergedWords.{field_in_fits}
use Rattle.armcaps_sanit.proofs.SystemWords.{system_field_at}

shown_passes : (test : ℤ → Bool) (visible : Bool) (value safe : ℤ) → IsTrue (test value) → IsTrue (test safe)
    → IsTrue (test (cond visible value safe))
shown_passes test true value safe p s = p
shown_passes test false value safe p s = s

-- what users see of a field is a value that the field can have
pub shown_fits : (reg : SysReg) (value : ℕ → Row → ℤ) → ValuesFit value (rows_of reg)
    → ValuesFit (λ index row. shown row (value index row)) (rows_of reg)
shown_fits reg value fit index row at =
    shown_passes (value_fits row) row.visible (value index row) row.safe (fit index row at) (row_safe reg index row at)

-- what users see of a word's fields are values that the fields can have
pub shown_word_fits : (reg : SysReg) (word : ℕ) → ValuesFit (λ index row. shown row (field_in row word)) (rows_of reg)
shown_word_fits reg word =
    shown_fits reg (λ index row. field_in row word)
    (λ index row at. field_in_fits row word (row_in_word reg index row at).0)

-- the word that users see is made of what they see of its fields
pub shown_word_made : (reg : SysReg) (word : ℕ)
    → IsMadeOf (λ index row. shown row (field_in row word)) (rows_of reg) (shown_word reg word)
unfolding shown_word
shown_word_made reg word = made_of reg (λ index row. shown row (field_in row word)) (shown_word_fits reg word)

-- the word that users see of the words over some cores
pub user_word_at : (overrides : FieldOverrides) (cores : List Core) (words : List ℕ) (reg : SysReg)
    → IsSystemOf overrides cores words → shown_word reg (word_at words reg) ≡ user_word overrides cores reg
unfolding shown_word user_word
user_word_at overrides cores words reg stands =
    word_of-same (λ index row. shown row (field_in row (word_at words reg))) (user_field overrides cores reg) (rows_of reg)
    (λ index row at. ap (shown row) (system_field_at overrides cores words reg index row stands at))

-- that word is made of what users see of each field
pub user_word_made : (overrides : FieldOverrides) (cores : List Core) (reg : SysReg) → AllFit overrides → 0 < length cores
    → IsMadeOf (user_field overrides cores reg) (rows_of reg) (user_word overrides cores reg)
unfolding user_word
user_word_made overrides cores reg fit some =
    made_of reg (user_field overrides cores reg)
    (shown_fits reg (system_field overrides cores reg) (system_field_fits overrides fit cores some reg))
