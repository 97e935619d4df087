-- What the words of a command line assign to the rows of registers. Where no source is named, the rule is this
-- project's own.
use Rattle.std.specs.Prelude.{ℕ, ◌%◌, ◌^◌, ◌==◌, ◌&&◌, Bool, false, if◌then◌else◌, List, [], ◌∷◌, ◌++◌, length, map, codes, find, position, Option}
use Prim.Native.String.{String}
use Rattle.std.specs.Option.{option_map, option_map_or, option_and_then, option_to_list}
use Rattle.std.specs.List.{flat_map, range_with_len, before_first, after_first}
use Rattle.std.specs.Str.{bytes_eq}
use Rattle.armcaps_enc.specs.Registers.{id_registers, place_of, short_name_of}
use Rattle.armcaps_enc.specs.declared.register.SysReg.{SysReg}
use Rattle.armcaps_enc.specs.declared.register.SysReg.TheVariants.{IdAa64Pfr0El1, IdAa64Pfr1El1, IdAa64Zfr0El1, IdAa64Smfr0El1, IdAa64Isar1El1, IdAa64Isar2El1}
use Rattle.armcaps_tables.specs.Facts.{has_name}
use Rattle.armcaps_tables.specs.Rows.{rows_of}
use Rattle.armcaps_cmdline.specs.declared.alias.Alias.{Alias}
use Rattle.armcaps_cmdline.specs.declared.alias.Alias.TheVariants.{NoSve, NoSme, NoBti, NoMte, NoMops, NoPauth}
use Rattle.armcaps_lex.specs.Digits.{value_of}
use Rattle.armcaps_cmdline.specs.Words.{counted_words}

-- a number for a row: the row's register, its place among the register's rows, and the number
pub record Assignment : Type 0 where
  pub register : SysReg
  pub index : ℕ
  pub number : ℕ

-- a number for a field: the field's register and name, and the number
pub record Setting : Type 0 where
  pub register : SysReg
  pub field : List ℕ
  pub number : ℕ

-- a number for the row that has a name; nothing where no row of the register has it
abbrev pub assigned : SysReg → List ℕ → ℕ → List Assignment
assigned register field number =
    option_map_or (λ index. record { register = register; index = index; number = number } ∷ [])
    (position (has_name field) (rows_of register)) []

-- 0 for each row of a register
abbrev pub zeros_for : SysReg → List Assignment
zeros_for register =
    map (λ index. record { register = register; index = index; number = 0 })
    (range_with_len 0 (length (rows_of register)))

-- whether a field is this one
abbrev pub is_field : SysReg → List ℕ → SysReg → List ℕ → Bool
is_field register field other name = (place_of register == place_of other) && bytes_eq field name

-- what a field at 0 sets to 0 as well (own rule): without SVE there is none of its features and no SME, without SME
-- none of SME's
abbrev pub dependents : SysReg → List ℕ → List Assignment
dependents register field =
    if is_field register field IdAa64Pfr0El1 (codes "sve")
    then zeros_for IdAa64Zfr0El1 ++ (assigned IdAa64Pfr1El1 (codes "sme") 0 ++ zeros_for IdAa64Smfr0El1)
    else (if is_field register field IdAa64Pfr1El1 (codes "sme") then zeros_for IdAa64Smfr0El1 else [])

-- whether a number is 0 once it is cut to the width of the row that has a name (own rule: cut first, then judged)
abbrev pub is_cut_to_zero : SysReg → List ℕ → ℕ → Bool
is_cut_to_zero register field number =
    option_map_or (λ row. number % 2 ^ row.width == 0) (find (has_name field) (rows_of register)) false

-- a setting written out: the number for its row and, where the row gets 0, the row's dependents
abbrev pub assignments_to : Setting → List Assignment
assignments_to setting =
    assigned setting.register setting.field setting.number
    ++ (if is_cut_to_zero setting.register setting.field setting.number
    then dependents setting.register setting.field
    else [])

-- the word of an alias (Linux, Documentation/admin-guide/kernel-parameters.txt, `arm64.nosve` and those beside it)
abbrev pub alias_word : Alias → List ℕ
alias_word NoSve = codes "arm64.nosve"
alias_word NoSme = codes "arm64.nosme"
alias_word NoBti = codes "arm64.nobti"
alias_word NoMte = codes "arm64.nomte"
alias_word NoMops = codes "arm64.nomops"
alias_word NoPauth = codes "arm64.nopauth"

-- the setting of a register's field, by its name, to 0
abbrev pub off : SysReg → String → Setting
off register field = record { register = register; field = codes field; number = 0 }

-- the fields that an alias sets to 0 (Linux, arch/arm64/kernel/idreg-override.c, `aliases`)
abbrev pub alias_settings : Alias → List Setting
alias_settings NoSve = off IdAa64Pfr0El1 "sve" ∷ []
alias_settings NoSme = off IdAa64Pfr1El1 "sme" ∷ []
alias_settings NoBti = off IdAa64Pfr1El1 "bt" ∷ []
alias_settings NoMte = off IdAa64Pfr1El1 "mte" ∷ []
alias_settings NoMops = off IdAa64Isar2El1 "mops" ∷ []
alias_settings NoPauth =
    off IdAa64Isar1El1 "gpi" ∷ off IdAa64Isar1El1 "gpa" ∷ off IdAa64Isar1El1 "api" ∷ off IdAa64Isar1El1 "apa"
    ∷ off IdAa64Isar2El1 "gpa3" ∷ off IdAa64Isar2El1 "apa3" ∷ []

-- all aliases
abbrev pub aliases : List Alias
aliases = NoSve ∷ NoSme ∷ NoBti ∷ NoMte ∷ NoMops ∷ NoPauth ∷ []

-- the alias that a word is
unfoldable pub alias_named : List ℕ → Option Alias
alias_named word = find (λ alias. bytes_eq (alias_word alias) word) aliases

-- the register that a word names without `_el1`, as `id_aa64pfr0` (own rule: an ID register, so neither CTR_EL0 nor
-- DCZID_EL0)
unfoldable pub register_of : List ℕ → Option SysReg
register_of name = find (λ register. bytes_eq (short_name_of register) name) id_registers

-- whether a byte is a dot, which ends the register in a word
abbrev pub is_dot : ℕ → Bool
is_dot byte = byte == 46

-- whether a byte is an equals sign, behind which a word has its value
abbrev pub is_equals : ℕ → Bool
is_equals byte = byte == 61

-- what stands in a word in the place of REG of `REG.FIELD=VALUE`: what comes before the first dot, before the first
-- equals sign
abbrev pub register_part : List ℕ → List ℕ
register_part word = before_first is_dot (before_first is_equals word)

-- what stands in a word in the place of FIELD: what comes after the first dot, before the first equals sign; empty
-- where there is no dot
abbrev pub field_part : List ℕ → List ℕ
field_part word = after_first is_dot (before_first is_equals word)

-- what stands in a word in the place of VALUE: what comes after the first equals sign; empty where there is none
abbrev pub value_part : List ℕ → List ℕ
value_part word = after_first is_equals word

-- the setting that a word `REG.FIELD=VALUE` is; a field that no row has, the empty one too, gets nothing later
abbrev pub setting_of : List ℕ → Option Setting
setting_of word =
    option_and_then
    (λ register. option_map
    (λ number. record { register = register; field = field_part word; number = number }) (value_of (value_part word)))
    (register_of (register_part word))

-- the settings that a word stands for: those of an alias, or its own
abbrev pub settings_of : List ℕ → List Setting
settings_of word = option_map_or alias_settings (alias_named word) (option_to_list (setting_of word))

-- the assignments that a word stands for, one after the other
abbrev pub assignments_of : List ℕ → List Assignment
assignments_of word = flat_map assignments_to (settings_of word)

-- the assignments of a command line: those of its words, joined
abbrev pub assignments : List ℕ → List Assignment
assignments text = flat_map assignments_of (counted_words text)
