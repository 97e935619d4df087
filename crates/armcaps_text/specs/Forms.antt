-- The forms of lines, by their first tokens.
use Rattle.std.specs.Prelude.{ℕ, if◌then◌else◌, List, codes, Option, Some, None, option_map}
use Rattle.std.specs.Option.{option_or}
use Rattle.std.specs.Str.{bytes_eq}
use Rattle.armcaps_enc.specs.Registers.{register_named}
use Rattle.armcaps_text.specs.declared.format.Format.{Format}
use Rattle.armcaps_text.specs.declared.form.Form.{Form}
use Rattle.armcaps_text.specs.declared.form.Form.TheVariants.{Header, Core, Register, VectorLengths, Boot, CommandLine, Check, Local, Store, Online, Offline, Finalise, Number, Given, Conduit, Callback, Table, End, Image}

-- the form that a word of both formats begins, but for the names of registers
unfoldable pub form_of_words : List ℕ → Option Form
form_of_words token =
    if bytes_eq token (codes "armcaps") then Some Header
    else (if bytes_eq token (codes "core") then Some Core
    else (if bytes_eq token (codes "boot") then Some Boot
    else (if bytes_eq token (codes "cmdline") then Some CommandLine
    else (if bytes_eq token (codes "check") then Some Check
    else (if bytes_eq token (codes "local") then Some Local
    else (if bytes_eq token (codes "store") then Some Store
    else (if bytes_eq token (codes "online") then Some Online
    else (if bytes_eq token (codes "finalise") then Some Finalise
    else (if bytes_eq token (codes "number") then Some Number
    else (if bytes_eq token (codes "given") then Some Given
    else (if bytes_eq token (codes "conduit") then Some Conduit
    else (if bytes_eq token (codes "callback") then Some Callback
    else (if bytes_eq token (codes "table") then Some Table
    else (if bytes_eq token (codes "end") then Some End
    else (if bytes_eq token (codes "image") then Some Image else None)))))))))))))))

-- the form that a word begins which format 2 has alone
unfoldable pub form_of_extension : List ℕ → Option Form
form_of_extension token =
    if bytes_eq token (codes "sve_vl") then Some VectorLengths
    else (if bytes_eq token (codes "offline") then Some Offline else None)

-- the form of line that a first token begins: by a word, or by the name of a register
abbrev pub form_of : Format → List ℕ → Option Form
form_of format token =
    option_or (form_of_words token)
    (option_or (option_map Register (register_named token)) (if format.extended then form_of_extension token else None))

-- the section in which a form of line stands; the sections stand in rising order
abbrev pub section_of_form : Form → ℕ
section_of_form Header = 0
section_of_form Core = 1
section_of_form (Register reg) = 1
section_of_form VectorLengths = 1
section_of_form Boot = 2
section_of_form CommandLine = 3
section_of_form Check = 4
section_of_form Local = 4
section_of_form Store = 4
section_of_form Online = 4
section_of_form Offline = 4
section_of_form Finalise = 4
section_of_form Number = 5
section_of_form Given = 5
section_of_form Conduit = 6
section_of_form Callback = 7
section_of_form Table = 8
section_of_form End = 9
section_of_form Image = 9
