-- What one more line makes of what the lines before come to, part by part.
use Rattle.std.specs.Prelude.{ℕ, ◌-◌, max, Bool, true, false, List, [], ◌∷◌, ◌++◌, length, replicate, slice_index_or, slice_set, Option, Some, None}
use Rattle.std.specs.FinMap.{FinMap, insert}
use Rattle.std.specs.Option.{option_or, option_to_list}
use Rattle.std.specs.Ordering.{nat_cmp}
use Rattle.armcaps_enc.specs.declared.register.SysReg.{SysReg}
use Rattle.armcaps_enc.specs.Registers.{place_of}
use Rattle.armcaps_tables.specs.Core.{Core}
use Rattle.armcaps_text.specs.Before.{Before, boot_given, command_line_given, step_given, name_given, callback_given, conduit_given, layout_given, image_given}
use Rattle.armcaps_text.specs.Meaning.{section_of}
use Rattle.armcaps_text.specs.declared.line.Line.{Line}
use Rattle.armcaps_text.specs.declared.line.Line.TheVariants as line

-- a core of which nothing is told yet
abbrev pub zero_core : Core
zero_core = record { words = replicate 17 0; lengths = 0 }

-- the cores, with the last one changed
abbrev pub with_last : (Core → Core) → List Core → List Core
with_last change cores = slice_set cores (length cores - 1) (change (slice_index_or cores (length cores - 1) zero_core))

-- a core with another word in a register
abbrev pub with_word : SysReg → ℕ → Core → Core
with_word reg word core = record core { words = slice_set core.words (place_of reg) word }

-- a core with other vector lengths
abbrev pub with_lengths : ℕ → Core → Core
with_lengths lengths core = record core { lengths = lengths }

-- the cores begun, after one more line
abbrev pub cores_after : List Core → Line (List ℕ) → List Core
cores_after cores given = elim given [
  | line.Core core ↦ cores ++ zero_core ∷ []
  | line.Register reg word ↦ with_last (with_word reg word) cores
  | line.VectorLengths lengths ↦ with_last (with_lengths lengths) cores
  | _ ↦ cores
]

-- the registers that the core begun last has lines for; before the first core there is none
abbrev pub named_after : List Core → List SysReg → Line (List ℕ) → List SysReg
named_after cores named given = elim given [
  | line.Core core ↦ []
  | line.Register reg word ↦ elim cores [ [] ↦ named | first ∷ others ↦ named ++ reg ∷ [] ]
  | _ ↦ named
]

-- whether the core begun last has a line of vector lengths; before the first core there is none
abbrev pub measured_after : List Core → Bool → Line (List ℕ) → Bool
measured_after cores measured given = elim given [
  | line.Core core ↦ false
  | line.VectorLengths lengths ↦ elim cores [ [] ↦ measured | first ∷ others ↦ true ]
  | _ ↦ measured
]

-- a map with one more entry, if there is one
abbrev pub put_into : {V : Type 0} → FinMap nat_cmp V → Option (ℕ × V) → FinMap nat_cmp V
put_into entries None = entries
put_into entries (Some entry) = insert entries entry.0 entry.1

-- what one more line makes of it all
unfoldable pub learned : Before → Line (List ℕ) → Before
learned before given = record {
  cores = cores_after before.cores given;
  named = named_after before.cores before.named given;
  measured = measured_after before.cores before.measured given;
  boot = option_or (boot_given given) before.boot;
  command_line = option_or (command_line_given given) before.command_line;
  steps = before.steps ++ option_to_list (step_given given);
  numbers = put_into before.numbers (name_given given);
  callbacks = put_into before.callbacks (callback_given given);
  conduit = option_or (conduit_given given) before.conduit;
  layout = option_or (layout_given given) before.layout;
  image = option_or (image_given given) before.image;
  section = max before.section (section_of given);
}
