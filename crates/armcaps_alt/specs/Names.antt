-- What the numbers and callbacks of a table of alternatives mean on a machine.
use Rattle.std.specs.Prelude.{◌==◌, ◌<◌, ℕ, ℤ, List, Option, None, find, map, negsuc, pos}
use Rattle.std.specs.List.{All}
use Rattle.std.specs.List.Sorted.{IsStrictlyIncreasing}
use Rattle.std.specs.Option.{option_map}
use Rattle.armcaps_alt.specs.declared.named_number.Named.{Named}
use Rattle.armcaps_alt.specs.declared.named_number.Named.TheVariants.{Cap, Given}
use Rattle.armcaps_alt.specs.declared.callback_kind.CallbackKind.{CallbackKind}
use Rattle.armcaps_alt.specs.declared.smccc_conduit.Conduit.{Conduit}

-- the named numbers, the named offsets, and the conduit
pub record NameLists : Type 0 where
  pub numbers : List (ℕ × Named)
  pub callbacks : List (ℕ × CallbackKind)
  pub conduit : Conduit

-- the value that stands beside a key
abbrev pub value_at : {V : Type 0} → List (ℕ × V) → ℕ → Option V
value_at entries key = option_map (λ e. e.1) (find (λ e. e.0 == key) entries)

-- what a number stands for
abbrev pub number_named : NameLists → ℕ → Option Named
number_named names number = value_at names.numbers number

-- the kind of the callback at an offset from the image's first byte; no callback lies before it
abbrev pub callback_named : NameLists → ℤ → Option CallbackKind
callback_named names (pos offset) = value_at names.callbacks offset
callback_named names (negsuc _) = None

-- a capability is one of the 53
abbrev pub IsKnown : Named → Type 0
IsKnown (Cap number) = number < 53
IsKnown (Given on) = Unit {0}

-- numbers and offsets rise, and the capabilities are known
pub record AreNames (numbers : List (ℕ × Named)) (callbacks : List (ℕ × CallbackKind)) : Type 0 where
  pub numbers_rise : IsStrictlyIncreasing (map (λ e. e.0) numbers)
  pub offsets_rise : IsStrictlyIncreasing (map (λ e. e.0) callbacks)
  pub known : All (λ e. IsKnown e.1) numbers
