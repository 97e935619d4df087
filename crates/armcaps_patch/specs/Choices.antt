-- What is known of the numbers and the callbacks of a table. Of this file nothing has to be believed.
use Rattle.std.specs.Prelude.{◌≡◌, ◌<◌, ℕ, Bool, List, get_or, length}
use Rattle.std.specs.Option.{option_map}
use Rattle.armcaps_alt.specs.Entries.{is_there}
use Rattle.armcaps_alt.specs.Names.{NameLists, callback_named, number_named}
use Rattle.armcaps_patch.specs.declared.callbacks.Asked.{Asked}
use Rattle.armcaps_patch.specs.declared.choice.Choice.{Choice}
use Rattle.armcaps_patch.specs.declared.choice.Choice.TheVariants.{Known, Unasked}

-- what is known of a number is whether what it stands for is there, by any test that agrees on the 53 capabilities
abbrev pub IsChoice : NameLists → (ℕ → Bool) → ℕ → Choice → Type 0
IsChoice names enabled number Unasked = Unit {0}
IsChoice names enabled number (Known found) =
    (other : ℕ → Bool) → ((k : ℕ) → k < 53 → enabled k ≡ other k)
    → found ≡ option_map (is_there other) (number_named names number)

-- so of each number
abbrev pub AreChoices : NameLists → (ℕ → Bool) → List Choice → Type 0
AreChoices names enabled choices =
    (number : ℕ) (d : Choice) → number < length choices → IsChoice names enabled number (get_or choices number d)

-- the callbacks that were looked up have the kinds that the names give
abbrev pub AreAsked : NameLists → List Asked → Type 0
AreAsked names asked =
    (place : ℕ) (d : Asked) → place < length asked
    → (get_or asked place d).kind ≡ callback_named names (get_or asked place d).offset
