-- What all cores of a list have together, each of them has; and a system's words and the cores that it stands for
-- agree.
use Rattle.std.proofs.Common.{◌≡◌, ℕ, Bool, true, false, List, ◌∷◌, ◌++◌, Option, Some, None, slice_get, refl, sym, ◌∙◌, ap}
use Rattle.std.specs.Prelude.{ℤ, int_le}
use Rattle.std.specs.Option.{option_map, option_map_or}
use Rattle.std.proofs.lemmas.Bool.{eqb-true, false≢true}
use Rattle.armcaps_enc.specs.declared.register.SysReg.{SysReg}
use Rattle.armcaps_enc.specs.declared.register.SysReg.TheVariants.{CtrEl0}
use Rattle.armcaps_tables.specs.Core.{Core, core_word}
use Rattle.armcaps_tables.specs.Row.{Row as FieldRow}
use Rattle.armcaps_tables.specs.Rows.{rows_of}
use Rattle.armcaps_sanit.specs.Reaching.{row_keeps, word_values}
use Rattle.armcaps_tables.specs.Overriding.{FieldOverrides}
use Rattle.armcaps_sanit.specs.System.{local_field, system_field, IsSystemOf}
use Rattle.armcaps_sanit.specs.Varying.{word_varies}
use Rattle.armcaps_sanit.proofs.Reaching.{field_passes-same, local_keeps}
use Rattle.armcaps_sanit.proofs.SystemWords.{system_field_at}
use Rattle.armcaps_caps.specs.declared.cap_row.Test.{Test}
use Rattle.armcaps_caps.specs.declared.cap_row.Test.TheVariants.{Always, AtLeast, SameAsBoot, Erratum, CacheType}
use Rattle.armcaps_caps.specs.Capabilities.{capability_over, core_has_capability, core_passes, system_has_capability, system_passes, test_of}
use Rattle.armcaps_caps.specs.Facts.{test_holds}
use Rattle.armcaps_caps.specs.Row.{Row}
use Rattle.armcaps_caps.specs.Rows.{capability_rows}
use Rattle.armcaps_caps.proofs.Listing.{test_at_holds}

-- two ways to tell the values of fields
abbrev Values : Type 0
Values = SysReg → ℕ → FieldRow → ℤ

-- where they agree, the system passes the same tests
system_passes-same : (one other : Values)
    → ((reg : SysReg) (index : ℕ) (row : FieldRow) → slice_get (rows_of reg) index ≡ Some row
    → one reg index row ≡ other reg index row)
    → (test : Test) → system_passes one test ≡ system_passes other test
system_passes-same one other agree Always = refl
system_passes-same one other agree (AtLeast reg index minimum) =
    field_passes-same _ _ reg index (λ row at. ap (int_le minimum) (agree reg index row at))
system_passes-same one other agree (SameAsBoot reg index minimum) = refl
system_passes-same one other agree (Erratum index) = refl
system_passes-same one other agree CacheType = refl

option_map_or-same : (one other : Test → Bool) → ((test : Test) → one test ≡ other test) → (found : Option Test)
    → option_map_or one found false ≡ option_map_or other found false
option_map_or-same one other agree None = refl
option_map_or-same one other agree (Some test) = agree test

pub system_has_capability-over : (overrides : FieldOverrides) (cores : List Core) (words : List ℕ) (number : ℕ)
    → IsSystemOf overrides cores words → system_has_capability words number ≡ capability_over overrides cores number
unfolding system_has_capability capability_over
system_has_capability-over overrides cores words number stands =
    option_map_or-same (system_passes (word_values words)) (system_passes (system_field overrides cores))
    (system_passes-same (word_values words) (system_field overrides cores)
    (λ reg index row at. system_field_at overrides cores words reg index row stands at))
    (test_of number)

-- the test of a number holds
pub test_of_holds : (number : ℕ) (test : Test) → test_of number ≡ Some test → test_holds number test ≡ true
unfolding test_of
test_of_holds number test is = at (slice_get capability_rows number) refl is where
  at : (listed : Option Row) → slice_get capability_rows number ≡ listed
      → option_map (λ (row : Row). row.test) listed ≡ Some test → test_holds number test ≡ true
  at None found same = absurd (cc)
  at (Some row) found same =
      let own : row.test ≡ test = cc in
      ap (test_holds number) (sym own) ∙ (test_at_holds number row found).0

-- a test that all cores of a list pass together each of them passes
passes_each : (overrides : FieldOverrides) (before after : List Core) (boot core : Core) (ctr number : ℕ) (test : Test)
    → test_holds number test ≡ true
    → system_passes (system_field overrides (before ++ core ∷ after)) test ≡ true
    → core_passes overrides boot ctr core test ≡ true
passes_each overrides before after boot core ctr number Always holds passes = refl
passes_each overrides before after boot core ctr number (AtLeast reg index minimum) holds passes =
    at (slice_get (rows_of reg) index) holds passes where
      at : (listed : Option FieldRow) → option_map_or (row_keeps minimum) listed false ≡ true
          → option_map_or (λ row. int_le minimum (system_field overrides (before ++ core ∷ after) reg index row)) listed
          false ≡ true
          → option_map_or (λ row. int_le minimum (local_field overrides core reg index row)) listed false ≡ true
      at None holds passes = passes
      at (Some row) holds passes = local_keeps overrides before after core reg index row minimum holds passes
passes_each overrides before after boot core ctr number (SameAsBoot reg index minimum) holds passes =
    absurd (false≢true passes)
passes_each overrides before after boot core ctr number (Erratum index) holds passes = absurd (false≢true passes)
passes_each overrides before after boot core ctr number CacheType holds passes = absurd (false≢true passes)

pub capability_over-each : (overrides : FieldOverrides) (before after : List Core) (boot core : Core) (ctr number : ℕ)
    → capability_over overrides (before ++ core ∷ after) number ≡ true
    → core_has_capability overrides boot ctr core number ≡ true
unfolding capability_over core_has_capability
capability_over-each overrides before after boot core ctr number = at (test_of number) refl where
  at : (found : Option Test) → test_of number ≡ found
      → option_map_or (system_passes (system_field overrides (before ++ core ∷ after))) found false ≡ true
      → option_map_or (core_passes overrides boot ctr core) found false ≡ true
  at None is passes = passes
  at (Some test) is passes = passes_each overrides before after boot core ctr number test
      (test_of_holds number test is) passes

-- the same, by the words of a system
pub system_has_capability-each : (overrides : FieldOverrides) (before after : List Core) (words : List ℕ)
    (boot core : Core) (ctr number : ℕ)
    → IsSystemOf overrides (before ++ core ∷ after) words → system_has_capability words number ≡ true
    → core_has_capability overrides boot ctr core number ≡ true
system_has_capability-each overrides before after words boot core ctr number stands has =
    capability_over-each overrides before after boot core ctr number
    (sym (system_has_capability-over overrides (before ++ core ∷ after) words number stands) ∙ has)

-- the word of CTR_EL0 that is compared with counts for the cache type alone
pub core_has_capability-ctr : (overrides : FieldOverrides) (boot core : Core) (one other number : ℕ) → (number ≡ 42 → ⊥)
    → core_has_capability overrides boot one core number ≡ core_has_capability overrides boot other core number
unfolding core_has_capability
core_has_capability-ctr overrides boot core one other number differ = at (test_of number) refl where
  at : (found : Option Test) → test_of number ≡ found
      → option_map_or (core_passes overrides boot one core) found false
      ≡ option_map_or (core_passes overrides boot other core) found false
  at None is = refl
  at (Some Always) is = refl
  at (Some (AtLeast reg index minimum)) is = refl
  at (Some (SameAsBoot reg index minimum)) is = refl
  at (Some (Erratum index)) is = refl
  at (Some CacheType) is = absurd (differ (eqb-true number 42 (test_of_holds number CacheType is)))

-- the capability of the cache type
pub core_has_capability-cache : (overrides : FieldOverrides) (boot core : Core) (ctr : ℕ)
    → core_has_capability overrides boot ctr core 42 ≡ word_varies CtrEl0 ctr (core_word core CtrEl0)
unfolding core_has_capability test_of capability_rows
core_has_capability-cache overrides boot core ctr = refl
