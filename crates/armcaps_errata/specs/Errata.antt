-- The errata that are worked around, in the order of their capabilities' numbers. Which are listed, and their ranges,
-- are this project's profile after Linux 6.6, and no list of Arm's notices. A line can be held against Linux,
-- arch/arm64/kernel/cpu_errata.c, the entry of `arm64_errata` with the same capability, and against Arm's Software
-- Developer Errata Notice of the product; both have more errata, and Linux's lists more processors.
-- A line has the capability's number, the processors from a first version to a last one, and the fixes. A version rXpY
-- is 0xXY.
use Rattle.std.specs.Prelude.{ℕ, List, [], ◌∷◌}
use Rattle.armcaps_midr.specs.declared.processor.MidrRange.{MidrRange}
use Rattle.armcaps_midr.specs.declared.processor.Fix.{Fix}
use Rattle.armcaps_errata.specs.Erratum.{Erratum}

-- the model Cortex-A53: its MIDR without Variant and Revision, as of each model here (Linux,
-- arch/arm64/include/asm/cputype.h, `MIDR_CORTEX_A53` and so on)
abbrev cortex_a53 : ℕ
cortex_a53 = 0x410fd030

-- the model Cortex-A57
abbrev cortex_a57 : ℕ
cortex_a57 = 0x410fd070

-- the model Cortex-A72
abbrev cortex_a72 : ℕ
cortex_a72 = 0x410fd080

-- the model Cortex-A73
abbrev cortex_a73 : ℕ
cortex_a73 = 0x410fd090

-- the model Cortex-A76
abbrev cortex_a76 : ℕ
cortex_a76 = 0x410fd0b0

-- the model Cortex-A77
abbrev cortex_a77 : ℕ
cortex_a77 = 0x410fd0d0

-- a model's versions from the first to the last, both included
abbrev versions : ℕ → ℕ → ℕ → MidrRange
versions model low high = record { model = model; low = low; high = high }

-- a version that tells by these bits of REVIDR that it is mended
abbrev fixed : ℕ → ℕ → Fix
fixed version revidr = record { rv = version; revidr = revidr }

-- an erratum of its parts
abbrev erratum : ℕ → List MidrRange → List Fix → Erratum
erratum cap ranges fixes = record { cap = cap; ranges = ranges; fixes = fixes }

-- how many errata there are
abbrev pub errata_count : ℕ
errata_count = 10

-- the errata in the order of their capabilities' numbers; behind each its capability's name
unfoldable pub errata_rows : List Erratum
errata_rows =
    erratum 43 (versions cortex_a53 0x00 0x04 ∷ []) (fixed 0x04 0x100 ∷ [])  -- WORKAROUND_843419
    ∷ erratum 44 (versions cortex_a53 0x00 0x04 ∷ []) []  -- WORKAROUND_845719
    ∷ erratum 45 (versions cortex_a53 0x00 0x02 ∷ []) []  -- WORKAROUND_CLEAN_CACHE
    ∷ erratum 46 (versions cortex_a57 0x00 0x12 ∷ []) []  -- WORKAROUND_832075
    ∷ erratum 47 (versions cortex_a57 0x00 0x12 ∷ []) []  -- WORKAROUND_834220
    ∷ erratum 48 (versions cortex_a73 0x00 0xff ∷ []) []  -- WORKAROUND_858921
    ∷ erratum 49 (versions cortex_a76 0x00 0x30 ∷ []) []  -- WORKAROUND_REPEAT_TLBI
    ∷ erratum 50 (versions cortex_a57 0x00 0xff ∷ versions cortex_a72 0x00 0xff ∷ versions cortex_a76 0x00 0x20 ∷ []) []
    -- WORKAROUND_SPECULATIVE_AT
    ∷ erratum 51 (versions cortex_a76 0x00 0x31 ∷ []) []  -- WORKAROUND_1463225
    ∷ erratum 52 (versions cortex_a77 0x00 0x10 ∷ []) []  -- WORKAROUND_1508412
    ∷ []
