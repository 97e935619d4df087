-- Which errata a core has.
use Rattle.std.specs.Prelude.{ℕ, ◌%◌, ◌^◌, Bool, false, slice_get, unwrap_or}
use Rattle.std.specs.Option.{option_map}
use Rattle.armcaps_midr.specs.Midr.{is_affected}
use Rattle.armcaps_enc.specs.declared.register.SysReg.TheVariants.{MidrEl1, RevidrEl1}
use Rattle.armcaps_tables.specs.Core.{Core, core_word}
use Rattle.armcaps_errata.specs.Erratum.{Erratum}
use Rattle.armcaps_errata.specs.Errata.{errata_rows}

-- a word's low 32 bits, which alone tell of a processor (Linux, arch/arm64/kernel/cpu_errata.c: MIDR and REVIDR are
-- u32)
abbrev pub low_half : ℕ → ℕ
low_half word = word % 2 ^ 32

-- whether a core has an erratum, by its MIDR and REVIDR
abbrev pub is_affected_by : Core → Erratum → Bool
is_affected_by core erratum =
    is_affected (low_half (core_word core MidrEl1)) (low_half (core_word core RevidrEl1)) erratum.ranges erratum.fixes

-- whether a core has the erratum at a place of the table, where there is one
abbrev pub has_erratum : Core → ℕ → Bool
has_erratum core index = unwrap_or (option_map (is_affected_by core) (slice_get errata_rows index)) false
