-- Which processors are meant, by MIDR_EL1 and REVIDR_EL1 (Arm ARM DDI 0487, "MIDR_EL1, Main ID Register" and
-- "REVIDR_EL1, Revision ID Register"), as Linux tells them (arch/arm64/include/asm/cputype.h,
-- arch/arm64/kernel/cpu_errata.c).
use Rattle.std.specs.Prelude.{ℕ, ◌+◌, ◌*◌, ◌/◌, ◌%◌, ◌^◌, Bool, not, ◌&&◌, ◌==◌, nat_le, List, bit_and}
use Rattle.std.specs.List.{list_any}
use Rattle.armcaps_midr.specs.declared.processor.MidrRange.{MidrRange}
use Rattle.armcaps_midr.specs.declared.processor.Fix.{Fix}

-- a processor's model: MIDR without Variant (bits 23 to 20) and Revision (bits 3 to 0) (Linux, `MIDR_CPU_MODEL_MASK`)
abbrev pub model_of : ℕ → ℕ
model_of midr = bit_and midr 0xff0ffff0

-- a processor's version: 16 * Variant + Revision, so that r1p2 is 0x12 (Arm's Software Developers Errata Notices write
-- rXpY)
abbrev pub version_of : ℕ → ℕ
version_of midr = 16 * (midr / 2 ^ 20 % 16) + midr % 16

-- whether a processor is of the range's model, and its version is one from the first to the last
-- (Linux, `is_midr_in_range`)
abbrev pub is_in_range : ℕ → MidrRange → Bool
is_in_range midr range =
    (model_of midr == range.model) && (nat_le range.low (version_of midr) && nat_le (version_of midr) range.high)

-- whether a processor is of the version that can be mended, and REVIDR has one of the bits that tell so
-- (Linux, `is_affected_midr_range`)
abbrev pub is_fixed : ℕ → ℕ → Fix → Bool
is_fixed midr revidr fix = (version_of midr == fix.rv) && not (bit_and revidr fix.revidr == 0)

-- whether a processor is in one of the ranges, and no fix of it is told
abbrev pub is_affected : ℕ → ℕ → List MidrRange → List Fix → Bool
is_affected midr revidr ranges fixes = list_any (is_in_range midr) ranges && not (list_any (is_fixed midr revidr) fixes)
