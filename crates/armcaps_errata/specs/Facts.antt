-- What holds of the table of errata, as tests that compute.
use Rattle.std.specs.Prelude.{◌&&◌, ◌==◌, Bool, nat_le}
use Rattle.std.specs.List.{list_all, list_any}
use Rattle.armcaps_midr.specs.declared.processor.MidrRange.{MidrRange}
use Rattle.armcaps_midr.specs.declared.processor.Fix.{Fix}
use Rattle.armcaps_midr.specs.Midr.{model_of}
use Rattle.armcaps_errata.specs.Erratum.{Erratum}

-- a range names a model, without Variant and Revision, and its first version is not above its last one
abbrev pub range_holds : MidrRange → Bool
range_holds range = (model_of range.model == range.model) && nat_le range.low range.high

-- a fix is of a version that the range holds
abbrev pub is_within : Fix → MidrRange → Bool
is_within fix range = nat_le range.low fix.rv && nat_le fix.rv range.high

-- what holds of the ranges and fixes of an erratum
abbrev pub erratum_holds : Erratum → Bool
erratum_holds erratum =
    list_all range_holds erratum.ranges && list_all (λ fix. list_any (is_within fix) erratum.ranges) erratum.fixes
