-- What holds of the table of hwcaps, as tests that compute.
use Rattle.std.specs.Prelude.{ℕ, ◌+◌, Bool, false, ◌&&◌, ◌==◌, if◌then◌else◌, List, [], ◌∷◌, length, nat_le, position}
use Rattle.std.specs.List.{enumerate_from, list_all}
use Rattle.std.specs.Option.{option_map_or}
use Rattle.std.specs.Str.{bytes_eq}
use Rattle.armcaps_sanit.specs.Reaching.{field_passes, row_keeps}
use Rattle.armcaps_hwcap.specs.declared.row.HwField.{HwField}
use Rattle.armcaps_hwcap.specs.Row.{Row}
use Rattle.armcaps_hwcap.specs.Words.{stands_in}

-- users see the field, and its value over some cores is at least the minimum only where each core's value is
abbrev pub field_holds : HwField → Bool
field_holds field = field_passes (λ row. row.visible && row_keeps field.min row) field.reg field.index

-- each field of a row holds, and there are three at most
abbrev pub row_holds : Row → Bool
row_holds row = list_all field_holds row.fields && nat_le (length row.fields) 3

-- the bits of a word's rows rise from `least` on and are below 64: so no two are one
abbrev pub bits_rise : Bool → ℕ → List Row → Bool
bits_rise second least [] = nat_le least 64
bits_rise second least (row ∷ rows) =
    if stands_in second row then nat_le least row.bit
    && bits_rise second (row.bit + 1) rows else bits_rise second least rows

-- each row is the first of its name
abbrev pub names_differ : List Row → Bool
names_differ rows =
    list_all (λ item. option_map_or (λ place. place == item.0) (position (λ row. bytes_eq row.name item.1.name) rows)
    false) (enumerate_from 0 rows)
