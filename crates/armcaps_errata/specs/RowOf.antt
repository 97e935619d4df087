-- A row of the code as plain data.
use Rattle.armcaps_errata.specs.declared.erratum_row.ErratumRow.{ErratumRow}
use Rattle.armcaps_errata.specs.Erratum.{Erratum}

-- each part of the row
abbrev pub erratum_of : ErratumRow → Erratum
erratum_of row = record { cap = row.cap; ranges = row.ranges.items; fixes = row.fixes.items }
