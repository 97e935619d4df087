-- A row of the code as plain data.
use Rattle.armcaps_hwcap.specs.declared.row.HwRow.{HwRow}
use Rattle.armcaps_hwcap.specs.declared.table.Line.{Line}
use Rattle.armcaps_hwcap.specs.Row.{Row}

-- each part of the row
abbrev pub row_of : HwRow → Row
row_of row = record
    { name = row.name.now; second = row.second; bit = row.bit; always = row.always; fields = row.fields.items }

-- each part of a line of the code's table
abbrev pub row_of_line : Line → Row
row_of_line line = record
    { name = line.name.now; second = line.second; bit = line.bit; always = line.always; fields = line.fields.now }
