-- A row of the code as plain data.
use Rattle.armcaps_tables.specs.declared.field_row.FieldRow.{FieldRow}
use Rattle.armcaps_tables.specs.Row.{Row}

-- each part of the row
abbrev pub row_of : FieldRow → Row
row_of row =
    record {
      name = row.name.now;
      shift = row.span.shift;
      width = row.span.width;
      signed = row.span.signed;
      rule =
          row.rule;
      safe = row.safe;
      visible = row.visible;
      strict = row.strict;
    }
