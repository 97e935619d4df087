use Rattle.armcaps_tables.proofs.Tables.{all_rows, tables}
use Rattle.armcaps_tables.proofs.Places.{one_name, row_in_word, row_safe, row_unsigned, rows_apart}
use Rattle.armcaps_tables.proofs.table.tables_hold.Goals as goal

pub returns-clause-holds : goal.returns-clause-holds
returns-clause-holds c = tables

pub returns-clause-apart : goal.returns-clause-apart
returns-clause-apart c = rows_apart

pub returns-clause-within : goal.returns-clause-within
returns-clause-within c = row_in_word

pub returns-clause-safe : goal.returns-clause-safe
returns-clause-safe c = row_safe

pub returns-clause-unsigned : goal.returns-clause-unsigned
returns-clause-unsigned c = row_unsigned

pub returns-clause-names : goal.returns-clause-names
returns-clause-names c = one_name

pub returns-clause-all : goal.returns-clause-all
returns-clause-all c = all_rows
