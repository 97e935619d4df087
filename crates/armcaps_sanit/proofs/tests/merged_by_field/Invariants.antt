use Rattle.armcaps_tables.specs.Rows.{rows_of}
use Rattle.armcaps_rule.specs.Rule.{merged}
use Rattle.armcaps_tables.specs.Fields.{field_in}
use Rattle.armcaps_tables.proofs.FieldWords.{SoFar}
use Rattle.armcaps_sanit.proofs.tests.merged_by_field.Given as goal

-- the word has the merged values of the fields passed
abbrev pub invariant-loop-index : goal.invariant-loop-index
invariant-loop-index l = SoFar (λ index row. merged row.rule row.safe (field_in row l.current) (field_in row l.word)) (rows_of l.reg) l.index l.merged
