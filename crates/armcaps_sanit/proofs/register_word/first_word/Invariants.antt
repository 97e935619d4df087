use Rattle.armcaps_tables.specs.Rows.{rows_of}
use Rattle.armcaps_sanit.specs.System.{local_field}
use Rattle.armcaps_tables.proofs.FieldWords.{SoFar}
use Rattle.armcaps_sanit.proofs.register_word.first_word.Given as goal

-- the word has the values of the fields passed
abbrev pub invariant-loop-index : goal.invariant-loop-index
invariant-loop-index l = SoFar (local_field l.overrides l.core l.reg) (rows_of l.reg) l.index l.word
