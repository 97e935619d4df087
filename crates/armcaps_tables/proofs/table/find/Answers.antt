use Rattle.std.proofs.Common.{◌∙◌, sym, arith}
use Rattle.armcaps_tables.specs.Rows.{rows_of}
use Rattle.armcaps_tables.specs.Facts.{has_name}
use Rattle.armcaps_logic.proofs.Searches.{position_found, position_absent}
use Rattle.armcaps_tables.proofs.table.find.Goals as goal

pub returns-then-is_named-clause-first : goal.returns-then-is_named-clause-first
returns-then-is_named-clause-first c =
    sym (position_found (has_name c.args.name.now) (rows_of c.args.reg) c.loop-index.index
    (omega arith) c.loop-index.invariant (λ other. sym (c.is_named.ensures other) ∙ c.if-is_named.true))

pub returns-clause-first : goal.returns-clause-first
returns-clause-first c =
    sym (position_absent (has_name c.args.name.now) (rows_of c.args.reg)
    (λ k other h. c.loop-index.invariant k other (omega arith)))
