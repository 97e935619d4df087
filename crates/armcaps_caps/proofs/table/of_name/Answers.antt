use Rattle.std.proofs.Common.{◌∙◌, sym, arith}
use Rattle.armcaps_logic.proofs.Searches.{position_found, position_absent}
use Rattle.armcaps_caps.specs.Capabilities.{capability_named}
use Rattle.armcaps_caps.specs.Facts.{has_name}
use Rattle.armcaps_caps.specs.Rows.{capability_rows}
use Rattle.armcaps_caps.proofs.Listing.{all_listed}
use Rattle.armcaps_caps.proofs.Naming.{named_at}
use Rattle.armcaps_caps.proofs.table.of_name.Goals as goal

pub returns-then-is_named-clause-first : goal.returns-then-is_named-clause-first
unfolding capability_named
returns-then-is_named-clause-first c =
    sym (position_found (has_name c.args.name.now) capability_rows c.loop-number.number (omega (arith, all_listed))
    c.loop-number.invariant (λ other. sym (c.is_named.ensures other) ∙ c.if-is_named.true))

pub returns-then-is_named-clause-named : goal.returns-then-is_named-clause-named
returns-then-is_named-clause-named c = named_at c.args.name.now c.loop-number.number (omega arith)
    (λ other. sym (c.is_named.ensures other) ∙ c.if-is_named.true)

pub returns-clause-first : goal.returns-clause-first
unfolding capability_named
returns-clause-first c =
    sym (position_absent (has_name c.args.name.now) capability_rows
    (λ k other h. c.loop-number.invariant k other (omega (arith, all_listed))))
