use Rattle.armcaps_hwcap.specs.RowOf.{row_of_line}
use Rattle.armcaps_hwcap.proofs.Sets.{with_first, with_second}
use Rattle.armcaps_hwcap.proofs.hw_set.with_row.Goals as goal

pub returns-then-line : goal.returns-then-line
returns-then-line c test passes has =
    with_second c.args.index test (row_of_line c.line_at-line.result) c.args.set c.line_at-line.ensures.line
    c.if-line.true passes has

pub returns-else-line : goal.returns-else-line
returns-else-line c test passes has =
    with_first c.args.index test (row_of_line c.line_at-line.result) c.args.set c.line_at-line.ensures.line
    c.if-line.false passes has
