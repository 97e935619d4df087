use Rattle.std.proofs.Common.{◌/◌, ◌^◌, ◌∙◌, ap}
use Rattle.std.specs.Prelude.{◌==◌}
use Rattle.std.specs.Int.RustNames.{bit_and}
use Rattle.armcaps_hwcap.specs.RowOf.{row_of_line}
use Rattle.armcaps_hwcap.proofs.Sets.{set_has_row-at, set_has_row-empty, set_has_row-made}
use Rattle.armcaps_hwcap.proofs.hw_set.HwSet.contains.Goals as goal

pub returns-clause-bit : goal.returns-clause-bit
returns-clause-bit c =
    ap (λ word. bit_and (word / 2 ^ c.line_at-line.result.bit) 1 == 1) c.word.ensures
    ∙ set_has_row-at c.args.self.now c.args.index (row_of_line c.line_at-line.result) c.line_at-line.ensures.line

pub returns-clause-made : goal.returns-clause-made
returns-clause-made c has first second =
    ap (λ word. bit_and (word / 2 ^ c.line_at-line.result.bit) 1 == 1) c.word.ensures
    ∙ set_has_row-at c.args.self.now c.args.index (row_of_line c.line_at-line.result) c.line_at-line.ensures.line
    ∙ set_has_row-made c.args.self.now has c.args.index c.requires first second

pub returns-clause-empty : goal.returns-clause-empty
returns-clause-empty c first second =
    ap (λ word. bit_and (word / 2 ^ c.line_at-line.result.bit) 1 == 1) c.word.ensures
    ∙ set_has_row-at c.args.self.now c.args.index (row_of_line c.line_at-line.result) c.line_at-line.ensures.line
    ∙ set_has_row-empty c.args.self.now c.args.index first second
