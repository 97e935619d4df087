use Rattle.std.proofs.Common.{◌&&◌, false, arith, sym, ◌∙◌}
use Rattle.armcaps_sanit.specs.Varying.{core_varies}
use Rattle.armcaps_board.specs.Board.{boot_core, core_at}
use Rattle.armcaps_boot.specs.States.{is_admitted}
use Rattle.armcaps_boot.specs.World.{state_at}
use Rattle.armcaps_report.proofs.Searching.{below_more, none_chosen, some_chosen}
use Rattle.armcaps_report.proofs.varying.varies_among.Goals as goal

pub returns-then-differs : goal.returns-then-differs
returns-then-differs c =
    sym (some_chosen (λ number. is_admitted (state_at c.args.boot.now.states number))
    (λ core. core_varies (boot_core c.args.boot.now.board) core c.args.register) c.args.boot.now.board.cores c.loop-number.number (omega (arith, c.count-number-end.ensures))
    (sym c.differs.ensures ∙ c.if-differs.true))

pub loop-number-preserved : goal.loop-number-preserved
loop-number-preserved c =
    below_more (λ k. is_admitted (state_at c.args.boot.now.states k) && core_varies (boot_core c.args.boot.now.board) (core_at c.args.boot.now.board.cores k) c.args.register)
    false c.loop-number.number (sym c.differs.ensures ∙ c.if-differs.false) c.loop-number.invariant

pub returns : goal.returns
returns c =
    sym (none_chosen (λ number. is_admitted (state_at c.args.boot.now.states number))
    (λ core. core_varies (boot_core c.args.boot.now.board) core c.args.register) c.args.boot.now.board.cores
    (λ k below. c.loop-number.invariant k (omega (arith, c.count-number-end.ensures))))
