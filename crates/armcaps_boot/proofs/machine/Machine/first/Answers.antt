use Rattle.std.proofs.Common.{ap}
use Rattle.armcaps_board.specs.Board.{Board}
use Rattle.armcaps_boot.proofs.Beginning.{first_world-same, own_alone}
use Rattle.armcaps_boot.proofs.machine.Machine.first.Goals as goal

pub returns-clause-first : goal.returns-clause-first
returns-clause-first c =
    let core = c.boot_core.ensures in
    let overrides = ap (λ (b : Board). b.overrides) c.board.view_is in
    let system = rw (core, overrides) at c.new-system.ensures.stands in
    let ctr = rw core at c.get-ctr.ensures.word in
    let noted = rw (core, ctr) at c.with_own-noted.ensures in
    let enabled = rw (core, ctr) at c.with_own-enabled.ensures in
    let lengths = rw core at c.vls.ensures in
    first_world-same c.args.board c.new-system.result c.args.states.items c.with_own-noted.result c.with_own-enabled.result c.vls.result
    system.words c.requires.states
    (own_alone _ c.empty.result c.with_own-noted.result c.empty.ensures.none noted)
    (own_alone _ c.empty-2.result c.with_own-enabled.result c.empty-2.ensures.none enabled)
    lengths
