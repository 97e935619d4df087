use Rattle.std.proofs.Common.{◌∙◌, ap, refl}
use Rattle.armcaps_tables.specs.Core.{Core}
use Rattle.armcaps_board.specs.Board.{core_at}
use Rattle.armcaps_boot.specs.Machine.{world_of}
use Rattle.armcaps_boot.specs.Scopes.{held_at_check}
use Rattle.armcaps_boot.proofs.Asked.{held-at_check}
use Rattle.armcaps_boot.proofs.machine.Machine.cause_at_check.Goals as goal

pub returns-clause-cause : goal.returns-clause-cause
returns-clause-cause c =
    let w = world_of c.args.self.now in
    c.cause_at_check.ensures.cause
    ∙ ap (λ (x : Core). held_at_check c.args.self.now.enabled w.board x c.word-ctr.result) c.core.ensures
    ∙ ap (held_at_check c.args.self.now.enabled w.board (core_at w.board.cores c.args.core)) c.word-ctr.ensures.word
    ∙ held-at_check w c.requires.facts c.args.self.now.enabled c.args.core refl
