use Rattle.std.proofs.Common.{◌≡◌, ◌∙◌, ap, sym, refl, cond, None, true, Bool}
use Rattle.armcaps_tables.specs.Core.{Core}
use Rattle.armcaps_board.specs.Board.{core_at}
use Rattle.armcaps_boot.specs.Causes.{cause_at_verification}
use Rattle.armcaps_boot.specs.Machine.{world_of}
use Rattle.armcaps_boot.specs.Scopes.{lack_of}
use Rattle.armcaps_boot.specs.World.{early_cores}
use Rattle.armcaps_boot.proofs.Asked.{lack-at_verification}
use Rattle.armcaps_boot.proofs.machine.Machine.cause_at_local.Goals as goal

pub returns-clause-cause : goal.returns-clause-cause
returns-clause-cause c =
    let w = world_of c.args.self.now in
    let final : w.final ≡ true = c.if-not-self.false in
    c.cause_at_verification.ensures.cause
    ∙ ap (λ (x : Core). lack_of c.args.self.now.enabled w.hwcaps w.lengths w.board x c.word-ctr.result) c.core.ensures
    ∙ ap (lack_of c.args.self.now.enabled w.hwcaps w.lengths w.board (core_at w.board.cores c.args.core)) c.word-ctr.ensures.word
    ∙ lack-at_verification w c.requires.facts final c.args.self.now.enabled (core_at w.board.cores c.args.core) refl
    ∙ sym (ap (λ (b : Bool). cond b (cause_at_verification w.board (early_cores w.board w.states) c.args.core) None) final)
